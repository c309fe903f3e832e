-- `entries::good_code` meets its contract.
-- Assumes nothing.
use Rattle.places.proofs.entries.good_code.Goals as goal

pub returns : goal.returns
returns c = rw (c.is_code-known.ensures, c.has-here.ensures)
