-- `soundbooks::good_split` meets its contract.
-- Assumes nothing.
use Rattle.soundbooks.proofs.good_split.Goals as goal

pub returns : goal.returns
returns c = rw (c.apart-clear.ensures, c.is_code-known.ensures, c.is_code-known_other.ensures)
