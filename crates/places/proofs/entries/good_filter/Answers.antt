-- `entries::good_filter` meets its contract.
-- Assumes nothing.
use mathlib.Core.Path.{sym}
use Rattle.places.proofs.Far.{far}
use Rattle.places.proofs.entries.good_filter.Goals as goal

pub returns-then-provider-gt-PROVIDERS : goal.returns-then-provider-gt-PROVIDERS
returns-then-provider-gt-PROVIDERS c = sym (far c.args.marks c.args.last c.args.w c.if-provider-gt-PROVIDERS.true)

pub returns : goal.returns
returns c = rw (c.is_code-known.ensures, c.has-here.ensures)
