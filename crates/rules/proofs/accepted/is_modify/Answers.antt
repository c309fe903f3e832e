-- `accepted::is_modify` meets its contract. Assumes nothing.
use mathlib.Core.Bool.{or-false}
use Rattle.rules.proofs.accepted.is_modify.Goals as goal

pub returns : goal.returns
returns c = rw (or-false _)
