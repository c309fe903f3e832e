-- `rules::is_create` meets its contract. Assumes nothing.
use mathlib.Core.Bool.{or-false}
use Rattle.rules.proofs.is_create.Goals as goal

pub returns : goal.returns
returns c = rw (or-false _)
