-- `join::is_worked` meets its contract. Assumes nothing.
use mathlib.Core.Bool.{or-false}
use Rattle.scan.proofs.join.is_worked.Goals as goal

pub returns : goal.returns
returns c = simp or-false
