-- `lines::meets` meets its contract. Assumes nothing.
use mathlib.Core.Path.{refl}
use Rattle.lines.specs.Pairs.{meet}
use Rattle.lines.proofs.meets.Goals as goal

pub returns : goal.returns
unfolding meet
returns c = refl
