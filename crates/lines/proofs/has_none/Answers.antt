-- `lines::has_none` meets its contract. Assumes nothing.
use mathlib.Core.Path.{refl}
use Rattle.lines.specs.Pairs.{bare}
use Rattle.lines.proofs.has_none.Goals as goal

pub returns : goal.returns
unfolding bare
returns c = refl
