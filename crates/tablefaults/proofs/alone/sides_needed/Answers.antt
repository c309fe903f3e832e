-- `alone::sides_needed` meets its contract. Assumes nothing.
use mathlib.Core.Bool.{or-false}
use Rattle.model.specs.Sound.{sides_needed}
use Rattle.sound.proofs.Choices.{implies_or}
use Rattle.tablefaults.proofs.alone.sides_needed.Goals as goal

pub returns : goal.returns
unfolding sides_needed
returns c = simp (or-false, implies_or)
