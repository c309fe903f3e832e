-- `alone::purpose_fits` meets its contract. Assumes nothing.
use mathlib.Core.Bool.{or-false}
use Rattle.sound.proofs.Choices.{beq_iff, implies_or}
use Rattle.tablefaults.proofs.alone.purpose_fits.Goals as goal

pub returns : goal.returns
returns c = simp (or-false, beq_iff, implies_or)
