-- `sides::within_fits` meets its contract. Assumes nothing.
use Rattle.sound.proofs.Choices.{implies_or}
use Rattle.sound.proofs.sides.within_fits.Goals as goal

pub returns : goal.returns
returns c = simp implies_or
