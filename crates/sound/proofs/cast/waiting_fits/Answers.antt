-- `cast::waiting_fits` meets its contract. Assumes nothing.
use Rattle.sound.proofs.Choices.{beq_iff}
use Rattle.sound.proofs.cast.waiting_fits.Goals as goal

pub returns : goal.returns
returns c = rw beq_iff
