-- `sides::providers_fit` meets its contract. Assumes nothing.
use Rattle.sound.proofs.Choices.{beq_iff}
use Rattle.sound.proofs.sides.providers_fit.Goals as goal

pub returns : goal.returns
returns c = rw beq_iff
