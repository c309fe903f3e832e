-- `cast::live_confirmed` meets its contract. Assumes nothing.
use Rattle.sound.proofs.Choices.{implies_or}
use Rattle.sound.proofs.cast.live_confirmed.Goals as goal

pub returns : goal.returns
returns c = simp implies_or
