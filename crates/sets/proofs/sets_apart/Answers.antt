-- `cast::sets_apart` meets its contract. Assumes nothing.
use Rattle.model.specs.Sound.{sets_apart}
use Rattle.sets.proofs.sets_apart.Goals as goal

pub returns : goal.returns
unfolding sets_apart
returns c = rw (c.disjoint.ensures, c.disjoint-2.ensures, c.disjoint-3.ensures)
