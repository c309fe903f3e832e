-- `kinds::old_creates` meets its contract. Assumes nothing.
use Rattle.kinds.proofs.old_creates.Goals as goal

pub returns : goal.returns
returns c = rw (c.two_sides.ensures, c.authorizes.ensures)
