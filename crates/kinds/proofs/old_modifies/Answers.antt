-- `kinds::old_modifies` meets its contract. Assumes nothing.
use Rattle.kinds.proofs.old_modifies.Goals as goal

pub returns : goal.returns
returns c = rw c.authorizes.ensures
