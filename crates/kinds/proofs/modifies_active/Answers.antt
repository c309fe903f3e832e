-- `kinds::modifies_active` meets its contract. Assumes nothing.
use Rattle.kinds.proofs.modifies_active.Goals as goal

pub returns : goal.returns
returns c = rw c.ten_digits.ensures
