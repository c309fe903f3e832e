-- `kinds::new_modifies` meets its contract. Assumes nothing.
use Rattle.kinds.proofs.new_modifies.Goals as goal

pub returns : goal.returns
returns c = rw c.ten_digits.ensures
