-- `kinds::new_creates` meets its contract. Assumes nothing.
use Rattle.kinds.proofs.new_creates.Goals as goal

pub returns : goal.returns
returns c = rw (c.sides_named.ensures, c.ten_digits.ensures)
