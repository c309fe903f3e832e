-- `kinds::sides_named` meets its contract. Assumes nothing.
use borrow.Author.Tests.{eq-eqb, ne_eqb}
use Rattle.kinds.proofs.sides_named.Goals as goal

pub returns-then-e-eq1 : goal.returns-then-e-eq1
returns-then-e-eq1 c = rw (eq-eqb _ 1 c.if-e-eq1.true)

pub returns : goal.returns
returns c = rw (ne_eqb _ 1 c.if-e-eq1.false) c.two_sides.ensures
