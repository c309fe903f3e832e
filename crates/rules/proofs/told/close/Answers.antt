-- `told::close` meets its contract. Assumes nothing.
use borrow.Author.Tests.{eq-eqb, ne_eqb}
use Rattle.rules.proofs.Ruled.{close_sides, close_side}
use borrow.Author.Rules.{rules}
use Rattle.rules.proofs.told.close.Goals as goal

pub returns-then-w-eq-ACTIVATE : goal.returns-then-w-eq-ACTIVATE
returns-then-w-eq-ACTIVATE c =
    close_sides _ _ c.sides.result c.closed-v.ensures (eq-eqb _ 1 c.if-w-eq-ACTIVATE.true) c.sides.ensures

pub returns : goal.returns
returns c =
    close_side _ _ c.side.result c.closed-v.ensures (ne_eqb _ 1 c.if-w-eq-ACTIVATE.false) c.side.ensures
