-- `told::sides` meets its contract. Assumes nothing.
use borrow.Author.Rules.{rules}
use Rattle.rules.proofs.told.sides.Goals as goal

pub returns-then-w : goal.returns-then-w
returns-then-w c = rw c.if-w.true c.side.ensures

pub returns : goal.returns
returns c = rw (c.if-w.false, c.about-say.ensures)
