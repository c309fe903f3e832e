-- `selection::larger` meets its contract. Assumes nothing.
use borrow.Author.Tests.{lt-ltb, le-ltb}
use Rattle.selection.proofs.larger.Goals as goal

pub returns-then-code-partner : goal.returns-then-code-partner
returns-then-code-partner c = rw (lt-ltb _ _ c.if-code-partner.true)

pub returns : goal.returns
returns c = rw (le-ltb _ _ c.if-code-partner.false)
