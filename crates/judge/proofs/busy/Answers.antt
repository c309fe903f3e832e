-- `judge::busy` meets its contract. Assumes nothing.
use borrow.Author.Rules.{rules}
use Rattle.judge.proofs.busy.Goals as goal

pub returns-then-is_broadcast : goal.returns-then-is_broadcast
returns-then-is_broadcast c = rw (← c.is_broadcast.ensures, c.if-is_broadcast.true)

pub returns : goal.returns
returns c = rw (← c.is_broadcast.ensures, c.if-is_broadcast.false)
