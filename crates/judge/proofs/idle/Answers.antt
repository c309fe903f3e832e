-- `judge::idle` meets its contract. Assumes nothing.
use borrow.Author.Tests.{eq-eqb, ne_eqb}
use borrow.Author.Rules.{rules}
use Rattle.judge.proofs.idle.Goals as goal

pub returns-then-e-eq-ACKNOWLEDGE_CANCEL : goal.returns-then-e-eq-ACKNOWLEDGE_CANCEL
returns-then-e-eq-ACKNOWLEDGE_CANCEL c = rw (eq-eqb _ 7 c.if-e-eq-ACKNOWLEDGE_CANCEL.true) c.own_cancel.ensures

pub returns : goal.returns
returns c = rw (ne_eqb _ 7 c.if-e-eq-ACKNOWLEDGE_CANCEL.false, ← c.window_spent-spent.ensures)
