-- `accepted::answer_mail` meets its contract. Assumes nothing.
use Rattle.model.specs.Closing.{settling_told}
use borrow.Author.Rules.{rules}
use Rattle.rules.proofs.accepted.answer_mail.Goals as goal

pub returns-then-is_open : goal.returns-then-is_open
unfolding settling_told
returns-then-is_open c = rw (c.if-again.true, ← c.is_open.ensures, c.if-is_open.true, c.download-run.ensures)

pub returns-then-again : goal.returns-then-again
unfolding settling_told
returns-then-again c =
    rw (
      c.if-again.true,
      ← c.is_open.ensures,
      c.if-is_open.false,
      c.download-run.ensures,
      c.close.ensures,
    )

pub returns-then-is_open-2 : goal.returns-then-is_open-2
unfolding settling_told
returns-then-is_open-2 c = rw (c.if-again.false, ← c.is_open-2.ensures, c.if-is_open-2.true)

pub returns : goal.returns
unfolding settling_told
returns c = rw (c.if-again.false, ← c.is_open-2.ensures, c.if-is_open-2.false, c.close-2.ensures)
