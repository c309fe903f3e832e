-- `accepted::answered` meets its contract. Assumes nothing.
use Rattle.rules.proofs.Ruled.{answered_says}
use borrow.Author.Rules.{rules}
use Rattle.rules.proofs.accepted.answered.Goals as goal

pub returns : goal.returns
returns c =
    answered_says _ _ _ _ _ _ _ _ _ _ c.again-again.ensures c.answering.ensures
    c.heard-w.ensures c.settled.ensures c.answer_mail.ensures
