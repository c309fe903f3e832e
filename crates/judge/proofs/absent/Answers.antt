-- `judge::absent` meets its contract. Assumes nothing.
use borrow.Author.Rules.{rules}
use Rattle.judge.proofs.absent.Goals as goal

pub returns : goal.returns
returns c = rw (c.missing-2.ensures, c.missing.ensures)
