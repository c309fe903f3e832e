-- `judge::missing` meets its contract. Assumes nothing.
use borrow.Author.Rules.{rules}
use Rattle.judge.proofs.missing.Goals as goal

pub returns : goal.returns
returns c = rw c.has-here.ensures
