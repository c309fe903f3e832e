-- `told::side` meets its contract. Assumes nothing.
use borrow.Author.Rules.{rules}
use Rattle.rules.proofs.told.side.Goals as goal

pub returns : goal.returns
returns c = rw c.about-say.ensures
