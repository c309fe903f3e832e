-- `cast::disjoint` meets its contract. Assumes nothing.
use borrow.Author.Rules.{rules}
use Rattle.sets.proofs.Everys.{apart_and}
use Rattle.sets.proofs.disjoint.Goals as goal

pub returns : goal.returns
returns c = apart_and c.args.a c.args.b (search rules)
