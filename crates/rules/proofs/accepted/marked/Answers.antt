-- `accepted::marked` meets its contract. Assumes nothing.
use Rattle.rules.proofs.Ruled.{one_told}
use borrow.Author.Rules.{rules}
use Rattle.rules.proofs.accepted.marked.Goals as goal

pub returns : goal.returns
returns c = λ t free h. record { is = one_told c.side-run.result c.side-run.ensures; sits = h }
