-- `accepted::added` meets its contract. Assumes nothing.
use Rattle.rules.proofs.Ruled.{one_told}
use borrow.Author.Rules.{rules}
use Rattle.rules.proofs.accepted.added.Goals as goal

pub returns : goal.returns
returns c =
    λ t free f h. record { is = one_told c.sides-run.result c.sides-run.ensures; sits = (f, h) }
