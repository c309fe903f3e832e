-- `accepted::created` meets its contract. Assumes nothing.
use mathlib.Core.Path.{ap}
use native.Mathlib.Omega.{arith}
use Rattle.table.specs.Survey.{the_one}
use Rattle.rules.proofs.Ruled.{created_fresh, created_joins}
use borrow.Author.Rules.{rules}
use Rattle.rules.proofs.accepted.created.Goals as goal

pub overflow_add-last : goal.overflow_add-last
overflow_add-last c = let l = c.requires (ap the_one c.in-None.is) in omega arith

pub returns-in-Some : goal.returns-in-Some
returns-in-Some c = created_joins _ _ _ _ _ _ c.in-Some.is c.concurred.ensures c.restated.ensures

pub returns-in-None : goal.returns-in-None
returns-in-None c = created_fresh _ _ _ _ _ c.in-None.is c.fresh.ensures c.added.ensures
