-- `accepted::managed` meets its contract. Assumes nothing.
use Rattle.rules.proofs.Ruled.{managed_cancel, managed_acknowledge, managed_resolve, managed_window}
use borrow.Author.Rules.{rules}
use Rattle.rules.proofs.accepted.managed.Goals as goal

pub returns-in-6 : goal.returns-in-6
returns-in-6 c = search (rules, managed_cancel)

pub returns-in-7 : goal.returns-in-7
returns-in-7 c = search (rules, managed_acknowledge)

pub returns-in-8 : goal.returns-in-8
returns-in-8 c = managed_resolve _ _ _ _ _ _ _ c.in-8.is c.resolved.ensures c.turned-in-8.ensures

pub returns-in-13 : goal.returns-in-13
returns-in-13 c = managed_window _ _ _ _ _ _ c.in-13.is c.window.ensures
