-- `accepted::settled` meets its contract. Assumes nothing.
use mathlib.Core.Path.{sym, ◌∙◌}
use Rattle.rules.proofs.Ruled.{settled-alone, settled_over}
use borrow.Author.Rules.{rules}
use Rattle.rules.proofs.accepted.settled.Goals as goal

pub returns-in-Some : goal.returns-in-Some
returns-in-Some c =
    settled_over _ _ _ _ c.settled-s.ensures _ _ c.retired.ensures
    (sym c.replaced.ensures ∙ c.in-Some.is)

pub returns-in-None : goal.returns-in-None
returns-in-None c =
    settled-alone _ _ _ _ c.settled-s.ensures
    (sym c.replaced.ensures ∙ c.in-None.is)
