-- `event::selected` meets its contract. Assumes nothing.
use mathlib.Core.Path.{sym, ◌∙◌}
use Rattle.model.proofs.Lists.{clash}
use Rattle.engine.proofs.Deciding.{selected_is, the_seen, none_seen}
use Rattle.engine.proofs.event.selected.Goals as goal

pub returns-in-Some : goal.returns-in-Some
returns-in-Some c =
    λ _ v q.
    selected_is _ _ _ _ _ (c.code_of-code.ensures ∙ the_seen _ _ v c.in-Some.is q)
    c.classify.ensures.selected

pub returns-in_default : goal.returns-in_default
returns-in_default c = λ _ v q. none_seen _ v c.in_default.is q

pub returns-else-is_broadcast : goal.returns-else-is_broadcast
returns-else-is_broadcast c = λ k. clash (sym (sym c.is_broadcast.ensures ∙ c.if-is_broadcast.false) ∙ k)
