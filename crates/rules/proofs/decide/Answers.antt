-- `rules::decide` meets its contract. Assumes nothing.
use mathlib.Core.Path.{sym, ◌∙◌}
use Rattle.rules.proofs.Deciding.{unknown_says}
use Rattle.rules.proofs.decide.Goals as goal

pub returns-in_default : goal.returns-in_default
returns-in_default c =
    unknown_says _ _ _ _ _ (sym c.is_create.ensures ∙ c.if-is_create.false) c.in_default.is c.unknown.ensures c.refused.ensures
