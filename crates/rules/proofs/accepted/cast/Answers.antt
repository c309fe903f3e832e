-- `accepted::cast` meets its contract. Assumes nothing.
use mathlib.Core.Path.{sym, ◌∙◌}
use Rattle.rules.proofs.Ruled.{cast_asks, cast_closes}
use borrow.Author.Rules.{rules}
use Rattle.rules.proofs.accepted.cast.Goals as goal

pub returns-then-is_open : goal.returns-then-is_open
returns-then-is_open c =
    cast_asks _ _ _ _ c.settled-rows.ensures c.download-run.result
    (sym c.is_open.ensures ∙ c.if-is_open.true) c.download-run.ensures

pub returns-else-is_open : goal.returns-else-is_open
returns-else-is_open c =
    cast_closes _ _ _ _ c.settled-rows.ensures c.close-run.result
    (sym c.is_open.ensures ∙ c.if-is_open.false) c.close-run.ensures
