-- `accepted::plain` meets its contract. Assumes nothing.
use mathlib.Core.Path.{sym, ◌∙◌}
use Rattle.rules.proofs.Ruled.{managed_modify, managed_cast, managed_purge, opened_few}
use borrow.Author.Rules.{rules}
use Rattle.rules.proofs.accepted.plain.Goals as goal

pub returns-then-is_modify : goal.returns-then-is_modify
returns-then-is_modify c =
    managed_modify _ _ _ _ _ _ _ (sym c.is_modify.ensures ∙ c.if-is_modify.true)
    c.modified.ensures c.restated.ensures

pub cast-requires : goal.cast-requires
cast-requires c = opened_few _ c.args.e c.args.asked.version _ c.opened.ensures c.requires.purpose_le_disconnect

pub returns-then-is_broadcast : goal.returns-then-is_broadcast
returns-then-is_broadcast c =
    managed_cast _ _ _ _ _ _ _ (sym c.is_broadcast.ensures ∙ c.if-is_broadcast.true)
    c.opened.ensures c.cast.ensures

pub returns : goal.returns
returns c =
    let p = c.requires.fact in
    managed_purge _ _ _ _ _ (sym c.is_broadcast.ensures ∙ c.if-is_broadcast.false)
    (sym c.is_modify.ensures ∙ c.if-is_modify.false) p.0 p.1 p.2 p.3
