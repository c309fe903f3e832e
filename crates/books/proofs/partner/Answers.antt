-- `books::partner` meets its contract. The loop's invariant: the pairs that are left decide.
-- Assumes nothing.
use mathlib.Core.Path.{sym, ap, ◌∙◌}
use Rattle.model.specs.Books.{partner_of}
use Rattle.books.specs.Packed.{split_place, split_places}
use Rattle.books.proofs.Places.{used_end}
use Rattle.books.specs.Search.{partner_by}
use Rattle.books.proofs.Search.{partner_one, partner_other, partner_next}
use Rattle.books.proofs.partner.Goals as goal

pub returns-then-w-code : goal.returns-then-w-code
unfolding partner_of
returns-then-w-code c =
    λ m. sym (c.loop-i.invariant ∙ partner_one _ (split_place _) split_places _ _ c.loop-i-test.true
    c.u64_at-w.ensures c.if-w-code.true)

pub returns-then-w-code-2 : goal.returns-then-w-code-2
unfolding partner_of
returns-then-w-code-2 c =
    λ m. sym (c.loop-i.invariant
    ∙ partner_other _ (split_place _) split_places _ _ c.loop-i-test.true c.u64_at-w.ensures
    c.if-w-code.false c.if-w-code-2.true)

pub loop-i-preserved : goal.loop-i-preserved
loop-i-preserved c =
    c.loop-i.invariant
    ∙ partner_next _ (split_place _) split_places _ _ c.loop-i-test.true c.u64_at-w.ensures
    c.if-w-code.false c.if-w-code-2.false

pub returns : goal.returns
unfolding partner_of
returns c =
    λ m. sym (c.loop-i.invariant ∙ ap (partner_by _) (used_end (split_place _) split_places _ c.loop-i-test.false))
