-- `books::owner` meets its contract. The loop's invariant: the codes that are left decide.
-- Assumes nothing.
use mathlib.Core.Path.{sym, ap, ◌∙◌}
use Rattle.model.specs.Books.{owner_of}
use Rattle.books.specs.Packed.{code_place, row_places}
use Rattle.books.proofs.Places.{used_end}
use Rattle.books.specs.Search.{owner_by}
use Rattle.books.proofs.Search.{owner_here, owner_next}
use Rattle.books.proofs.owner.Goals as goal

pub returns-then-w-code : goal.returns-then-w-code
unfolding owner_of
returns-then-w-code c =
    λ m. sym (c.loop-i.invariant ∙ owner_here _ (code_place _) row_places _ _ c.loop-i-test.true
    c.u32_at-w.ensures c.if-w-code.true)

pub loop-i-preserved : goal.loop-i-preserved
loop-i-preserved c =
    c.loop-i.invariant ∙ owner_next _ (code_place _) row_places _ _ c.loop-i-test.true
    c.u32_at-w.ensures c.if-w-code.false

pub returns : goal.returns
unfolding owner_of
returns c =
    λ m. sym (c.loop-i.invariant ∙ ap (owner_by _) (used_end (code_place _) row_places _ c.loop-i-test.false))
