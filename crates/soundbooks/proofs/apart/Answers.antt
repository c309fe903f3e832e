-- `soundbooks::apart` meets its contract. The loop's invariant: the pairs that are left decide.
-- Assumes nothing.
use mathlib.Core.Path.{refl, sym, ◌∙◌}
use Rattle.books.specs.Packed.{splits_at, split_place, split_places}
use Rattle.books.proofs.Places.{used_none, used_end}
use Rattle.soundbooks.proofs.Halves.{halves, halves_free, halves_used, halves_code}
use Rattle.soundbooks.proofs.Soundness.{apart_end, apart_one, apart_other, apart_next}
use Rattle.soundbooks.proofs.apart.Goals as goal

pub returns-then-a-b : goal.returns-then-a-b
returns-then-a-b c =
    let a = c.args in
    let l = c.loop-k in
    let bs = a.books.now in
    let h = halves bs splits_at l.k c.u32_at-a.result c.u32_at-b.result
    (λ j. (c.type_inv.books j).fits) c.u32_at-a.ensures c.u32_at-b.ensures in
    sym (l.invariant ∙ apart_end a.one a.other _
    (used_none (split_place bs) split_places l.k (split_place bs l.k) refl (halves_free bs splits_at l.k _ _ h c.if-a-b.true)))

pub returns-then-has_code : goal.returns-then-has_code
returns-then-has_code c =
    let a = c.args in
    let l = c.loop-k in
    let bs = a.books.now in
    let h = halves bs splits_at l.k c.u32_at-a.result c.u32_at-b.result
    (λ j. (c.type_inv.books j).fits) c.u32_at-a.ensures
    c.u32_at-b.ensures in
    sym (l.invariant ∙ apart_one (split_place bs) split_places l.k (split_place bs l.k) a.one a.other c.loop-k-test.true refl
    (halves_used bs splits_at l.k _ _ h c.if-a-b.false) _ _
    (halves_code bs splits_at l.k _ _ h _ a.one c.has_code.ensures) refl c.if-has_code.true)

pub returns-then-has_code-2 : goal.returns-then-has_code-2
returns-then-has_code-2 c =
    let a = c.args in
    let l = c.loop-k in
    let bs = a.books.now in
    let h = halves bs splits_at l.k c.u32_at-a.result c.u32_at-b.result
    (λ j. (c.type_inv.books j).fits) c.u32_at-a.ensures
    c.u32_at-b.ensures in
    sym (l.invariant ∙ apart_other (split_place bs) split_places l.k (split_place bs l.k) a.one a.other c.loop-k-test.true
    refl (halves_used bs splits_at l.k _ _ h c.if-a-b.false) _ _
    (halves_code bs splits_at l.k _ _ h _ a.one c.has_code.ensures)
    (halves_code bs splits_at l.k _ _ h _ a.other c.has_code-in-loop-k.ensures) c.if-has_code.false c.if-has_code-2.true)

pub loop-k-preserved : goal.loop-k-preserved
loop-k-preserved c =
    let a = c.args in
    let l = c.loop-k in
    let bs = a.books.now in
    let h = halves bs splits_at l.k c.u32_at-a.result c.u32_at-b.result
    (λ j. (c.type_inv.books j).fits) c.u32_at-a.ensures
    c.u32_at-b.ensures in
    l.invariant ∙ apart_next (split_place bs) split_places l.k (split_place bs l.k) a.one a.other c.loop-k-test.true refl
    (halves_used bs splits_at l.k _ _ h c.if-a-b.false) _ _
    (halves_code bs splits_at l.k _ _ h _ a.one c.has_code.ensures)
    (halves_code bs splits_at l.k _ _ h _ a.other c.has_code-in-loop-k.ensures) c.if-has_code.false c.if-has_code-2.false

pub returns : goal.returns
returns c =
    let a = c.args in
    let l = c.loop-k in
    sym (l.invariant ∙ apart_end a.one a.other _ (used_end (split_place a.books.now) split_places l.k c.loop-k-test.false))
