-- `blanks::few_free` meets its contract. The loop's invariant: what is left to be tested decides.
-- Assumes nothing.
use mathlib.Core.Path.{sym, ◌∙◌}
use Rattle.books.specs.Packed.{place_of}
use Rattle.places.proofs.FreePlaces.{free_used, free_more, free_end}
use Rattle.places.proofs.blanks.few_free.Goals as goal

pub returns-then-w-ne0 : goal.returns-then-w-ne0
returns-then-w-ne0 c =
    let a = c.args in
    let l = c.loop-k in
    sym (l.invariant ∙ free_used (place_of 8 a.at a.books.now) a.n l.k _ c.loop-k-test.true
    c.u64_at-w.ensures c.if-w-ne0.true)

pub loop-k-preserved : goal.loop-k-preserved
loop-k-preserved c =
    let a = c.args in
    let l = c.loop-k in
    l.invariant ∙ free_more (place_of 8 a.at a.books.now) a.n l.k _ c.loop-k-test.true
    c.u64_at-w.ensures c.if-w-ne0.false

pub returns : goal.returns
returns c =
    let a = c.args in
    let l = c.loop-k in
    sym (l.invariant ∙ free_end (place_of 8 a.at a.books.now) a.n l.k c.loop-k-test.false)
