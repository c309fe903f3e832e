-- `blanks::free_rows` meets its contract: an odd place first, and then two at a time.
-- Assumes nothing.
use mathlib.Core.Path.{sym, ◌∙◌}
use native.Mathlib.Omega.{arith}
use Rattle.books.specs.Packed.{place_of, row_places}
use Rattle.places.proofs.FreePlaces.{free_used, free_even, free_odd}
use Rattle.places.proofs.blanks.free_rows.Goals as goal

pub returns-then-w-ne0 : goal.returns-then-w-ne0
returns-then-w-ne0 c =
    let a = c.args in
    sym (free_used (place_of 4 a.at a.books.now) row_places a.i _ (omega arith) c.u32_at-w.ensures c.if-w-ne0.true)

pub returns-then-i-eq1 : goal.returns-then-i-eq1
returns-then-i-eq1 c =
    let a = c.args in
    c.free.ensures ∙ sym (free_odd a.books.now a.at 512 a.i _ (omega arith) c.if-i-eq1.true
    c.u32_at-w.ensures c.if-w-ne0.false)

pub returns : goal.returns
returns c =
    let a = c.args in
    c.free-2.ensures ∙ sym (free_even a.books.now a.at 512 a.i c.if-i-eq1.false)
