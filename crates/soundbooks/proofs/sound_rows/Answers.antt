-- `soundbooks::sound_rows` meets its contract.
-- Assumes nothing.
use Prim.Native.Nat.{◌+◌, ◌*◌}
use mathlib.Core.Path.{◌≡◌, refl, sym, ap, ◌∙◌}
use native.Mathlib.Omega.{arith}
use Rattle.octets.specs.Octets.{be}
use Rattle.books.specs.Packed.{place_of, row_places}
use Rattle.soundbooks.proofs.Scanning.{scan_free, scan_bad, scan-next, scan_end}
use Rattle.soundbooks.specs.Sound.{row_test}
use Rattle.soundbooks.proofs.sound_rows.Goals as goal

pub loop-i-init : goal.loop-i-init
loop-i-init g c =
    let a = c.args in
    let e : a.at ≡ a.at + 4 * 0 = omega arith in
    (c.u32_at-w.ensures ∙ ap (be 4 a.books.now) e, λ f m p. refl)

pub returns-then-w-eq0 : goal.returns-then-w-eq0
returns-then-w-eq0 g c f m p =
    let l = c.loop-i in
    let a = c.args in
    c.free_rows.ensures ∙ sym
    (l.invariant.1 f m p ∙ scan_free (row_test f m) (place_of 4 a.at a.books.now) row_places l.i l.last l.w
    c.loop-i-test.true l.invariant.0 c.if-w-eq0.true)

pub returns-then-not-good : goal.returns-then-not-good
returns-then-not-good g c f m p =
    let l = c.loop-i in
    let a = c.args in
    sym (l.invariant.1 f m p ∙ scan_bad (row_test f m) (place_of 4 a.at a.books.now) row_places l.i l.last l.w
    c.loop-i-test.true l.invariant.0 _ c.if-w-eq0.false (p l.last l.w _ c.good.ensures) c.if-not-good.true)

pub loop-i-preserved : goal.loop-i-preserved
loop-i-preserved g c =
    let l = c.loop-i in
    let a = c.args in (
      c.u32_at-w-in-loop-i.ensures,
      λ f m p. l.invariant.1 f m p ∙ scan-next (row_test f m) (place_of 4 a.at a.books.now) row_places l.i
          l.last l.w c.loop-i-test.true l.invariant.0 _ c.if-w-eq0.false
          (p l.last l.w _ c.good.ensures) c.if-not-good.false,
    )

pub returns : goal.returns
returns g c f m p =
    let l = c.loop-i in
    let a = c.args in
    sym (l.invariant.1 f m p ∙ scan_end (row_test f m) (place_of 4 a.at a.books.now) row_places l.i
    l.last c.loop-i-test.false)
