-- `lines::pair_fits` meets its contract. The loop's invariant: the rows from i on decide, and `at` is behind none of their places. Assumes
-- nothing.
use Prim.Native.Nat.{◌/◌}
use mathlib.Core.Path.{sym, ◌∙◌}
use native.Mathlib.Omega.{arith}
use Rattle.rows.specs.Table.{decode}
use Rattle.lines.proofs.Heads.{tells}
use Rattle.lines.proofs.Passes.{listed}
use Rattle.lines.proofs.Abreast.{pair_unused, abreast_start, pair_out, pair_past, pair_behind, pair_reached, pair_fails}
use Rattle.lines.proofs.Abreast.{pair_on}
use Rattle.lines.proofs.pair_fits.Goals as goal

pub first_under-at-requires : goal.first_under-at-requires
first_under-at-requires c = record { c_bound = c.requires.c_bound.0 }

pub unused-requires : goal.unused-requires
unused-requires c = record { at_value = c.first_under-at.ensures }

pub returns-then-unused : goal.returns-then-unused
returns-then-unused c =
    let a = c.args in
    sym (pair_unused a.c a.d (decode a.t.now.bytes.now) (sym c.unused.ensures ∙ c.if-unused.true))

pub first_under-i-requires : goal.first_under-i-requires
first_under-i-requires c =
    record { c_bound = omega (arith, c.requires.c_bound.0, c.requires.c_bound.1) }

pub loop-i-init : goal.loop-i-init
loop-i-init c =
    let a = c.args in
    abreast_start a.c a.d (decode a.t.now.bytes.now) c.first_under-at.result c.first_under-i.result
    c.first_under-at.ensures c.first_under-i.ensures

pub head-w-requires : goal.head-w-requires
head-w-requires c =
    omega (arith, c.args.t.now.sound.whole, c.args.t.now.sound.room, c.loop-i-test.true)

pub returns-then-w-d : goal.returns-then-w-d
returns-then-w-d c =
    let l = c.loop-i in
    let a = c.args in
    let w = c.head-w in
    let h = c.loop-i-test.true in
    let g = tells a.t.now.bytes.now a.t.now.used l.i w.result c.args.t.now.sound h w.ensures (omega arith) in
    sym (pair_past a.c a.d (decode a.t.now.bytes.now) (listed a.t.now.bytes.now a.t.now.used c.args.t.now.sound) l.at l.i l.invariant
    (omega (arith, c.args.t.now.sound.count, h)) (w.result / 1073741824) g.tn c.if-w-d.true)

pub overflow_mul-tn : goal.overflow_mul-tn
overflow_mul-tn c = omega (arith, c.requires.c_bound.0)

pub overflow_add-tn : goal.overflow_add-tn
overflow_add-tn c = omega (arith, c.requires.c_bound.0)

pub reach-at-requires : goal.reach-at-requires
reach-at-requires c =
    let l = c.loop-i in
    let a = c.args in
    let w = c.head-w in
    let h = c.loop-i-test.true in
    let g = tells a.t.now.bytes.now a.t.now.used l.i w.result c.args.t.now.sound h w.ensures (omega arith) in
    pair_behind a.c a.d (decode a.t.now.bytes.now) (listed a.t.now.bytes.now a.t.now.used c.args.t.now.sound) l.at l.i l.invariant
    (omega (arith, c.args.t.now.sound.count, h)) (w.result / 1073741824) g.tn c.if-w-d.false

pub row_fits-requires : goal.row_fits-requires
row_fits-requires c =
    let l = c.loop-i in
    let a = c.args in
    let w = c.head-w in
    let h = c.loop-i-test.true in
    let g = tells a.t.now.bytes.now a.t.now.used l.i w.result c.args.t.now.sound h w.ensures (omega arith) in record {
      c_bound = (c.requires.c_bound.0, h);
      at_value = pair_reached a.c a.d (decode a.t.now.bytes.now) (listed a.t.now.bytes.now a.t.now.used c.args.t.now.sound) l.at
          l.i l.invariant (omega (arith, c.args.t.now.sound.count, h)) (w.result / 1073741824) g.tn c.if-w-d.false c.reach-at.result
          c.reach-at.ensures;
    }

pub returns-then-not-row_fits : goal.returns-then-not-row_fits
returns-then-not-row_fits c =
    let l = c.loop-i in
    let a = c.args in
    let w = c.head-w in
    let h = c.loop-i-test.true in
    let g = tells a.t.now.bytes.now a.t.now.used l.i w.result c.args.t.now.sound h w.ensures (omega arith) in
    sym (pair_fails a.c a.d (decode a.t.now.bytes.now) (listed a.t.now.bytes.now a.t.now.used c.args.t.now.sound) l.at l.i l.invariant
    (omega (arith, c.args.t.now.sound.count, h)) (w.result / 1073741824) g.tn c.if-w-d.false
    c.reach-at.result c.reach-at.ensures c.row_fits.result c.row_fits.ensures
    (c.if-not-row_fits.true))

pub loop-i-preserved : goal.loop-i-preserved
loop-i-preserved c =
    let l = c.loop-i in
    let a = c.args in
    let w = c.head-w in
    let h = c.loop-i-test.true in
    let g = tells a.t.now.bytes.now a.t.now.used l.i w.result c.args.t.now.sound h w.ensures (omega arith) in
    pair_on a.c a.d (decode a.t.now.bytes.now) (listed a.t.now.bytes.now a.t.now.used c.args.t.now.sound) l.at l.i l.invariant
    (omega (arith, c.args.t.now.sound.count, h)) (w.result / 1073741824) g.tn c.if-w-d.false
    c.reach-at.result c.reach-at.ensures c.row_fits.result c.row_fits.ensures
    (c.if-not-row_fits.false)

pub returns : goal.returns
returns c =
    let l = c.loop-i in
    let a = c.args in
    sym (pair_out a.c a.d (decode a.t.now.bytes.now) (listed a.t.now.bytes.now a.t.now.used c.args.t.now.sound) l.at l.i l.invariant
    (omega (arith, c.args.t.now.sound.count, c.loop-i-test.false)))
