-- `lines::spared` meets its contract. The loop's invariant: the rows from i on decide. Assumes nothing.
use Prim.Native.Nat.{◌/◌}
use mathlib.Core.Path.{sym, ◌∙◌}
use native.Mathlib.Omega.{arith}
use Rattle.rows.specs.Table.{decode}
use Rattle.lines.proofs.Heads.{tells}
use Rattle.lines.proofs.Passes.{listed, spare_bare, spare_start, spare_out, spare_past, spare_fails, spare_on}
use Rattle.lines.proofs.spared.Goals as goal

pub returns-then-has_none : goal.returns-then-has_none
returns-then-has_none c =
    let a = c.args in
    sym (spare_bare a.tn.0 a.h (decode a.t.now.bytes.now) (sym c.has_none.ensures ∙ c.if-has_none.true))

pub loop-i-init : goal.loop-i-init
loop-i-init c =
    let a = c.args in
    (omega (arith, c.requires.at_value), spare_start a.tn.0 a.h (decode a.t.now.bytes.now) a.at c.requires.at_value)

pub head-w-requires : goal.head-w-requires
head-w-requires c =
    omega (arith, c.args.t.now.sound.whole, c.args.t.now.sound.room, c.loop-i-test.true)

pub returns-then-w-tn : goal.returns-then-w-tn
returns-then-w-tn c =
    let l = c.loop-i in
    let a = c.args in
    let w = c.head-w in
    let h = c.loop-i-test.true in
    let g = tells a.t.now.bytes.now a.t.now.used l.i w.result c.args.t.now.sound h w.ensures (omega arith) in
    sym (spare_past a.tn.0 a.h (decode a.t.now.bytes.now) (listed a.t.now.bytes.now a.t.now.used c.args.t.now.sound) l.i l.invariant.1
    (omega (arith, c.args.t.now.sound.count, h)) l.invariant.0 (w.result / 1073741824) g.tn c.if-w-tn.true)

pub returns-then-meets : goal.returns-then-meets
returns-then-meets c =
    let l = c.loop-i in
    let a = c.args in
    let w = c.head-w in
    let h = c.loop-i-test.true in
    let g = tells a.t.now.bytes.now a.t.now.used l.i w.result c.args.t.now.sound h w.ensures (omega arith) in
    sym (spare_fails a.tn.0 a.h (decode a.t.now.bytes.now) (listed a.t.now.bytes.now a.t.now.used c.args.t.now.sound) l.i l.invariant.1
    (omega (arith, c.args.t.now.sound.count, h)) (w.result / 1073741824) g.tn c.if-w-tn.false
    c.held_of.result (c.held_of.ensures ∙ g.held) c.meets.result
    c.meets.ensures c.if-meets.true)

pub loop-i-preserved : goal.loop-i-preserved
loop-i-preserved c =
    let l = c.loop-i in
    let a = c.args in
    let w = c.head-w in
    let h = c.loop-i-test.true in
    let g = tells a.t.now.bytes.now a.t.now.used l.i w.result c.args.t.now.sound h w.ensures (omega arith) in (
      omega (arith, l.invariant.0),
      spare_on a.tn.0 a.h (decode a.t.now.bytes.now) (listed a.t.now.bytes.now a.t.now.used c.args.t.now.sound) l.i l.invariant.1
          (omega (arith, c.args.t.now.sound.count, h)) (w.result / 1073741824) g.tn c.if-w-tn.false
          c.held_of.result (c.held_of.ensures ∙ g.held) c.meets.result
          c.meets.ensures c.if-meets.false,
    )

pub returns : goal.returns
returns c =
    let l = c.loop-i in
    let a = c.args in
    sym (spare_out a.tn.0 a.h (decode a.t.now.bytes.now) (listed a.t.now.bytes.now a.t.now.used c.args.t.now.sound) l.i l.invariant.1
    (omega (arith, c.args.t.now.sound.count, c.loop-i-test.false)))
