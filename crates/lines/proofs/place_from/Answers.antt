-- `lines::place_from` meets its contract: the place is not before `at`. Assumes nothing.
use Prim.Native.Nat.{◌<◌, ◌≤◌}
use native.Mathlib.Omega.{arith}
use Rattle.row.specs.Layout.{key_of}
use Rattle.rows.specs.Table.{decode}
use Rattle.table.proofs.Sought.{place_le}
use Rattle.lines.proofs.Heads.{tells}
use Rattle.lines.proofs.Abreast.{reach_out, reach_here, reach_on}
use Rattle.lines.proofs.place_from.Goals as goal

pub overflow_add-from : goal.overflow_add-from
overflow_add-from c =
    let s = c.args.t.now.sound in
    omega (arith, c.requires.tn_bound.1, place_le (key_of c.args.k) (decode c.args.t.now.bytes.now), s.count, s.room, s.few)

pub loop-at-init : goal.loop-at-init
loop-at-init c = c.requires.tn_bound.1

pub head-requires : goal.head-requires
head-requires c =
    omega (arith, c.args.t.now.sound.whole, c.args.t.now.sound.room, c.loop-at-test.true, c.min-near.ensures)

pub returns-then-key-head : goal.returns-then-key-head
returns-then-key-head c =
    let l = c.loop-at in
    let a = c.args in
    let w = c.head in
    let h : l.at < a.t.now.used = omega (arith, c.loop-at-test.true, c.min-near.ensures) in
    let g = tells a.t.now.bytes.now a.t.now.used l.at w.result c.args.t.now.sound h w.ensures (omega arith) in
    reach_here (key_of a.k) (decode a.t.now.bytes.now) l.at l.invariant (omega (arith, c.args.t.now.sound.count, h))
    (omega (arith, g.key, c.if-key-head.true))

pub loop-at-preserved : goal.loop-at-preserved
loop-at-preserved c =
    let l = c.loop-at in
    let a = c.args in
    let w = c.head in
    let h : l.at < a.t.now.used = omega (arith, c.loop-at-test.true, c.min-near.ensures) in
    let g = tells a.t.now.bytes.now a.t.now.used l.at w.result c.args.t.now.sound h w.ensures (omega arith) in
    reach_on (key_of a.k) (decode a.t.now.bytes.now) l.at l.invariant (omega (arith, c.args.t.now.sound.count, h))
    (omega (arith, g.key, c.if-key-head.false))

pub returns : goal.returns
returns c =
    let l = c.loop-at in
    let a = c.args in
    let s = c.args.t.now.sound in
    let few : a.t.now.used ≤ l.at = omega (arith, c.if-near-t.false, c.loop-at-test.false, c.min-near.ensures) in
    let out = reach_out (key_of a.k) (decode a.t.now.bytes.now) l.at l.invariant (omega (arith, s.count, few)) in
    omega (arith, few, out, place_le (key_of a.k) (decode a.t.now.bytes.now), s.count)
