-- `lines::unused` meets its contract. Assumes nothing.
use Prim.Native.Nat.{◌/◌}
use mathlib.Core.Path.{sym}
use native.Mathlib.Omega.{arith}
use Rattle.rows.specs.Table.{decode}
use Rattle.lines.proofs.Heads.{tells}
use Rattle.lines.proofs.Passes.{listed, unused_at, unused_out}
use Rattle.lines.proofs.unused.Goals as goal

pub head-requires : goal.head-requires
head-requires c = omega (arith, c.args.t.now.sound.whole, c.args.t.now.sound.room, c.if-at-t.true)

pub returns-then-at-t : goal.returns-then-at-t
returns-then-at-t c =
    let a = c.args in
    let w = c.head in
    let h = c.if-at-t.true in
    let g = tells a.t.now.bytes.now a.t.now.used a.at w.result c.args.t.now.sound h w.ensures (omega arith) in
    unused_at a.c (decode a.t.now.bytes.now) a.at c.requires.at_value (listed a.t.now.bytes.now a.t.now.used c.args.t.now.sound)
    (omega (arith, c.args.t.now.sound.count, h)) (w.result / 1073741824) g.tn

pub returns : goal.returns
returns c =
    let a = c.args in
    sym (unused_out a.c (decode a.t.now.bytes.now) a.at c.requires.at_value (omega (arith, c.args.t.now.sound.count, c.if-at-t.false)))
