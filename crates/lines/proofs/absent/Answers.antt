-- `lines::absent` meets its contract. Assumes nothing.
use Prim.Native.Nat.{◌/◌}
use mathlib.Core.Path.{sym}
use native.Mathlib.Omega.{arith}
use Rattle.rows.specs.Table.{decode}
use Rattle.lines.proofs.Heads.{tells}
use Rattle.lines.proofs.Passes.{listed, absent_at, absent_out}
use Rattle.lines.proofs.absent.Goals as goal

pub head-requires : goal.head-requires
head-requires c = omega (arith, c.args.t.now.sound.whole, c.args.t.now.sound.room, c.if-i-t.true)

pub returns-then-i-t : goal.returns-then-i-t
returns-then-i-t c =
    let a = c.args in
    let at = c.place_from-i in
    let w = c.head in
    let h = c.if-i-t.true in
    let g = tells a.t.now.bytes.now a.t.now.used at.result w.result c.args.t.now.sound h w.ensures (omega arith) in
    absent_at a.k (omega arith) (decode a.t.now.bytes.now) at.result at.ensures (listed a.t.now.bytes.now a.t.now.used c.args.t.now.sound)
    (omega (arith, c.args.t.now.sound.count, h)) (w.result / 16384) g.key

pub returns : goal.returns
returns c =
    let a = c.args in
    let at = c.place_from-i in
    sym (absent_out a.k (omega arith) (decode a.t.now.bytes.now) at.result at.ensures
    (omega (arith, c.args.t.now.sound.count, c.if-i-t.false)))
