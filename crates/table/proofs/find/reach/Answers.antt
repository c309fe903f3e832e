-- `find::reach` meets its contract: the place is not before `at`. Assumes nothing.
use Prim.Native.Nat.{◌+◌, ◌*◌, ◌/◌}
use mathlib.Core.Path.{◌≡◌, ◌∙◌}
use native.Mathlib.Omega.{arith}
use lib.ListN.{get_or, length}
use Rattle.table.specs.Find.{key_at, keys_of}
use Rattle.table.proofs.Finds.{keys_length, keys_at, head_says, lower_le, lower_up, lower_here}
use Rattle.table.proofs.Sought.{sound_place}
use Rattle.table.proofs.find.reach.Goals as goal

pub head-requires : goal.head-requires
head-requires c =
    omega (arith, c.args.t.now.sound.whole, c.args.t.now.sound.room, c.loop-at-test.true)

pub returns-then-tn-head : goal.returns-then-tn-head
returns-then-tn-head c =
    let a = c.args in
    let k = a.tn * 65536 + 0 in
    let xs = keys_of a.t.now.used a.t.now.bytes.now in
    let at = c.loop-at.at in
    let long : length xs ≡ a.t.now.used = keys_length a.t.now.used a.t.now.bytes.now in
    let here : get_or xs at 0 ≡ key_at a.t.now.bytes.now at = keys_at a.t.now.used a.t.now.bytes.now at (omega arith) in
    let key : c.head.result / 16384 ≡ key_at a.t.now.bytes.now at = head_says a.t.now.bytes.now at c.head.result c.head.ensures in
    let place = sound_place a.t.now.bytes.now a.t.now.used c.args.t.now.sound k in
    lower_here k xs at (rw place c.loop-at.invariant) (omega arith) (omega arith) ∙ place

pub loop-at-preserved : goal.loop-at-preserved
loop-at-preserved c =
    let a = c.args in
    let k = a.tn * 65536 + 0 in
    let xs = keys_of a.t.now.used a.t.now.bytes.now in
    let at = c.loop-at.at in
    let long : length xs ≡ a.t.now.used = keys_length a.t.now.used a.t.now.bytes.now in
    let here : get_or xs at 0 ≡ key_at a.t.now.bytes.now at = keys_at a.t.now.used a.t.now.bytes.now at (omega arith) in
    let key : c.head.result / 16384 ≡ key_at a.t.now.bytes.now at = head_says a.t.now.bytes.now at c.head.result c.head.ensures in
    let place = sound_place a.t.now.bytes.now a.t.now.used c.args.t.now.sound k in
    let up = lower_up k xs at (rw place c.loop-at.invariant) (omega arith) (omega arith) in
    omega (arith, up, place)

pub returns : goal.returns
returns c =
    let a = c.args in
    let k = a.tn * 65536 + 0 in
    let xs = keys_of a.t.now.used a.t.now.bytes.now in
    let long : length xs ≡ a.t.now.used = keys_length a.t.now.used a.t.now.bytes.now in
    let most = lower_le k xs in
    omega (arith, c.loop-at.invariant, most, sound_place a.t.now.bytes.now a.t.now.used c.args.t.now.sound k)
