-- `cast::digits_wait` meets its contract. Assumes nothing.
use Rattle.sets.proofs.Waiting.{left_start, left_end, left_next, left_stray, product_fits, stray_product, no_stray_product}
use Prim.Native.Nat.{◌%◌}
use native.Mathlib.Nat.{mod-lt}
use lib.Dec.{lit<}
use Rattle.sets.proofs.digits_wait.Goals as goal

pub loop-w-init : goal.loop-w-init
loop-w-init c = left_start c.args.word c.args.set c.requires

pub overflow_mul-w : goal.overflow_mul-w
overflow_mul-w c =
    let at = c.loop-w in
    record { fits = product_fits (at.w % 8) (at.s % 2) (mod-lt at.w (lit< tt)) }

pub returns-then-w-s-ne0 : goal.returns-then-w-s-ne0
returns-then-w-s-ne0 c =
    let at = c.loop-w in
    let a = c.args in
    left_stray a.word a.set at.w at.s at.invariant c.loop-w-test.true (stray_product at.w at.s c.if-w-s-ne0.true)

pub loop-w-preserved : goal.loop-w-preserved
loop-w-preserved c =
    let at = c.loop-w in
    let a = c.args in
    left_next a.word a.set at.w at.s at.invariant c.loop-w-test.true (no_stray_product at.w at.s c.if-w-s-ne0.false)

pub returns : goal.returns
returns c =
    let at = c.loop-w in
    let a = c.args in
    left_end a.word a.set at.w at.s at.invariant c.loop-w-test.false
