-- `find::lower` meets its contract: the place is among the `left` behind `lo`, or just behind them. Assumes nothing.
use Prim.Native.Nat.{ℕ, ◌+◌, ◌-◌, ◌*◌, ◌/◌, ◌≤◌}
use mathlib.Core.Path.{◌≡◌, refl, subst}
use mathlib.Core.Bool.{cond}
use native.Mathlib.Omega.{arith}
use lib.Dec.{ltb}
use lib.ListN.{get_or}
use Rattle.table.specs.Find.{key_at, keys_of}
use Rattle.table.proofs.Finds.{Bracket, bracket_all, bracket_half, bracket_last, bracket_end, times_bit, keys_length, keys_at}
use Rattle.table.proofs.find.lower.Goals as goal

pub loop-left-init : goal.loop-left-init
loop-left-init c =
    let a = c.args in
    (omega arith, bracket_all (keys_of a.n a.t.now) a.k a.n (keys_length a.n a.t.now))

pub below-up-requires : goal.below-up-requires
below-up-requires c = (omega arith, refl, c.requires.k_bound)

pub overflow_mul-lo : goal.overflow_mul-lo
overflow_mul-lo c =
    let a = c.args in
    let half = c.loop-left.left / 2 in
    let few : half * c.below-up.result ≤ half = times_bit half c.below-up.result (ltb (key_at a.t.now (c.loop-left.lo + half - 1)) a.k)
    c.below-up.ensures in
    omega arith

pub overflow_add-lo-in-loop-left : goal.overflow_add-lo-in-loop-left
overflow_add-lo-in-loop-left c =
    let a = c.args in
    let half = c.loop-left.left / 2 in
    let few : half * c.below-up.result ≤ half = times_bit half c.below-up.result (ltb (key_at a.t.now (c.loop-left.lo + half - 1)) a.k)
    c.below-up.ensures in
    omega arith

pub loop-left-preserved : goal.loop-left-preserved
loop-left-preserved c =
    let a = c.args in
    let half = c.loop-left.left / 2 in
    let mid = c.loop-left.lo + half - 1 in
    let u = c.below-up.result in
    let few : half * u ≤ half = times_bit half u (ltb (key_at a.t.now mid) a.k) c.below-up.ensures in
    let here : get_or (keys_of a.n a.t.now) mid 0 ≡ key_at a.t.now mid = keys_at a.n a.t.now mid (omega arith) in
    let test : u ≡ cond (ltb (get_or (keys_of a.n a.t.now) mid 0) a.k) 1 0 = rw here c.below-up.ensures in (
      omega arith,
      bracket_half (keys_of a.n a.t.now) a.k c.requires.rises c.loop-left.lo c.loop-left.left half c.loop-left.invariant.1
          (omega arith) (omega arith) u test,
    )

pub returns-then-left-eq0 : goal.returns-then-left-eq0
returns-then-left-eq0 c =
    let a = c.args in
    bracket_end (keys_of a.n a.t.now) a.k c.loop-left.lo (c.loop-left.lo + c.loop-left.left) c.loop-left.invariant.1 (omega arith)

pub below-requires : goal.below-requires
below-requires c = (omega arith, refl, c.requires.k_bound)

pub overflow_add-result : goal.overflow_add-result
overflow_add-result c =
    let a = c.args in
    let few : 1 * c.below.result ≤ 1 =
    times_bit 1 c.below.result (ltb (key_at a.t.now c.loop-left.lo) a.k) c.below.ensures in
    omega arith

pub returns : goal.returns
returns c =
    let a = c.args in
    let xs = keys_of a.n a.t.now in
    let lo = c.loop-left.lo in
    let one : c.loop-left.left ≡ 1 = omega arith in
    let here : get_or xs lo 0 ≡ key_at a.t.now lo = keys_at a.n a.t.now lo (omega arith) in
    let test : c.below.result ≡ cond (ltb (get_or xs lo 0) a.k) 1 0 = rw here c.below.ensures in
    bracket_last xs a.k c.requires.rises lo (subst (λ (j : ℕ). Bracket xs a.k lo (lo + j)) one c.loop-left.invariant.1)
    c.below.result test
