-- `nearest` meets its contract: the places before place j decide. Assumes nothing.
use Prim.Native.Nat.{◌+◌, ◌-◌}
use mathlib.Core.Path.{◌≡◌, sym, ◌∙◌}
use native.Mathlib.Omega.{arith}
use Rattle.faults.specs.Faults.{nearest}
use Rattle.faults.proofs.Laws.{nearest-here, nearest-next}
use Rattle.faults.proofs.nearest.Goals as goal

pub returns-then-passes : goal.returns-then-passes
returns-then-passes g c p a =
    let j = c.loop-j.j in
    let back : j - 1 + 1 ≡ j = omega (arith, c.loop-j-test.true) in
    sym (c.loop-j.invariant p a ∙ rw back at (nearest-here p (j - 1)
    (sym (a (j - 1) _ (omega (arith, c.loop-j-test.true)) c.passes.ensures) ∙ c.if-passes.true)) ∙ sym back)

pub loop-j-preserved : goal.loop-j-preserved
loop-j-preserved g c p a =
    let j = c.loop-j.j in
    let back : j - 1 + 1 ≡ j = omega (arith, c.loop-j-test.true) in
    c.loop-j.invariant p a ∙ rw back at (nearest-next p (j - 1)
    (sym (a (j - 1) _ (omega (arith, c.loop-j-test.true)) c.passes.ensures) ∙ c.if-passes.false))

pub returns : goal.returns
unfolding nearest
returns g c p a =
    let z : c.loop-j.j ≡ 0 = omega (arith, c.loop-j-test.false) in
    sym (c.loop-j.invariant p a ∙ rw z)
