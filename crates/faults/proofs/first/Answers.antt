-- `first` meets its contract: the places that are left decide. Assumes nothing.
use mathlib.Core.Path.{sym, ◌∙◌}
use native.Mathlib.Omega.{arith}
use Rattle.faults.proofs.Laws.{fault_here, fault_next, fault_end}
use Rattle.faults.proofs.first.Goals as goal

pub returns-in-Some : goal.returns-in-Some
returns-in-Some g c p a =
    let i = c.loop-i.i in
    sym (c.loop-i.invariant p a ∙ fault_here p c.args.n i c.loop-i-test.true c.in-Some.f
    (sym (a i _ c.loop-i-test.true c.found.ensures) ∙ c.in-Some.is))

pub loop-i-preserved : goal.loop-i-preserved
loop-i-preserved g c p a =
    let i = c.loop-i.i in
    c.loop-i.invariant p a ∙ fault_next p c.args.n i c.loop-i-test.true
    (sym (a i _ c.loop-i-test.true c.found.ensures) ∙ c.in_default.is)

pub returns : goal.returns
returns g c p a =
    sym (c.loop-i.invariant p a ∙ fault_end p c.args.n c.loop-i.i (omega (arith, c.loop-i-test.false)))
