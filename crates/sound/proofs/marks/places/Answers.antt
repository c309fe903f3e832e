-- `marks::places` meets its contract. Assumes nothing.
use Prim.Native.Nat.{◌≤◌}
use native.Mathlib.Omega.{arith}
use Rattle.sound.proofs.Fitting.{above}
use Rattle.sound.specs.Marks.{fit_bits}
use Rattle.sound.proofs.marks.places.Goals as goal

pub returns-in-0 : goal.returns-in-0
unfolding fit_bits
returns-in-0 c = simp c.in-0.is

pub returns-in-1 : goal.returns-in-1
unfolding fit_bits
returns-in-1 c = simp c.in-1.is

pub returns-in-2 : goal.returns-in-2
unfolding fit_bits
returns-in-2 c = simp c.in-2.is

pub returns-in-3 : goal.returns-in-3
unfolding fit_bits
returns-in-3 c = simp c.in-3.is

pub returns-in-4 : goal.returns-in-4
unfolding fit_bits
returns-in-4 c = simp c.in-4.is

pub returns-in-5 : goal.returns-in-5
unfolding fit_bits
returns-in-5 c = simp c.in-5.is

pub returns-in-6 : goal.returns-in-6
unfolding fit_bits
returns-in-6 c = simp c.in-6.is

pub returns-in-7 : goal.returns-in-7
unfolding fit_bits
returns-in-7 c = simp c.in-7.is

pub returns-in-8 : goal.returns-in-8
unfolding fit_bits
returns-in-8 c = simp c.in-8.is

pub returns-in_default : goal.returns-in_default
returns-in_default c =
    let s = c.args.status in
    let r = c.in_default.in_default-own.rest in
    let h : 9 ≤ s = (above 8 s
    (above 7 s (above 6 s (above 5 s
    (above 4 s (above 3 s (above 2 s (above 1 s (above 0 s (omega arith) r.0.0.0.0.0.0.0.0.1) r.0.0.0.0.0.0.0.1)
    r.0.0.0.0.0.0.1) r.0.0.0.0.0.1) r.0.0.0.0.1) r.0.0.0.1) r.0.0.1) r.0.1) r.1) in
    absurd (omega (arith, h, c.requires))
