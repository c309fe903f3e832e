-- `first` meets its contract: the places that are left decide. Assumes nothing.
use Prim.Native.Nat.{ℕ, ◌-◌}
use mathlib.Core.Path.{◌≡◌}
use Rattle.std.specs.Prelude.{Option}
use Rattle.faults.specs.declared.Found.{Found}
use Rattle.faults.specs.Faults.{first_fault, Answers}
use Rattle.faults.proofs.first.Given as goal

abbrev pub invariant-loop-i : goal.invariant-loop-i
invariant-loop-i g l =
    (p : ℕ → Option Found) → Answers (goal.F-post g l.fn.found) l.n p → first_fault p l.n 0 ≡ first_fault p (l.n - l.i) l.i
