-- `nearest` meets its contract: the places before place j decide. Assumes nothing.
use Prim.Native.Nat.{ℕ}
use mathlib.Core.Path.{◌≡◌}
use mathlib.Core.Bool.{Bool}
use Rattle.faults.specs.Faults.{nearest, Answers}
use Rattle.faults.proofs.nearest.Given as goal

abbrev pub invariant-loop-j : goal.invariant-loop-j
invariant-loop-j g l = (p : ℕ → Bool) → Answers (goal.F-post g l.fn.passes) l.i p → nearest p l.i ≡ nearest p l.j
