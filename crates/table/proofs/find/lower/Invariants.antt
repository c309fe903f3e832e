-- `find::lower` meets its contract: the place is among the `left` behind `lo`, or just behind them. Assumes nothing.
use Prim.Native.Nat.{◌+◌, ◌≤◌}
use Rattle.table.specs.Find.{keys_of}
use Rattle.table.proofs.Finds.{Bracket}
use Rattle.table.proofs.find.lower.Given as goal

abbrev pub invariant-loop-left : goal.invariant-loop-left
invariant-loop-left l = (l.lo + l.left ≤ l.n) × Bracket (keys_of l.n l.t) l.k l.lo (l.lo + l.left)

abbrev pub decreases-loop-left : goal.decreases-loop-left
decreases-loop-left l = l.left
