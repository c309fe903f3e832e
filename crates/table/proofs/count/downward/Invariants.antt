-- `count::downward` meets its contract: all rows from n on are free. Assumes nothing.
use Prim.Native.Nat.{◌≤◌}
use lib.ListN.{length}
use Rattle.rows.specs.Table.{decode}
use Rattle.table.proofs.count.downward.Given as goal

abbrev pub invariant-loop-n : goal.invariant-loop-n
invariant-loop-n l = length (decode l.t) ≤ l.n
