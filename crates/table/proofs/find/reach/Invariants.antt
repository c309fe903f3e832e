-- `find::reach` meets its contract: the place is not before `at`. Assumes nothing.
use Prim.Native.Nat.{◌+◌, ◌*◌, ◌≤◌}
use Rattle.rows.specs.Table.{decode}
use Rattle.table.specs.Find.{place_in}
use Rattle.table.proofs.find.reach.Given as goal

abbrev pub invariant-loop-at : goal.invariant-loop-at
invariant-loop-at l = l.at ≤ place_in (l.tn * 65536 + 0) (decode l.t.bytes.now)
