-- `lines::place_from` meets its contract: the place is not before `at`. Assumes nothing.
use Prim.Native.Nat.{◌≤◌}
use Rattle.row.specs.Layout.{key_of}
use Rattle.rows.specs.Table.{decode}
use Rattle.table.specs.Find.{place_in}
use Rattle.lines.proofs.place_from.Given as goal

abbrev pub invariant-loop-at : goal.invariant-loop-at
invariant-loop-at l = l.at ≤ place_in (key_of l.k) (decode l.t.bytes.now)
