-- `scan::over` meets its contract: the rest of the rows, from what the used ones so far say, decides what all do. Assumes nothing.
use mathlib.Core.Path.{◌≡◌}
use Prim.Native.Nat.{◌<◌}
use lib.ListN.{drop}
use Rattle.rows.specs.Table.{pieces_of}
use Rattle.scan.specs.Join.{start}
use Rattle.scan.specs.Carried.{group_of}
use Rattle.scan.specs.Sound.{Open, scan_rows}
use Rattle.scan.proofs.over.Given as goal

abbrev pub invariant-loop-i : goal.invariant-loop-i
invariant-loop-i l =
    (l.s.had < 8) × (scan_rows (Open l.i (group_of l.s)) (drop l.i (pieces_of l.t)) ≡ scan_rows (Open 0 start) (pieces_of l.t))
