-- `scan::ended` meets its contract: the rest of the rows decides what all after the used ones do. Assumes nothing.
use mathlib.Core.Path.{◌≡◌}
use lib.ListN.{drop}
use Rattle.rows.specs.Table.{pieces_of}
use Rattle.scan.specs.Sound.{Ended, scan_rows}
use Rattle.scan.proofs.ended.Given as goal

abbrev pub invariant-loop-i : goal.invariant-loop-i
invariant-loop-i l = scan_rows (Ended l.used) (drop l.i (pieces_of l.t)) ≡ scan_rows (Ended l.used) (drop l.used (pieces_of l.t))
