-- `survey::over` meets its contract. Assumes nothing.
use Prim.Native.Nat.{◌≤◌}
use lib.Seq.{slice}
use Rattle.rows.specs.Table.{decode}
use Rattle.table.specs.Survey.{Adds}
use Rattle.table.proofs.survey.over.Given as goal

-- what the pass has after the versions from i on
abbrev pub invariant-loop-i : goal.invariant-loop-i
invariant-loop-i l =
    (l.from ≤ l.i) × Adds (decode l.t.bytes.now) l.t.used l.number (slice l.i l.to (decode l.t.bytes.now)) l.initial.sum l.sum
