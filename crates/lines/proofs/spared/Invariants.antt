-- `lines::spared` meets its contract. The loop's invariant: the rows from i on decide. Assumes nothing.
use Prim.Native.Nat.{◌+◌, ◌*◌, ◌≤◌}
use mathlib.Core.Path.{◌≡◌}
use lib.ListN.{drop}
use Rattle.rows.specs.Table.{decode}
use Rattle.table.specs.Find.{place_in}
use Rattle.lines.specs.Pairs.{spares}
use Rattle.lines.proofs.spared.Given as goal

abbrev pub invariant-loop-i : goal.invariant-loop-i
invariant-loop-i l =
    (place_in (l.tn.0 * 65536 + 0) (decode l.t.bytes.now) ≤ l.i)
    × (spares l.tn.0 l.h (drop l.i (decode l.t.bytes.now)) ≡ spares l.tn.0 l.h (decode l.t.bytes.now))
