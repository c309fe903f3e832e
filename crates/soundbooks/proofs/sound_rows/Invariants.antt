-- `soundbooks::sound_rows` meets its contract.
-- Assumes nothing.
use Prim.Native.Nat.{◌-◌}
use mathlib.Core.Path.{◌≡◌}
use Rattle.books.specs.Packed.{place_of, row_places}
use Rattle.soundbooks.specs.Scan.{scan}
use mathlib.Core.Bool.{Bool}
use Rattle.model.specs.declared.Marks.{Marks}
use Rattle.soundbooks.specs.Sound.{row_test, RowsBy}
use Rattle.soundbooks.proofs.sound_rows.Given as goal

abbrev pub invariant-loop-i : goal.invariant-loop-i
invariant-loop-i g l = (l.w ≡ place_of 4 l.at l.books l.i)
    × ((f : Bool) (m : Marks) → RowsBy (goal.F-post g l.fn.good) f m → scan (row_test f m) (place_of 4 l.at l.books) row_places 0 0
    ≡ scan (row_test f m) (place_of 4 l.at l.books) (row_places - l.i) l.i l.last)

abbrev pub decreases-loop-i : goal.decreases-loop-i
decreases-loop-i g l = row_places - l.i
