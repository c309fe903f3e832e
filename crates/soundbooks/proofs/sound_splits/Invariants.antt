-- `soundbooks::sound_splits` meets its contract. The loop's invariant: the places that are left decide.
-- Assumes nothing.
use Prim.Native.Nat.{◌-◌}
use mathlib.Core.Path.{◌≡◌}
use Rattle.books.specs.Packed.{split_place, split_places}
use Rattle.soundbooks.specs.Scan.{scan}
use Rattle.soundbooks.specs.Sound.{split_test}
use Rattle.soundbooks.proofs.sound_splits.Given as goal

abbrev pub invariant-loop-i : goal.invariant-loop-i
invariant-loop-i l =
    scan split_test (split_place l.books) split_places 0 0 ≡ scan split_test (split_place l.books) (split_places - l.i) l.i 0
