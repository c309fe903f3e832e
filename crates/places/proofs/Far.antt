-- A filter whose provider cannot be.
-- Assumes nothing.
use Prim.Native.Nat.{ℕ, ◌/◌, ◌%◌, ◌^◌, ◌<◌}
use mathlib.Core.Path.{◌≡◌, refl}
use mathlib.Core.Bool.{Bool, true, false, ◌&&◌}
use borrow.Author.Tests.{lt-leb}
use lib.Dec.{ltb, leb}
use Rattle.systems.specs.Set.{member}
use Rattle.model.specs.Numbers.{is_code}
use Rattle.model.specs.declared.Marks.{Marks}
use Rattle.places.specs.Good.{good_filter}

-- no provider has a number above 63
pub far : (m : Marks) (last x : ℕ) → 63 < x / 2 ^ 20 → good_filter m last x ≡ false
far m last x h = rw (lt-leb (x / 2 ^ 20) 63 h)
    (off (ltb last x) (leb 1 (x / 2 ^ 20)) (member m.present (x / 2 ^ 20)) (is_code (x % 2 ^ 20)))
  where
    off : (a b c d : Bool) → (a && (b && false && c && d)) ≡ false
    off true true c d = refl
    off true false c d = refl
    off false b c d = refl
