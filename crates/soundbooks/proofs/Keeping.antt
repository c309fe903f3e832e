-- What is kept of a provider list beside the books: its marks, where both are sound. Assumes nothing.
use Prim.Native.Nat.{ℕ}
use mathlib.Core.Path.{◌≡◌, refl, subst}
use mathlib.Core.Bool.{Bool, true, false, cond, ◌&&◌}
use mathlib.Core.List.{List}
use Rattle.std.specs.Prelude.{Option, None, Some, is_some}
use Rattle.model.specs.declared.Marks.{Marks}
use Rattle.providers.specs.Providers.{marks_in}
use Rattle.books.specs.Packed.{sound_bytes}
use Rattle.soundbooks.specs.Sound.{kept_by}

-- some are kept exactly where both are sound
pub kept_is : (l : Option Marks) (b : List ℕ) → is_some (kept_by l b) ≡ (is_some l && sound_bytes (marks_in l) b)
kept_is None b = refl
kept_is (Some m) b = go (sound_bytes m b)
  where
    go : (k : Bool) → is_some (cond k (Some m) None) ≡ k
    go true = refl
    go false = refl

-- and they are the list's own
pub kept_marks : (l : Option Marks) (b : List ℕ) (m : Marks) → kept_by l b ≡ Some m → (l ≡ Some m) × (sound_bytes m b ≡ true)
kept_marks None b m e = absurd (cc)
kept_marks (Some k) b m e = go (sound_bytes k b) refl e
  where
    go : (x : Bool) → sound_bytes k b ≡ x → cond x (Some k) None ≡ Some m → (Some k ≡ Some m) × (sound_bytes m b ≡ true)
    go true q e = (e, subst (λ (j : Marks). sound_bytes j b ≡ true) (let h : k ≡ m = cc in h) q)
    go false q e = absurd (cc)
