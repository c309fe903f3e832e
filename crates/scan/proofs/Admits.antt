-- The ways of `admit`, one equation each. Assumes nothing.
use mathlib.Core.Path.{◌≡◌}
use mathlib.Core.Bool.{true, false}
use Prim.Native.Nat.{◌/◌, ◌<◌}
use native.Mathlib.Nat.{mod-lt}
use lib.Dec.{lit<}
use Rattle.model.specs.Sound.{sound_version}
use Rattle.words.specs.declared.Words.{Words}
use Rattle.row.specs.Layout.{version_of, spareless}
use Rattle.std.specs.Prelude.{None}
use Rattle.scan.specs.Join.{Group, join_of}
use Rattle.scan.specs.Sound.{admit_of}

-- a TN has 34 bits in a row
pub tn_fits : (w : Words) → (version_of w).id.tn.0 < 17179869184
unfolding version_of
tn_fits w = mod-lt (w.head / 1073741824) (lit< tt)

module _ (g : Group) (w : Words) where
  pub admit_sound : spareless w ≡ true → sound_version (version_of w) ≡ true → join_of g (version_of w) ≡ admit_of g w
  unfolding admit_of
  admit_sound s v = rw (s, v)

  pub admit_unsound : spareless w ≡ true → sound_version (version_of w) ≡ false → None ≡ admit_of g w
  unfolding admit_of
  admit_unsound s v = rw (s, v)

  pub admit_spare : spareless w ≡ false → None ≡ admit_of g w
  unfolding admit_of
  admit_spare s = rw s
