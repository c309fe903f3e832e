-- The two examples of docs/LAYOUTS.md: a sound version, and its row, each. Assumes nothing.
use mathlib.Core.Path.{◌≡◌, refl}
use mathlib.Core.Bool.{true, false}
use mathlib.Core.List.{List, ◌∷◌}
use Prim.Native.Nat.{ℕ}
use lib.ListN.{replicate}
use Rattle.octets.specs.Octets.{be, digits}
use Rattle.systems.specs.Set.{member}
use Rattle.model.specs.declared.Version.{Version}
use Rattle.model.specs.Basics.{every}
use Rattle.model.specs.Retries.{octal, used, no_retries}
use Rattle.model.specs.Sound.{retries_in_range, cast_in_range, in_range, new_whole, old_whole, sides_needed, cause_fits, apart, sets_apart}
use Rattle.model.specs.Sound.{retries_fit, sound_version}
use Rattle.words.specs.Codec.{words_in, bytes_of}
use Rattle.row.specs.Layout.{version_of, words_of, pack, unpack}

-- TN 3035550100, number 1, active, live, both sides created, new provider 2, old provider 1, LRN 3035550000, authorization yes, purpose
-- activate, both dues 100, stamp 104, confirmed 1, 2 and 3
example : Version
example = record {
  id = record { tn = record { 0 = 3035550100 }; number = 1 };
  status = 6;
  stamp = 104;
  live = true;
  new = record { provider = 2; created = true; lrn = record { 0 = 3035550000 }; due = 100 };
  old = record { provider = 1; created = true; authorization = 1; cause = 0; due = 100 };
  canceller = 0;
  window = false;
  within = false;
  cast = record { purpose = 1; start = 0; confirmed = 14; waiting = 0; failed = 0; retries = no_retries };
}

bytes : List ℕ
bytes =
    0x2d ∷ 0x3b ∷ 0xb4 ∷ 0x65 ∷ 0x00 ∷ 0x00 ∷ 0x5b ∷ 0x80 ∷ 0x2d ∷ 0x3b ∷ 0xb4 ∷ 0x4c ∷ 0x02 ∷ 0x05 ∷ 0x00 ∷ 0x20
    ∷ 0x00 ∷ 0x00 ∷ 0x00 ∷ 0x64 ∷ 0x00 ∷ 0x00 ∷ 0x00 ∷ 0x64 ∷ 0x00 ∷ 0x00 ∷ 0x00 ∷ 0x68 ∷ 0x00 ∷ 0x00 ∷ 0x00 ∷ 0x00
    ∷ 0x00 ∷ 0x00 ∷ 0x00 ∷ 0x00 ∷ 0x00 ∷ 0x00 ∷ 0x00 ∷ 0x0e ∷ replicate 40 0

-- within one provider: TN 3035550100, number 1, pending, created by provider 1, LRN 3035550000, due 100, stamp 10
inside : Version
inside = record {
  id = record { tn = record { 0 = 3035550100 }; number = 1 };
  status = 0;
  stamp = 10;
  live = false;
  new = record { provider = 1; created = true; lrn = record { 0 = 3035550000 }; due = 100 };
  old = record { provider = 1; created = false; authorization = 0; cause = 0; due = 0 };
  canceller = 0;
  window = false;
  within = true;
  cast = record { purpose = 0; start = 0; confirmed = 0; waiting = 0; failed = 0; retries = no_retries };
}

inside_bytes : List ℕ
inside_bytes =
    0x2d ∷ 0x3b ∷ 0xb4 ∷ 0x65 ∷ 0x00 ∷ 0x00 ∷ 0x41 ∷ 0x20 ∷ 0x2d ∷ 0x3b ∷ 0xb4 ∷ 0x4c ∷ 0x01 ∷ 0x04 ∷ 0x00 ∷ 0x00
    ∷ 0x00 ∷ 0x00 ∷ 0x00 ∷ 0x64 ∷ 0x00 ∷ 0x00 ∷ 0x00 ∷ 0x00 ∷ 0x00 ∷ 0x00 ∷ 0x00 ∷ 0x0a ∷ replicate 52 0

packed : (pack example ≡ bytes) × (pack inside ≡ inside_bytes)
unfolding example bytes inside inside_bytes pack words_of bytes_of digits
packed = (refl, refl)

unpacked : (unpack bytes ≡ example) × (unpack inside_bytes ≡ inside)
unfolding example bytes inside inside_bytes unpack version_of words_in be
unpacked = (refl, refl)

are_sound : (sound_version example ≡ true) × (sound_version inside ≡ true)
unfolding example inside sound_version in_range cast_in_range retries_in_range new_whole old_whole sides_needed cause_fits sets_apart apart
    retries_fit every used octal member
are_sound = (refl, refl)
