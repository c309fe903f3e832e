-- The example of docs/LAYOUTS.md, as a theorem: a download create to the Local SMS of provider 2.
-- Assumes nothing.
use mathlib.Core.Path.{◌≡◌, refl}
use mathlib.Core.Bool.{true}
use mathlib.Core.List.{List, [], ◌∷◌}
use Prim.Native.Nat.{ℕ}
use Rattle.octets.specs.Octets.{be, digits}
use Rattle.model.specs.declared.Message.{Message}
use Rattle.tray.specs.Tray.{message_bytes, read_message}

abbrev download : Message
download = record {
  local = true;
  provider = 2;
  sort = 4;
  id = record { tn = record { 0 = 3035550100 }; number = 1 };
  status = 3;
  failed = 0;
  lrn = record { 0 = 3035550000 };
}

abbrev bytes : List ℕ
bytes =
    45 ∷ 59 ∷ 180 ∷ 101 ∷ 0 ∷ 0 ∷ 76 ∷ 36 ∷ 45 ∷ 59 ∷ 180 ∷ 76 ∷ 32 ∷ 0 ∷ 0 ∷ 0 ∷ 0 ∷ 0 ∷ 0 ∷ 0 ∷ 0 ∷ 0 ∷ 0 ∷ 0 ∷ []

pub written : message_bytes download ≡ bytes
unfolding message_bytes digits
written = refl

pub read : read_message bytes ≡ download
unfolding read_message be
read = refl
