-- A good place of a code or a filter, behind the place `last`. A place is a number.
-- Assumes nothing.
use Rattle.std.specs.Prelude.{ℕ, ◌/◌, ◌%◌, ◌^◌, Bool, cond, ◌&&◌, ltb}
use Rattle.systems.specs.Set.{member}
use Rattle.model.specs.Numbers.{is_code, is_provider}
use Rattle.model.specs.declared.Marks.{Marks}

-- a code above the last one, owned by a present provider [B2]
abbrev pub good_code : Marks → ℕ → ℕ → Bool
good_code m last x = ltb (last / 64) (x / 64) && (is_code (x / 64) && is_provider (x % 64) && member m.present (x % 64))

-- a filter above the last one, of a present provider [B3]
abbrev pub good_filter : Marks → ℕ → ℕ → Bool
good_filter m last x = ltb last x && (is_provider (x / 2 ^ 20) && member m.present (x / 2 ^ 20) && is_code (x % 2 ^ 20))

-- a filter, or a code
abbrev pub good_row : Bool → Marks → ℕ → ℕ → Bool
good_row filters m last x = cond filters (good_filter m last x) (good_code m last x)
