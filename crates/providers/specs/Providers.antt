-- The provider list, as document 01 lends it, and what it says. [B1]
-- Assumes nothing.
use Rattle.std.specs.Prelude.{ℕ, ◌-◌, Bool, false, cond, not, ◌&&◌, ◌||◌, List, eqb, leb, length, get_or}
use Rattle.std.specs.Prelude.{Option, None, Some, unwrap_or}
use Rattle.model.specs.Numbers.{last_provider}
use Rattle.systems.specs.Set.{mask_of}
use Rattle.model.specs.Basics.{all, implies}
use Rattle.model.specs.declared.Provider.{Provider}
use Rattle.model.specs.declared.Marks.{Marks}

-- what stands at a place beyond the list's end
abbrev pub absent : Provider
absent = record { present = false; local = false }

-- a record is sound: "runs a Local SMS" only with "present" [B1]
abbrev pub fine : Provider → Bool
fine x = implies x.local x.present

-- the list is sound: at most 63 records, each of them sound; a longer list is not cut [B1]
abbrev pub sound_list : List Provider → Bool
sound_list l = leb (length l) last_provider && all fine l

-- the marks of provider p, at place p - 1 [B1]
abbrev pub present_at : List Provider → ℕ → Bool
present_at l p = (get_or l (p - 1) absent).present

abbrev pub local_at : List Provider → ℕ → Bool
local_at l p = (get_or l (p - 1) absent).local

-- the list's marks as sets
abbrev pub marks_of : List Provider → Marks
marks_of l = record { present = mask_of (present_at l) last_provider; local = mask_of (local_at l) last_provider }

abbrev pub nobody : Marks
nobody = record { present = 0; local = 0 }

-- what the list says: its marks, where it is sound
unfoldable pub listed : List Provider → Option Marks
listed l = cond (sound_list l) (Some (marks_of l)) None

-- the marks that a list says: of an unsound one, nobody
abbrev pub marks_in : Option Marks → Marks
marks_in l = unwrap_or l nobody

-- A byte of the list: 0 absent, 1 present, 3 present and runs a Local SMS. Any other is read as the second mark without the first, which no
-- sound list has.
abbrev pub entry_of : ℕ → Provider
entry_of b = record { present = eqb b 1 || eqb b 3; local = not (eqb b 0 || eqb b 1) }
