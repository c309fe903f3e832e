-- The provider list read record by record.
-- Assumes nothing.
use Rattle.std.specs.Prelude.{ℕ, zero, suc, ◌+◌, ◌^◌, Bool, cond, not, ◌&&◌, ◌||◌, List, ltb, get_or, Option, None, Some}
use Rattle.std.specs.Int.Bits.{bit_or}
use Rattle.model.specs.Numbers.{last_provider}
use Rattle.model.specs.declared.Provider.{Provider}
use Rattle.model.specs.declared.Marks.{Marks}
use Rattle.providers.specs.Providers.{absent, nobody}

-- s with the provider at place i, bit i + 1, where on says so
unfoldable pub mark_of : ℕ → Bool → ℕ → ℕ
mark_of s on i = cond on (bit_or s (2 ^ (i + 1))) s

-- a list that was sound so far is sound with the record x at place i
abbrev pub adds_to : Provider → ℕ → Bool
adds_to x i = ltb i last_provider && (x.present || not x.local)

-- what a list says, once its record at place i is read too
abbrev pub grown_by : Option Marks → Provider → ℕ → Option Marks
grown_by None x i = None
grown_by (Some m) x i =
    cond (adds_to x i) (Some (record { present = mark_of m.present x.present i; local = mark_of m.local x.local i })) None

-- what the first n records say
unfoldable pub listed_to : List Provider → ℕ → Option Marks
listed_to l zero = Some nobody
listed_to l (suc n) = grown_by (listed_to l n) (get_or l n absent) n
