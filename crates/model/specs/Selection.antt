-- Broadcast, first part: what selection says of each provider, and which systems are selected.
-- Assumes nothing.
use Rattle.std.specs.Prelude.{ℕ, Bool, cond, not, ◌&&◌, ◌||◌, eqb}
use Rattle.systems.specs.Set.{mask_of}
use Rattle.model.specs.Numbers.{code_of, last_provider}
use Rattle.model.specs.Books.{Books, present, runs, partner_of, filters}
use Rattle.model.specs.declared.Tn.{Tn}
use Rattle.model.specs.declared.Class.{Class}
use Rattle.model.specs.declared.Class.TheVariants.{Selected, NotPresent, NoLocal, FilterOnly, FiltersBoth}

-- A provider is skipped exactly when one of its filters names the TN's code and, if that code stands in a split pair, another names the
-- partner. By filters alone: also a provider without a Local SMS can be. [D5]
unfoldable pub skipped : Books → ℕ → ℕ → Bool
skipped bk code p =
    filters bk p code && (eqb (partner_of bk code) 0 || filters bk p (partner_of bk code))

-- Selection gives each provider one of: selected, not present, no Local SMS, filter on the only code, filters on both codes. Present is
-- asked first, then the Local SMS, then the filters; a code that stands in no pair is the only one. [A8.1]
unfoldable pub class_of : Books → ℕ → ℕ → Class
class_of bk code p =
    cond (not (present bk p)) NotPresent
    (cond (not (runs bk p)) NoLocal
    (cond (skipped bk code p) (cond (eqb (partner_of bk code) 0) FilterOnly FiltersBoth) Selected))

-- the number of each class, in the order of the sentence [H7, A8.1]
abbrev pub class_number : Class → ℕ
class_number Selected = 0
class_number NotPresent = 1
class_number NoLocal = 2
class_number FilterOnly = 3
class_number FiltersBoth = 4

abbrev pub is_selected : Class → Bool
is_selected c = eqb (class_number c) 0

-- A provider is selected when it runs a Local SMS and is not skipped. [D5]
abbrev pub selects : Books → ℕ → ℕ → Bool
selects bk code p = is_selected (class_of bk code p)

-- The set of the selected: broadcast and resend take it. [A8.2]
unfoldable pub selected_for : Books → Tn → ℕ
selected_for bk tn = mask_of (selects bk (code_of tn)) last_provider
