-- Selection's answer: the class of each provider.
-- Assumes nothing.
use Rattle.std.specs.Prelude.{ℕ, ◌≤◌, ◌≡◌, cond, not}
use Rattle.model.specs.Numbers.{last_provider}
use Rattle.systems.specs.Set.{member, mask_of}
use Rattle.model.specs.Books.{Books}
use Rattle.model.specs.Selection.{class_of, selects}
use Rattle.model.specs.declared.Class.{Class}
use Rattle.model.specs.declared.Class.TheVariants.{Selected, NotPresent, NoLocal, FilterOnly, FiltersBoth}
use Rattle.selection.specs.declared.Classes.{Classes}

-- the class that the answer has for a provider
abbrev pub class_in : Classes → ℕ → Class
class_in r p =
    cond (not (member r.marks.present p)) NotPresent
    (cond (not (member r.marks.local p)) NoLocal
    (cond (member r.selected p) Selected (cond r.paired FiltersBoth FilterOnly)))

-- For each of the 63 it is the provider's class, and the set is that of the class selected. [A8.1, A8.2]
pub record Classed (bk : Books) (code : ℕ) (r : Classes) : Type 0 where
  pub each : (p : ℕ) → 1 ≤ p → p ≤ last_provider → class_in r p ≡ class_of bk code p
  pub selected : r.selected ≡ mask_of (selects bk code) last_provider
