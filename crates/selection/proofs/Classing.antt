-- The class of a provider, by its two marks, the set of the selected and whether the code stands in a pair.
-- Assumes nothing.
use Prim.Native.Nat.{ℕ, ◌≤◌}
use mathlib.Core.Path.{◌≡◌, refl, ap, ap₂, ◌∙◌}
use mathlib.Core.Bool.{Bool, true, false, cond, not}
use lib.Dec.{eqb}
use Rattle.systems.specs.Set.{member, mask_of}
use Rattle.systems.proofs.Laws.{mask_member}
use Rattle.model.specs.Books.{Books, present, runs, partner_of}
use Rattle.model.specs.Selection.{skipped, class_of, is_selected, selects}
use Rattle.model.specs.declared.Class.{Class}
use Rattle.model.specs.declared.Class.TheVariants.{Selected, NotPresent, NoLocal, FilterOnly, FiltersBoth}

-- by present, Local SMS, selected, in a pair
abbrev class_by : Bool → Bool → Bool → Bool → Class
class_by a b s q = cond (not a) NotPresent (cond (not b) NoLocal (cond s Selected (cond q FiltersBoth FilterOnly)))

-- and by present, Local SMS, skipped, in no pair
abbrev class_as : Bool → Bool → Bool → Bool → Class
class_as a b k z = cond (not a) NotPresent (cond (not b) NoLocal (cond k (cond z FilterOnly FiltersBoth) Selected))

pub class_each : (bk : Books) (code set : ℕ) (q : Bool) → set ≡ mask_of (selects bk code) 63 → q ≡ not (eqb (partner_of bk code) 0)
    → (p : ℕ) → 1 ≤ p → p ≤ 63 → class_by (present bk p) (runs bk p) (member set p) q ≡ class_of bk code p
unfolding class_of
class_each bk code set q hs hq p l m =
    ap₂ (class_by (present bk p) (runs bk p)) (ap (λ (s : ℕ). member s p) hs ∙ mask_member (selects bk code) 63 p l m) hq
    ∙ go (present bk p) (runs bk p) (skipped bk code p) (eqb (partner_of bk code) 0)
  where
    go : (a b k z : Bool) → class_by a b (is_selected (class_as a b k z)) (not z) ≡ class_as a b k z
    go false b k z = refl
    go true false k z = refl
    go true true false z = refl
    go true true true true = refl
    go true true true false = refl
