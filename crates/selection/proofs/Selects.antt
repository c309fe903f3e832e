-- Whether a provider is selected, by the places of the filter list; and the set of the selected, provider by provider.
-- Assumes nothing.
use Prim.Native.Nat.{ℕ, zero, suc, ◌+◌, ◌%◌, ◌^◌, ◌≤◌, ◌<◌}
use mathlib.Core.Path.{◌≡◌, refl, sym, ap, ap₂, ◌∙◌}
use mathlib.Core.Bool.{Bool, true, false, cond, not, ◌&&◌, ◌||◌, and-true, and-false, and_self, and_comm}
use mathlib.Core.List.{List}
use native.Mathlib.Nat.{pow-suc, add-zero}
use native.Mathlib.Numerals.{add-one}
use native.Mathlib.Omega.{arith}
use borrow.Author.Tests.{ltb-true, ltb-false, eqb-true}
use lib.Dec.{eqb, ltb}
use lib.Pow.{pow_mono}
use Rattle.octets.proofs.Fields.{and_l, and_r}
use Rattle.systems.specs.Set.{member, mask_of}
use Rattle.systems.proofs.Laws.{mask_lt, mask_member, ext}
use Rattle.model.specs.Basics.{among}
use Rattle.model.specs.Numbers.{is_set}
use Rattle.model.specs.Books.{Books, present, runs, partner_of, filters, sound_marks}
use Rattle.model.specs.Selection.{skipped, class_of, is_selected, selects}
use Rattle.model.specs.declared.Class.TheVariants.{Selected, NotPresent, NoLocal, FilterOnly, FiltersBoth}
use Rattle.model.specs.declared.Marks.{Marks}
use Rattle.model.proofs.SoundSets.{in_set, set_mask}
use Rattle.providers.proofs.MarksLaws.{runs-present, low}
use Rattle.books.specs.Packed.{decode_books, sound_bytes}
use Rattle.books.proofs.Given.{sound_marks_lem}
use Rattle.selection.specs.Pass.{smaller_of, larger_of}
use Rattle.selection.proofs.Places.{filter_number, places_from, filter_place_lem, no_filter}

-- ---- a code and its partner, the smaller and the larger

pub smaller-le : (c q : ℕ) → smaller_of c q ≤ larger_of c q
smaller-le c q = go (eqb q 0) (ltb c q) refl
  where
    go : (a b : Bool) → ltb c q ≡ b → cond (a || b) c q ≤ cond b q c
    go true true f = let l : c < q = ltb-true c q f in omega arith
    go true false f = omega arith
    go false true f = let l : c < q = ltb-true c q f in omega arith
    go false false f = ltb-false c q f

-- what holds of the code and, if there is one, of its partner holds of both
both_of : (f : ℕ → Bool) (c q : ℕ) → (f c && (eqb q 0 || f q)) ≡ (f (smaller_of c q) && f (larger_of c q))
both_of f c q = go (eqb q 0) refl (ltb c q) refl
  where
    go : (a : Bool) → eqb q 0 ≡ a → (b : Bool) → ltb c q ≡ b → (f c && (a || f q)) ≡ (f (cond (a || b) c q) && f (cond b q c))
    go true e true g = absurd (let l : c < q = ltb-true c q g in let z : q ≡ 0 = eqb-true q 0 e in omega arith)
    go true e false g = and-true (f c) ∙ sym (and_self (f c))
    go false e true g = refl
    go false e false g = and_comm (f c) (f q)

-- ---- whether a provider is selected

module _ (bk : Books) (c p : ℕ) where
  abbrev selects_as : Bool → Bool → Bool → Bool
  selects_as a b s =
      is_selected (cond (not a) NotPresent (cond (not b) NoLocal (cond s (cond (eqb (partner_of bk c) 0) FilterOnly FiltersBoth) Selected)))

  selects_is : selects bk c p ≡ selects_as (present bk p) (runs bk p) (skipped bk c p)
  unfolding class_of
  selects_is = refl

  -- no Local SMS
  pub not_run : runs bk p ≡ false → selects bk c p ≡ false
  not_run e = selects_is ∙ ap (λ (b : Bool). selects_as (present bk p) b (skipped bk c p)) e ∙ go (present bk p)
    where
      go : (a : Bool) → selects_as a false (skipped bk c p) ≡ false
      go true = refl
      go false = refl

  -- skipped
  pub is_skipped : skipped bk c p ≡ true → selects bk c p ≡ false
  is_skipped e = selects_is ∙ ap (selects_as (present bk p) (runs bk p)) e ∙ go (present bk p) (runs bk p) (eqb (partner_of bk c) 0)
    where
      go : (a b z : Bool) → is_selected (cond (not a) NotPresent (cond (not b) NoLocal (cond z FilterOnly FiltersBoth))) ≡ false
      go true true true = refl
      go true true false = refl
      go true false z = refl
      go false b z = refl

  -- with a Local SMS, and not skipped
  pub is_selected_lem : sound_marks bk.marks ≡ true → 0 < p → p ≤ 63 → runs bk p ≡ true → skipped bk c p ≡ false → selects bk c p ≡ true
  is_selected_lem e lo hi r k =
      selects_is
      ∙ ap₂ (λ (a b : Bool). selects_as a b (skipped bk c p)) (runs-present bk.marks e p lo hi r) r
      ∙ ap (selects_as true true) k

  skipped-both : (q : ℕ) → q ≡ partner_of bk c → skipped bk c p ≡ (filters bk p (smaller_of c q) && filters bk p (larger_of c q))
  unfolding skipped
  skipped-both q hq = ap (λ (k : ℕ). filters bk p c && (eqb k 0 || filters bk p k)) (sym hq) ∙ both_of (filters bk p) c q

module _ (m : Marks) (bs : List ℕ) (c p q : ℕ) (hq : q ≡ partner_of (decode_books m bs) c) where
  -- by the places of its filters
  pub skipped_places : larger_of c q < 2 ^ 20
      → skipped (decode_books m bs) c p
      ≡ (among (filter_number p (smaller_of c q)) (places_from bs 0) && among (filter_number p (larger_of c q)) (places_from bs 0))
  unfolding filters
  skipped_places h =
      let l : smaller_of c q ≤ larger_of c q = smaller-le c q in
      skipped-both (decode_books m bs) c p q hq
      ∙ ap₂ (λ (a b : Bool). a && b) (filter_place_lem p (smaller_of c q) (omega arith) (places_from bs 0))
      (filter_place_lem p (larger_of c q) h (places_from bs 0))

  -- no place has so large a code
  unskipped : 2 ^ 20 ≤ larger_of c q → skipped (decode_books m bs) c p ≡ false
  unfolding filters
  unskipped h =
      skipped-both (decode_books m bs) c p q hq
      ∙ ap (λ (b : Bool). filters (decode_books m bs) p (smaller_of c q) && b) (no_filter p (larger_of c q) h (places_from bs 0))
      ∙ and-false (filters (decode_books m bs) p (smaller_of c q))

-- ---- the set of the selected

-- nobody filters so large a code: all who run a Local SMS
pub all_run : (m : Marks) (bs : List ℕ) (c q : ℕ) → sound_bytes m bs ≡ true → q ≡ partner_of (decode_books m bs) c → 2 ^ 20 ≤ larger_of c q
    → m.local ≡ mask_of (selects (decode_books m bs) c) 63
unfolding sound_marks
all_run m bs c q e hq h = ext 64 m.local (mask_of f 63) (in_set m.local set).low (mask_lt f 63) same
  where
    f : ℕ → Bool
    f = selects (decode_books m bs) c

    set : is_set m.local ≡ true
    set = and_r (is_set m.present) (is_set m.local) (and_l (is_set m.present && is_set m.local) _ (sound_marks_lem m bs e))

    even : (s : ℕ) → is_set s ≡ true → eqb (s % 2) 0 ≡ true
    even s h = and_r (ltb s (2 ^ 64)) (eqb (s % 2) 0) h

    same : (p : ℕ) → p < 64 → member m.local p ≡ member (mask_of f 63) p
    same zero k = low m.local (even m.local set) ∙ sym (low (mask_of f 63) (even (mask_of f 63) (set_mask f)))
    same (suc p) k = go (member m.local (suc p)) refl ∙ sym (mask_member f 63 (suc p) (omega arith) (omega arith))
      where
        out : skipped (decode_books m bs) c (suc p) ≡ false
        out = unskipped m bs c (suc p) q hq h

        go : (b : Bool) → member m.local (suc p) ≡ b → b ≡ f (suc p)
        go true r = sym (is_selected_lem (decode_books m bs) c (suc p) (sound_marks_lem m bs e) (omega arith) (omega arith) r out)
        go false r = sym (not_run (decode_books m bs) c (suc p) r)

-- one provider more
pub skip_step : (f : ℕ → Bool) (p set : ℕ) → set ≡ mask_of f p → f (p + 1) ≡ false → set ≡ mask_of f (p + 1)
unfolding mask_of
skip_step f p set m e = m ∙ sym (rw (add-one p) (rw (rw (add-one p) at e) (add-zero (mask_of f p))))

pub take_step : (f : ℕ → Bool) (p set b : ℕ) → set ≡ mask_of f p → f (p + 1) ≡ true → b ≡ 2 ^ (p + 1) → set + b ≡ mask_of f (p + 1)
unfolding mask_of
take_step f p set b m e h = ap₂ (λ (x y : ℕ). x + y) m h ∙ sym (rw (add-one p) (rw (rw (add-one p) at e)))

pub mask_room : (f : ℕ → Bool) (p : ℕ) → p < 63 → mask_of f p + 2 ^ (p + 1) < 2 ^ 64
mask_room f p h =
    let a : 2 ^ suc (suc p) ≤ 2 ^ 64 = pow_mono {i = suc (suc p)} {j = 64} (omega arith) in
    rw (add-one p) (omega (arith, mask_lt f p, pow-suc 2 (suc p)))
