-- Lists of sound versions, and lists whose keys rise. Assumes nothing.
use mathlib.Core.Path.{◌≡◌, refl, ap}
use mathlib.Core.Bool.{Bool, true, false, false≢true}
use mathlib.Core.List.{List, [], ◌∷◌}
use mathlib.Core.Logic.{◌⊎◌, inl, inr, ⊎_elim}
use Prim.Native.Nat.{ℕ, zero, suc, ◌≤◌, ◌<◌, compare, Ordering}
use native.Mathlib.Nat.{not-suc-le-zero, le_of_suc-le-suc}
use native.Mathlib.Omega.{arith}
use borrow.Author.Tests.{leb-true, leb-false, eqb-true, eqb-false}
use lib.Dec.{is_le, compare_is_eq}
use lib.ListN.{length, get_or}
use Rattle.model.specs.declared.Id.{Id}
use Rattle.model.specs.declared.Version.{Version}
use Rattle.model.specs.Basics.{all}
use Rattle.model.specs.Table.{order, sel}
use Rattle.model.specs.Sound.{sound_version, above, rising}
use Rattle.row.specs.Layout.{key_of}
use Rattle.model.proofs.Lists.{and_l, and_r}
use Rattle.row.proofs.Rooms.{sound_room, sound_tn}

abbrev pub AllSound : List Version → Type 0
AllSound [] = Unit {0}
AllSound (v ∷ vs) = (sound_version v ≡ true) × AllSound vs

pub sound_at : (vs : List Version) (i : ℕ) (d : Version) → AllSound vs → i < length vs → sound_version (get_or vs i d) ≡ true
sound_at [] i d a l = absurd (not-suc-le-zero l)
sound_at (v ∷ vs) zero d a l = a.0
sound_at (v ∷ vs) (suc i) d a l = sound_at vs i d a.1 (le_of_suc-le-suc l)

pub all_sound : (vs : List Version) → all sound_version vs ≡ true → AllSound vs
all_sound [] e = tt
all_sound (v ∷ vs) e =
    (and_l (sound_version v) (all sound_version vs) e, all_sound vs (and_r (sound_version v) (all sound_version vs) e))

pub sound_all : (vs : List Version) → AllSound vs → all sound_version vs ≡ true
sound_all [] a = refl
sound_all (v ∷ vs) a = rw (a.0, sound_all vs a.1)

-- ---- the order of names is the order of keys

pub number_lt : (v : Version) → sound_version v ≡ true → v.id.number < 65536
number_lt v e = (sound_room v e).number

pub record Lower (a b : Id) : Type 0 where
  pub key : key_of a < key_of b
  pub is : order a b ≡ Ordering.lt

pub record Equal (a b : Id) : Type 0 where
  pub key : key_of a ≡ key_of b
  pub is : order a b ≡ Ordering.eq

pub record Higher (a b : Id) : Type 0 where
  pub key : key_of b < key_of a
  pub is : order a b ≡ Ordering.gt

module _ (a b : Id) (ha : a.number < 65536) (hb : b.number < 65536) where
  by_number : (o : Ordering) → compare a.number b.number ≡ o → compare a.tn.0 b.tn.0 ≡ Ordering.eq
      → Lower a b ⊎ (Equal a b ⊎ Higher a b)
  unfolding order
  by_number Ordering.lt e q =
      let t : a.tn.0 ≡ b.tn.0 = eqb-true _ _ (ap compare_is_eq q) in
      let l : a.number ≤ b.number = leb-true _ _ (ap is_le e) in
      let n : a.number ≡ b.number → ⊥ = eqb-false _ _ (ap compare_is_eq e) in
      inl (record { key = omega arith; is = rw (q, e) })
  by_number Ordering.eq e q =
      let t : a.tn.0 ≡ b.tn.0 = eqb-true _ _ (ap compare_is_eq q) in
      let n : a.number ≡ b.number = eqb-true _ _ (ap compare_is_eq e) in
      inr (inl (record { key = omega arith; is = rw (q, e) }))
  by_number Ordering.gt e q =
      let t : a.tn.0 ≡ b.tn.0 = eqb-true _ _ (ap compare_is_eq q) in
      let l : b.number < a.number = leb-false _ _ (ap is_le e) in
      inr (inr (record { key = omega arith; is = rw (q, e) }))

  by_tn : (o : Ordering) → compare a.tn.0 b.tn.0 ≡ o → Lower a b ⊎ (Equal a b ⊎ Higher a b)
  unfolding order
  by_tn Ordering.lt e =
      let l : a.tn.0 ≤ b.tn.0 = leb-true _ _ (ap is_le e) in
      let n : a.tn.0 ≡ b.tn.0 → ⊥ = eqb-false _ _ (ap compare_is_eq e) in
      inl (record { key = omega arith; is = rw e })
  by_tn Ordering.eq e = by_number (compare a.number b.number) refl e
  by_tn Ordering.gt e =
      let l : b.tn.0 < a.tn.0 = leb-false _ _ (ap is_le e) in
      inr (inr (record { key = omega arith; is = rw e }))

  pub order_view : Lower a b ⊎ (Equal a b ⊎ Higher a b)
  order_view = by_tn (compare a.tn.0 b.tn.0) refl

  pub key_lower : key_of a < key_of b → order a b ≡ Ordering.lt
  key_lower h = ⊎_elim (λ w. w.is) (⊎_elim (λ w. absurd (omega (arith, w.key))) (λ w. absurd (omega (arith, w.key)))) order_view

  pub key_higher : key_of b < key_of a → order a b ≡ Ordering.gt
  key_higher h = ⊎_elim (λ w. absurd (omega (arith, w.key))) (⊎_elim (λ w. absurd (omega (arith, w.key))) (λ w. w.is)) order_view

-- ---- strictly rising

-- keys above k, and rising
abbrev pub RisingFrom : ℕ → List Version → Type 0
RisingFrom k [] = Unit {0}
RisingFrom k (v ∷ vs) = (k < key_of v.id) × RisingFrom (key_of v.id) vs

sel_true : (o : Ordering) (x : Bool) → sel o x false false ≡ true → (o ≡ Ordering.lt) × (x ≡ true)
sel_true Ordering.lt x e = (refl, e)
sel_true Ordering.eq x e = absurd (false≢true e)
sel_true Ordering.gt x e = absurd (false≢true e)

pub above_rises : (k : Id) (vs : List Version) → k.number < 65536 → AllSound vs → above k vs ≡ true → RisingFrom (key_of k) vs
above_rises k [] h a e = tt
above_rises k (v ∷ vs) h a e =
    let w = sel_true (order k v.id) (above v.id vs) e in
    let n : v.id.number < 65536 = number_lt v a.0 in (
      ⊎_elim (λ z. z.key) (⊎_elim (λ z. absurd (no_other z.is w.0)) (λ z. absurd (no_higher z.is w.0)))
          (order_view k v.id h n),
      above_rises v.id vs n a.1 w.1,
    )
  where
    no_other : {o : Ordering} → o ≡ Ordering.eq → o ≡ Ordering.lt → ⊥
    no_other p q = let z : ◌≡◌ {A = ℕ} 0 1 = cc in omega arith

    no_higher : {o : Ordering} → o ≡ Ordering.gt → o ≡ Ordering.lt → ⊥
    no_higher p q = let z : ◌≡◌ {A = ℕ} 0 1 = cc in omega arith

pub rises_above : (k : Id) (vs : List Version) → k.number < 65536 → AllSound vs → RisingFrom (key_of k) vs → above k vs ≡ true
rises_above k [] h a r = refl
rises_above k (v ∷ vs) h a r =
    let n : v.id.number < 65536 = number_lt v a.0 in
    rw (key_lower k v.id h n r.0) (rises_above v.id vs n a.1 r.1)

pub rising_rises : (vs : List Version) → AllSound vs → rising vs ≡ true → RisingFrom 0 vs
rising_rises [] a e = tt
rising_rises (v ∷ vs) a e = (omega (arith, sound_tn v a.0), above_rises v.id vs (number_lt v a.0) a.1 e)

pub rises_rising : (vs : List Version) → AllSound vs → RisingFrom 0 vs → rising vs ≡ true
rises_rising [] a r = refl
rises_rising (v ∷ vs) a r = rises_above v.id vs (number_lt v a.0) a.1 r.1
