-- The filter list as its places say it, numbers that rise; and what is to come of it while it is read.
-- Assumes nothing.
use Prim.Native.Nat.{ℕ, suc, ◌+◌, ◌*◌, ◌/◌, ◌%◌, ◌^◌, ◌≤◌, ◌<◌}
use mathlib.Core.Path.{◌≡◌, refl, sym, ap, ap₂, ◌∙◌}
use mathlib.Core.Bool.{Bool, true, false, ◌&&◌, ◌||◌}
use mathlib.Core.Logic.{◌⊎◌, inl, inr}
use mathlib.Core.List.{List, [], ◌∷◌, map}
use native.Mathlib.Nat.{mod-lt, div-add-mod'}
use native.Mathlib.Omega.{arith}
use borrow.Author.Tests.{lt-ltb, eq-eqb, ne_eqb, ltb-true, eqb-true, eqb-false}
use lib.Dec.{eqb, ltb, leb, lit<}
use lib.ListN.{length}
use Rattle.octets.proofs.Fields.{and_l, and_r}
use Rattle.model.specs.Basics.{among}
use Rattle.model.specs.Books.{filters_in, filters_above, sound_filters}
use Rattle.model.specs.declared.Marks.{Marks}
use Rattle.books.specs.Packed.{filter_place, row_places, filter_of, filters_of, sound_bytes}
use Rattle.books.specs.Places.{rest_of}
use Rattle.books.proofs.Places.{used_none, used_more, used_end, used-length}
use Rattle.books.proofs.Given.{sound_filters_lem}
use Rattle.books.proofs.Filters.{filters_by_place}
use Rattle.selection.specs.Pass.{most_looks}

-- ---- filters and places

-- what stands at the place of p's filter on c
abbrev pub filter_number : ℕ → ℕ → ℕ
filter_number p c = p * 2 ^ 20 + c

-- the numbers rise, above k
abbrev above : ℕ → List ℕ → Bool
above k [] = true
above k (x ∷ xs) = ltb k x && above x xs

-- a place is p's filter on c where it is that number
place_is : (x p c : ℕ) → c < 2 ^ 20 → (eqb (x / 2 ^ 20) p && eqb (x % 2 ^ 20) c) ≡ eqb (filter_number p c) x
place_is x p c h = go (eqb (x / 2 ^ 20) p) refl (eqb (x % 2 ^ 20) c) refl
  where
    d : x / 2 ^ 20 * 2 ^ 20 + x % 2 ^ 20 ≡ x
    d = div-add-mod' x (2 ^ 20)

    l : x % 2 ^ 20 < 2 ^ 20
    l = mod-lt x (lit< tt)

    go : (a : Bool) → eqb (x / 2 ^ 20) p ≡ a → (b : Bool) → eqb (x % 2 ^ 20) c ≡ b → (a && b) ≡ eqb (filter_number p c) x
    go true s true t =
        let q : x / 2 ^ 20 ≡ p = eqb-true _ _ s in
        let r : x % 2 ^ 20 ≡ c = eqb-true _ _ t in
        sym (eq-eqb (filter_number p c) x (omega arith))
    go true s false t =
        let q : x / 2 ^ 20 ≡ p = eqb-true _ _ s in
        sym (ne_eqb (filter_number p c) x (λ e. eqb-false (x % 2 ^ 20) c t (omega arith)))
    go false s b t = sym (ne_eqb (filter_number p c) x (λ e. eqb-false (x / 2 ^ 20) p s (omega arith)))

-- a filter is there where its place is
pub filter_place_lem : (p c : ℕ) → c < 2 ^ 20 → (xs : List ℕ) → filters_in p c (map filter_of xs) ≡ among (filter_number p c) xs
filter_place_lem p c h [] = refl
filter_place_lem p c h (x ∷ xs) = ap₂ (λ (a b : Bool). a || b) (place_is x p c h) (filter_place_lem p c h xs)

-- nobody filters a number above a place's codes
pub no_filter : (p c : ℕ) → 2 ^ 20 ≤ c → (xs : List ℕ) → filters_in p c (map filter_of xs) ≡ false
no_filter p c h [] = refl
no_filter p c h (x ∷ xs) = ap₂ (λ (a b : Bool). a || b) (go (eqb (x / 2 ^ 20) p)) (no_filter p c h xs)
  where
    go : (b : Bool) → (b && eqb (x % 2 ^ 20) c) ≡ false
    go true = ne_eqb (x % 2 ^ 20) c (λ e. let l : x % 2 ^ 20 < 2 ^ 20 = mod-lt x (lit< tt) in omega arith)
    go false = refl

-- filters that rise by provider and then code are places that rise
places_rise : (k : ℕ) (xs : List ℕ) → filters_above (k / 2 ^ 20) (k % 2 ^ 20) (map filter_of xs) ≡ true → above k xs ≡ true
places_rise k [] e = refl
places_rise k (x ∷ xs) e =
    ap₂ (λ (a b : Bool). a && b) (sym (filters_by_place k x) ∙ and_l here behind e) (places_rise x xs (and_r here behind e))
  where
    here : Bool
    here = ltb (k / 2 ^ 20) (x / 2 ^ 20) || (eqb (k / 2 ^ 20) (x / 2 ^ 20) && ltb (k % 2 ^ 20) (x % 2 ^ 20))

    behind : Bool
    behind = filters_above (x / 2 ^ 20) (x % 2 ^ 20) (map filter_of xs)

-- what rises above a number does not have it, nor a smaller one
above_none : (k x : ℕ) (xs : List ℕ) → above k xs ≡ true → x ≤ k → among x xs ≡ false
above_none k x [] e h = refl
above_none k x (y ∷ ys) e h =
    let l : k < y = ltb-true k y (and_l (ltb k y) (above y ys) e) in
    ap₂ (λ (a b : Bool). a || b) (ne_eqb x y (λ q. omega arith)) (above_none y x ys (and_r (ltb k y) (above y ys) e) (omega arith))

-- what rises above one number rises above a smaller one
above_less : (k j : ℕ) (xs : List ℕ) → above k xs ≡ true → j ≤ k → above j xs ≡ true
above_less k j [] e h = refl
above_less k j (x ∷ xs) e h =
    let l : k < x = ltb-true k x (and_l (ltb k x) (above x xs) e) in
    ap₂ (λ (a b : Bool). a && b) (lt-ltb j x (omega arith)) (and_r (ltb k x) (above x xs) e)

-- ---- what is to come

-- the used places from place i on
abbrev pub places_from : List ℕ → ℕ → List ℕ
places_from bs i = rest_of (filter_place bs) row_places i

-- From place i on stand all that are m or larger; they rise; and with the i before it they are all.
pub record ToCome (bs : List ℕ) (m i : ℕ) : Type 0 where
  pub larger : (x : ℕ) → m ≤ x → among x (places_from bs 0) ≡ among x (places_from bs i)
  pub rise : above 0 (places_from bs i) ≡ true
  pub used : i + length (places_from bs i) ≡ length (places_from bs 0)

pub come_start : (m : Marks) (bs : List ℕ) → sound_bytes m bs ≡ true → (k : ℕ) → ToCome bs k 0
unfolding sound_filters
come_start m bs e k = record {
  larger = λ x h. refl;
  rise =
      places_rise 0 (places_from bs 0)
      (and_r (leb (length (filters_of bs)) 1024) (filters_above 0 0 (filters_of bs))
      (and_l (leb (length (filters_of bs)) 1024 && filters_above 0 0 (filters_of bs)) _ (sound_filters_lem m bs e)));
  used = omega arith;
}

pub come_up : (bs : List ℕ) (m n i : ℕ) → m ≤ n → ToCome bs m i → ToCome bs n i
come_up bs m n i h t = record { larger = λ x k. t.larger x (omega arith); rise = t.rise; used = t.used }

-- a look for each place passed, and one for each provider but the last: there may be one more
pub come_looks : {bs : List ℕ} {m i p looks : ℕ} → ToCome bs m i → looks < i + p → p ≤ 63 → looks < most_looks
come_looks {bs = bs} {i = i} t h k =
    let l : length (places_from bs 0) ≤ row_places = used-length (filter_place bs) row_places 0 in
    let u : i + length (places_from bs i) ≡ length (places_from bs 0) = t.used in
    omega arith

-- a look at place i finds x
module _ (bs : List ℕ) (m i x : ℕ) (h : i < row_places) (hx : x ≡ filter_place bs i) (t : ToCome bs m i) where
  next : (x ≡ 0 → ⊥) → places_from bs i ≡ x ∷ places_from bs (i + 1)
  next nz = used_more (filter_place bs) row_places i x h hx nz

  rises : (x ≡ 0 → ⊥) → above x (places_from bs (i + 1)) ≡ true
  rises nz = and_r (ltb 0 x) (above x (places_from bs (i + 1))) (ap (above 0) (sym (next nz)) ∙ t.rise)

  -- a smaller one than n: those from n on are behind it
  pub come_next : (x ≡ 0 → ⊥) → (n : ℕ) → m ≤ n → x < n → ToCome bs n (i + 1)
  come_next nz n k l =
      let e : length (places_from bs i) ≡ suc (length (places_from bs (i + 1))) = ap length (next nz) in
      let u : i + length (places_from bs i) ≡ length (places_from bs 0) = t.used in
      record {
        larger = λ y a.
            t.larger y (omega arith) ∙ ap (among y) (next nz)
            ∙ ap (λ (b : Bool). b || among y (places_from bs (i + 1))) (ne_eqb y x (λ q. omega arith));
        rise = above_less x 0 (places_from bs (i + 1)) (rises nz) (omega arith);
        used = omega arith;
      }

  -- m itself: it is there
  pub come_found : x ≡ m → (x ≡ 0 → ⊥) → among m (places_from bs 0) ≡ true
  come_found q nz =
      t.larger m (omega arith) ∙ ap (among m) (next nz)
      ∙ ap (λ (b : Bool). b || among m (places_from bs (i + 1))) (eq-eqb m x (sym q))

  -- a free place, or a larger one than m: m is not there
  pub come_past : (x ≡ 0) ⊎ (m < x) → among m (places_from bs 0) ≡ false
  come_past w = t.larger m (omega arith) ∙ go (eqb x 0) refl w
    where
      go : (b : Bool) → eqb x 0 ≡ b → (x ≡ 0) ⊎ (m < x) → among m (places_from bs i) ≡ false
      go true e w = ap (among m) (used_none (filter_place bs) row_places i x hx (eqb-true x 0 e))
      go false e (inl z) = absurd (eqb-false x 0 e z)
      go false e (inr l) =
          ap (among m) (next (eqb-false x 0 e))
          ∙ ap₂ (λ (a b : Bool). a || b) (ne_eqb m x (λ q. omega arith))
          (above_none x m (places_from bs (i + 1)) (rises (eqb-false x 0 e)) (omega arith))

-- nothing is left: m is not there
pub come_end : {bs : List ℕ} {m i : ℕ} → row_places ≤ i → ToCome bs m i → among m (places_from bs 0) ≡ false
come_end {bs = bs} {m = m} {i = i} h t = t.larger m (omega arith) ∙ ap (among m) (used_end (filter_place bs) row_places i h)
