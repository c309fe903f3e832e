-- Laws of free places: what place i leaves to the next, for n places in all.
-- Assumes nothing.
use Prim.Native.Nat.{ℕ, zero, suc, ◌+◌, ◌-◌, ◌*◌, ◌/◌, ◌%◌, ◌^◌, ◌≤◌, ◌<◌}
use mathlib.Core.Path.{◌≡◌, refl, sym, ap, ap₂, ◌∙◌}
use mathlib.Core.Bool.{Bool, true, false, ◌&&◌, and_assoc, and-true}
use mathlib.Core.List.{List}
use native.Mathlib.Numerals.{add-one}
use native.Mathlib.Omega.{arith}
use borrow.Author.Tests.{eq-eqb, ne_eqb, eqb-true, eqb-false}
use lib.Dec.{eqb}
use Rattle.octets.specs.Octets.{be}
use Rattle.octets.proofs.Laws.{be_add}
use Rattle.books.specs.Packed.{place_of, free_from}

-- ---- one place

pub free_used : (w : ℕ → ℕ) (n i x : ℕ) → i < n → x ≡ w i → (x ≡ 0 → ⊥) → free_from w (n - i) i ≡ false
unfolding free_from
free_used w n i x h hx nz =
    let e : n - i ≡ suc (n - (i + 1)) = omega arith in
    rw (e, ne_eqb (w i) 0 (λ q. nz (hx ∙ q)))

pub free_more : (w : ℕ → ℕ) (n i x : ℕ) → i < n → x ≡ w i → x ≡ 0 → free_from w (n - i) i ≡ free_from w (n - (i + 1)) (i + 1)
unfolding free_from
free_more w n i x h hx z =
    let e : n - i ≡ suc (n - (i + 1)) = omega arith in
    rw (e, eq-eqb (w i) 0 (sym hx ∙ z), add-one i)

pub free_end : (w : ℕ → ℕ) (n i : ℕ) → n ≤ i → free_from w (n - i) i ≡ true
unfolding free_from
free_end w n i h =
    let e : n - i ≡ 0 = omega arith in
    rw e

-- ---- four of them, one after the other

nest : (a b c d : Bool) → (a && b && c && d) ≡ (a && (b && (c && (d && true))))
nest false b c d = refl
nest true false c d = refl
nest true true false d = refl
nest true true true d = sym (and-true d)

pub four : (bs : List ℕ) (at i : ℕ)
    → (eqb (be 8 bs (at + 8 * i)) 0 && eqb (be 8 bs (at + 8 * i + 8)) 0 && eqb (be 8 bs (at + 8 * i + 16)) 0
    && eqb (be 8 bs (at + 8 * i + 24)) 0) ≡ free_from (place_of 8 at bs) 4 i
unfolding free_from
four bs at i =
    let e1 : at + 8 * i + 8 ≡ at + 8 * (suc i) = omega arith in
    let e2 : at + 8 * i + 16 ≡ at + 8 * (suc (suc i)) = omega arith in
    let e3 : at + 8 * i + 24 ≡ at + 8 * (suc (suc (suc i))) = omega arith in
    rw (e1, e2, e3)
    (nest (eqb (be 8 bs (at + 8 * i)) 0) (eqb (be 8 bs (at + 8 * (suc i))) 0) (eqb (be 8 bs (at + 8 * (suc (suc i)))) 0)
    (eqb (be 8 bs (at + 8 * (suc (suc (suc i))))) 0))

-- ---- many of them

-- m of them from i on, and then the others
pub free_some : (w : ℕ → ℕ) (m r i : ℕ) → free_from w (m + r) i ≡ (free_from w m i && free_from w r (m + i))
unfolding free_from
free_some w zero r i =
    let e : 0 + r ≡ r = omega arith in
    let j : i ≡ 0 + i = omega arith in
    ap₂ (free_from w) e j
free_some w (suc m) r i =
    let e : suc m + r ≡ suc (m + r) = omega arith in
    let j : m + suc i ≡ suc m + i = omega arith in
    ap (λ (k : ℕ). free_from w k i) e
    ∙ ap (λ (b : Bool). eqb (w i) 0 && b) (free_some w m r (suc i) ∙ ap (λ (k : ℕ). free_from w m (suc i) && free_from w r k) j)
    ∙ sym (and_assoc (eqb (w i) 0) (free_from w m (suc i)) (free_from w r (suc m + i)))

-- eight are four and four
pub eight : (w : ℕ → ℕ) (i : ℕ) → (free_from w 4 i && free_from w 4 (i + 4)) ≡ free_from w 8 i
eight w i =
    let j : i + 4 ≡ 4 + i = omega arith in
    ap (λ (k : ℕ). free_from w 4 i && free_from w 4 k) j ∙ sym (free_some w 4 4 i)

module _ (w : ℕ → ℕ) (n k : ℕ) (h : 8 ≤ n - k) where
  free_split : free_from w (n - k) k ≡ (free_from w 8 k && free_from w (n - (k + 8)) (k + 8))
  free_split =
      let e : n - k ≡ 8 + (n - (k + 8)) = omega arith in
      let j : 8 + k ≡ k + 8 = omega arith in
      ap (λ (m : ℕ). free_from w m k) e ∙ free_some w 8 (n - (k + 8)) k ∙ ap (λ (m : ℕ). free_from w 8 k && free_from w (n - (k + 8)) m) j

  pub eight_more : free_from w 8 k ≡ true → free_from w (n - k) k ≡ free_from w (n - (k + 8)) (k + 8)
  eight_more e = free_split ∙ ap (λ (b : Bool). b && free_from w (n - (k + 8)) (k + 8)) e

  pub eight_used : free_from w 8 k ≡ false → free_from w (n - k) k ≡ false
  eight_used e = free_split ∙ ap (λ (b : Bool). b && free_from w (n - (k + 8)) (k + 8)) e

-- ---- a place of eight bytes is two of four

pair_word : (bs : List ℕ) (at i : ℕ) → be 8 bs (at + 8 * i) ≡ be 4 bs (at + 4 * (2 * i)) * 2 ^ 32 + be 4 bs (at + 4 * (2 * i + 1))
pair_word bs at i =
    be_add bs 4 4 (at + 8 * i)
    ∙ ap₂ (λ (a b : ℕ). be 4 bs a * 2 ^ 32 + be 4 bs b) (omega arith) (omega arith)

pub free_pairs : (bs : List ℕ) (at m i : ℕ) → free_from (place_of 8 at bs) m i ≡ free_from (place_of 4 at bs) (2 * m) (2 * i)
unfolding free_from
free_pairs bs at zero i = refl
free_pairs bs at (suc m) i =
    let e : 2 * suc m ≡ suc (suc (2 * m)) = omega arith in
    let j : suc (suc (2 * i)) ≡ 2 * suc i = omega arith in
    let k : 2 * i + 1 ≡ suc (2 * i) = omega arith in
    ap₂ (λ (a b : Bool). a && b)
    (go (be 4 bs (at + 4 * (2 * i))) (be 4 bs (at + 4 * suc (2 * i)))
    (pair_word bs at i ∙ ap (λ (x : ℕ). be 4 bs (at + 4 * (2 * i)) * 2 ^ 32 + be 4 bs (at + 4 * x)) k)) (free_pairs bs at m (suc i))
    ∙ and_assoc (eqb (be 4 bs (at + 4 * (2 * i))) 0) (eqb (be 4 bs (at + 4 * suc (2 * i))) 0)
    (free_from (place_of 4 at bs) (2 * m) (2 * suc i))
    ∙ ap (λ (x : ℕ). eqb (be 4 bs (at + 4 * (2 * i))) 0
    && (eqb (be 4 bs (at + 4 * suc (2 * i))) 0 && free_from (place_of 4 at bs) (2 * m) x)) (sym j)
    ∙ ap (λ (x : ℕ). free_from (place_of 4 at bs) x (2 * i)) (sym e)
  where
    go : (a b : ℕ) → be 8 bs (at + 8 * i) ≡ a * 2 ^ 32 + b → eqb (be 8 bs (at + 8 * i)) 0 ≡ (eqb a 0 && eqb b 0)
    go a b h = cases (eqb a 0) refl (eqb b 0) refl
      where
        cases : (x : Bool) → eqb a 0 ≡ x → (y : Bool) → eqb b 0 ≡ y → eqb (be 8 bs (at + 8 * i)) 0 ≡ (x && y)
        cases true e true k = eq-eqb (be 8 bs (at + 8 * i)) 0 (omega (arith, h, eqb-true a 0 e, eqb-true b 0 k))
        cases true e false k = ne_eqb (be 8 bs (at + 8 * i)) 0 (λ q. eqb-false b 0 k (omega (arith, h, q)))
        cases false e y k = ne_eqb (be 8 bs (at + 8 * i)) 0 (λ q. eqb-false a 0 e (omega (arith, h, q)))

-- the same from a place of four bytes on, of 2 * n in all: an even one, and an odd one that is free
pub free_even : (bs : List ℕ) (at n i : ℕ) → (i % 2 ≡ 1 → ⊥)
    → free_from (place_of 4 at bs) (2 * n - i) i ≡ free_from (place_of 8 at bs) (n - i / 2) (i / 2)
free_even bs at n i h =
    let e : i ≡ 2 * (i / 2) = omega arith in
    let m : 2 * n - i ≡ 2 * (n - i / 2) = omega arith in
    ap₂ (free_from (place_of 4 at bs)) m e ∙ sym (free_pairs bs at (n - i / 2) (i / 2))

pub free_odd : (bs : List ℕ) (at n i x : ℕ) → i ≤ 2 * n → i % 2 ≡ 1 → x ≡ place_of 4 at bs i → x ≡ 0
    → free_from (place_of 4 at bs) (2 * n - i) i ≡ free_from (place_of 8 at bs) (n - (i + 1) / 2) ((i + 1) / 2)
free_odd bs at n i x l h hx z = free_more (place_of 4 at bs) (2 * n) i x (omega arith) hx z ∙ free_even bs at n (i + 1) (omega arith)
