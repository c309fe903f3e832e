-- Sets of systems: when one is in range, and when two are apart, as facts of their members.
-- Assumes nothing.
use mathlib.Core.Path.{◌≡◌, refl, sym, ap, ◌∙◌, subst}
use Prim.Native.Nat.{ℕ, zero, suc, ◌+◌, ◌-◌, ◌%◌, ◌^◌, ◌≤◌, ◌<◌}
use mathlib.Core.Bool.{Bool, true, false, cond, not, ◌&&◌}
use lib.Dec.{eqb, ltb}
use native.Mathlib.Nat.{pow-suc, add-mul-mod_self_right, add-zero}
use native.Mathlib.Omega.{arith}
use borrow.Author.Tests.{eqb-true, eqb-false, eq-eqb, ltb-true, ltb-false, lt-ltb}
use lib.Pow.{pow_pos}
use Rattle.systems.specs.Set.{member, mask_of, meet}
use Rattle.systems.proofs.Laws.{in_le, out_fits, mask_lt, mask_member, with_other, without_same, without_other}
use Rattle.model.specs.Basics.{every}
use Rattle.model.specs.Numbers.{is_set}
use Rattle.model.specs.Sound.{apart}
use Rattle.model.proofs.Lists.{clash, and_l, and_r, both_true, none_true}
use Rattle.model.proofs.Arrivals.{member_none}

-- ---- a test of each of 1 to n

pub every_at : (f : ℕ → Bool) (n p : ℕ) → every f n ≡ true → 1 ≤ p → p ≤ n → f p ≡ true
unfolding every
every_at f zero p h l m = absurd (omega arith)
every_at f (suc n) p h l m = go (eqb p (suc n)) refl (every_at f n p (and_l (every f n) (f (suc n)) h) l)
  where
    go : (b : Bool) → eqb p (suc n) ≡ b → (p ≤ n → f p ≡ true) → f p ≡ true
    go true e ih = subst (λ (k : ℕ). f k ≡ true) (sym (eqb-true p (suc n) e)) (and_r (every f n) (f (suc n)) h)
    go false e ih = let k : p ≡ suc n → ⊥ = eqb-false p (suc n) e in ih (omega arith)

pub every-all : (f : ℕ → Bool) (n : ℕ) → ((p : ℕ) → 1 ≤ p → p ≤ n → f p ≡ true) → every f n ≡ true
unfolding every
every-all f zero h = refl
every-all f (suc n) h = both_true (every f n) (f (suc n)) (every-all f n (λ p l m. h p l (omega arith)))
    (h (suc n) (omega arith) (omega arith))

-- ---- a set in range

pub record InSet (s : ℕ) : Type 0 where
  pub low : s < 2 ^ 64
  pub even : s % 2 ≡ 0

pub in_set : (s : ℕ) → is_set s ≡ true → InSet s
in_set s h =
    record {
      low = ltb-true s (2 ^ 64) (and_l (ltb s (2 ^ 64)) (eqb (s % 2) 0) h);
      even = eqb-true (s % 2) 0
          (and_r (ltb s (2 ^ 64)) (eqb (s % 2) 0) h);
    }

pub set_in : (s : ℕ) → InSet s → is_set s ≡ true
set_in s r = both_true (ltb s (2 ^ 64)) (eqb (s % 2) 0) (lt-ltb s (2 ^ 64) r.low) (eq-eqb (s % 2) 0 r.even)

even_pow : (s p : ℕ) → 1 ≤ p → (s + 2 ^ p) % 2 ≡ s % 2
even_pow s zero h = absurd (omega arith)
even_pow s (suc q) h = ap (λ (k : ℕ). (s + k) % 2) (pow-suc 2 q) ∙ add-mul-mod_self_right s (2 ^ q) 2

pub set_none : is_set 0 ≡ true
set_none = refl

pub set_with : (s p : ℕ) → is_set s ≡ true → 1 ≤ p → p < 64 → member s p ≡ false → is_set (s + 2 ^ p) ≡ true
set_with s p h l m k =
    let r : InSet s = in_set s h in
    set_in (s + 2 ^ p) (record { low = out_fits 64 s p m r.low k; even = even_pow s p l ∙ r.even })

pub set_without : (s p : ℕ) → is_set s ≡ true → 1 ≤ p → member s p ≡ true → is_set (s - 2 ^ p) ≡ true
set_without s p h l k =
    let r : InSet s = in_set s h in
    let le : 2 ^ p ≤ s = in_le s p k in
    let e : (s - 2 ^ p) + 2 ^ p ≡ s = omega arith in
    set_in (s - 2 ^ p)
    (record {
      low = let lo : s < 2 ^ 64 = r.low in omega arith;
      even = sym (even_pow (s - 2 ^ p) p l)
          ∙ ap (λ (x : ℕ). x % 2) e ∙ r.even;
    })

mask_even : (f : ℕ → Bool) (n : ℕ) → mask_of f n % 2 ≡ 0
unfolding mask_of
mask_even f zero = refl
mask_even f (suc n) = go (f (suc n)) (mask_even f n)
  where
    go : (b : Bool) → mask_of f n % 2 ≡ 0 → (mask_of f n + cond b (2 ^ suc n) 0) % 2 ≡ 0
    go true ih = even_pow (mask_of f n) (suc n) (omega arith) ∙ ih
    go false ih = ap (λ (x : ℕ). x % 2) (add-zero (mask_of f n)) ∙ ih

pub set_mask : (f : ℕ → Bool) → is_set (mask_of f 63) ≡ true
set_mask f = set_in (mask_of f 63) (record { low = mask_lt f 63; even = mask_even f 63 })

-- ---- empty or not

pub some_member : (s p : ℕ) → member s p ≡ true → ltb 0 s ≡ true
some_member s p h = lt-ltb 0 s (let le : 2 ^ p ≤ s = in_le s p h in let pos : 0 < 2 ^ p = pow_pos p in omega arith)

pub some_zero : (s : ℕ) → eqb s 0 ≡ not (ltb 0 s)
some_zero s = go (ltb 0 s) refl
  where
    go : (b : Bool) → ltb 0 s ≡ b → eqb s 0 ≡ not b
    go true e = none_true (eqb s 0) (λ q. let a : s ≡ 0 = eqb-true s 0 q in let c : 0 < s = ltb-true 0 s e in absurd (omega arith))
    go false e = eq-eqb s 0 (let c : s ≤ 0 = ltb-false 0 s e in omega arith)

-- ---- apart

pub record Apart (a b : ℕ) : Type 0 where
  pub out : (p : ℕ) → 1 ≤ p → p ≤ 63 → member a p ≡ true → member b p ≡ false

not_both : (x y : Bool) → not (x && y) ≡ true → x ≡ true → y ≡ false
not_both true true h e = clash h
not_both true false h e = refl
not_both false y h e = clash e

both_not : (x y : Bool) → (x ≡ true → y ≡ false) → not (x && y) ≡ true
both_not true true h = absurd (let q : true ≡ false = h refl in clash (sym q))
both_not true false h = refl
both_not false y h = refl

pub apart_says : (a b : ℕ) → apart a b ≡ true → Apart a b
unfolding apart
apart_says a b h =
    record { out = λ p l m. not_both (member a p) (member b p) (every_at (λ (q : ℕ). not (member a q && member b q)) 63 p h l m) }

pub says_apart : (a b : ℕ) → Apart a b → apart a b ≡ true
unfolding apart
says_apart a b r =
    every-all (λ (q : ℕ). not (member a q && member b q)) 63 (λ p l m. both_not (member a p) (member b p) (r.out p l m))

-- whoever is in the other is not in the one
pub apart-turned : (a b p : ℕ) → Apart a b → 1 ≤ p → p ≤ 63 → member b p ≡ true → member a p ≡ false
apart-turned a b p r l m h = go (member a p) refl
  where
    go : (x : Bool) → member a p ≡ x → member a p ≡ false
    go true e = clash (sym (r.out p l m e) ∙ h)
    go false e = e

-- those in both sets are in each
pub meet_in : (a b p : ℕ) → 1 ≤ p → p ≤ 63 → member (meet a b) p ≡ true → member a p ≡ true
unfolding meet
meet_in a b p l m h =
    and_l (member a p) (member b p) (sym (mask_member (λ (q : ℕ). member a q && member b q) 63 p l m) ∙ h)

pub set-meet : (a b : ℕ) → is_set (meet a b) ≡ true
unfolding meet
set-meet a b = set_mask (λ (p : ℕ). member a p && member b p)

pub meet_none : (b : ℕ) → meet 0 b ≡ 0
unfolding meet mask_of
meet_none b = go 63
  where
    go : (n : ℕ) → mask_of (λ (p : ℕ). member 0 p && member b p) n ≡ 0
    go zero = refl
    go (suc n) = rw (member_none (suc n)) (ap (λ (x : ℕ). x + 0) (go n))

-- ---- one system put in, or taken out

module _ (a b p : ℕ) (r : Apart a b) where
  pub apart_with : member a p ≡ false → member b p ≡ false → Apart (a + 2 ^ p) b
  apart_with na nb = record { out = λ q l m h. go q l m h (eqb q p) refl }
    where
      go : (q : ℕ) → 1 ≤ q → q ≤ 63 → member (a + 2 ^ p) q ≡ true → (x : Bool) → eqb q p ≡ x → member b q ≡ false
      go q l m h true e = subst (λ (j : ℕ). member b j ≡ false) (sym (eqb-true q p e)) nb
      go q l m h false e = r.out q l m (sym (with_other a p q na (eqb-false q p e)) ∙ h)

  pub apart_with_r : member a p ≡ false → member b p ≡ false → Apart a (b + 2 ^ p)
  apart_with_r na nb = record { out = λ q l m h. go q l m h (eqb q p) refl }
    where
      go : (q : ℕ) → 1 ≤ q → q ≤ 63 → member a q ≡ true → (x : Bool) → eqb q p ≡ x → member (b + 2 ^ p) q ≡ false
      go q l m h true e = clash (sym na ∙ subst (λ (j : ℕ). member a j ≡ true) (eqb-true q p e) h)
      go q l m h false e = with_other b p q nb (eqb-false q p e) ∙ r.out q l m h

  pub apart_without : member a p ≡ true → Apart (a - 2 ^ p) b
  apart_without ha = record { out = λ q l m h. go q l m h (eqb q p) refl }
    where
      go : (q : ℕ) → 1 ≤ q → q ≤ 63 → member (a - 2 ^ p) q ≡ true → (x : Bool) → eqb q p ≡ x → member b q ≡ false
      go q l m h true e = clash (sym (without_same a p ha) ∙ subst (λ (j : ℕ). member (a - 2 ^ p) j ≡ true) (eqb-true q p e) h)
      go q l m h false e = r.out q l m (sym (without_other a p q ha (eqb-false q p e)) ∙ h)

  pub apart_without_r : member b p ≡ true → Apart a (b - 2 ^ p)
  apart_without_r hb = record { out = λ q l m h. go q l m h (eqb q p) refl }
    where
      go : (q : ℕ) → 1 ≤ q → q ≤ 63 → member a q ≡ true → (x : Bool) → eqb q p ≡ x → member (b - 2 ^ p) q ≡ false
      go q l m h true e = subst (λ (j : ℕ). member (b - 2 ^ p) j ≡ false) (sym (eqb-true q p e)) (without_same b p hb)
      go q l m h false e = without_other b p q hb (eqb-false q p e) ∙ r.out q l m h
