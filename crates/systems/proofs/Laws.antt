-- Laws of sets of providers as numbers.
-- Assumes nothing.
use mathlib.Core.Path.{◌≡◌, refl, sym, ap, ap₂, ◌∙◌, subst}
use mathlib.Core.Bool.{Bool, true, false, cond, ◌&&◌}
use Prim.Native.Nat.{ℕ, zero, suc, ◌+◌, ◌-◌, ◌*◌, ◌/◌, ◌%◌, ◌^◌, ◌≤◌, ◌<◌}
use native.Mathlib.Nat.{mod-lt, div-add-mod', pow-suc, le-div_iff_mul-le, one-mul, add-zero, add-mul, mod-eq_of_lt, mod-one, div-eq_of_lt}
use native.Mathlib.Nat.{add-div_right, add-mul-div_right, lt_of_lt_of_le, pow-le-pow_right, pow-zero, div-one}
use native.Mathlib.Numerals.{one-add}
use native.Mathlib.Omega.{arith}
use borrow.Author.Tests.{eqb-true, eqb-false, eq-eqb, ltb-true, ltb-false}
use lib.Dec.{eqb, ltb, lit<}
use lib.Arith.{digits_lt}
use lib.Pow.{pow_pos, shr_lt, pow-add, mod-pow-add, shr-shr}
use lib.Count.{ones, ones_cat}
use lib.Bits.{bit_and, and_shr, and_mod, and_le_l}
use Rattle.systems.specs.Set.{member, count, mask_of, meet}

-- the digit of s at 2 ^ p
unfoldable pub digit : ℕ → ℕ → ℕ
digit s p = (s / 2 ^ p) % 2

pub digit_lt : (s p : ℕ) → digit s p < 2
unfolding digit
digit_lt s p = mod-lt (s / 2 ^ p) (lit< tt)

pub in→digit : (s p : ℕ) → member s p ≡ true → digit s p ≡ 1
unfolding digit member
in→digit s p h = eqb-true _ _ h

pub out→digit : (s p : ℕ) → member s p ≡ false → digit s p ≡ 0
unfolding digit member
out→digit s p h =
    let d : (s / 2 ^ p) % 2 < 2 = digit_lt s p in
    let n : ((s / 2 ^ p) % 2 ≡ 1 → ⊥) = eqb-false _ _ h in
    omega arith

-- a set that has p is at least 2 ^ p
pub in_le : (s p : ℕ) → member s p ≡ true → 2 ^ p ≤ s
unfolding digit
in_le s p h =
    let d : (s / 2 ^ p) % 2 ≡ 1 = in→digit s p h in
    let q : 1 ≤ s / 2 ^ p = omega arith in
    rw one-mul at ((le-div_iff_mul-le {k = 2 ^ p} {x = 1} {y = s} (pow_pos p)).0 q)

-- a set that lacks p has room for it
pub out_fits : (w s p : ℕ) → p < w → s < 2 ^ w → member s p ≡ false → s + 2 ^ p < 2 ^ w
unfolding digit
out_fits w s p hp hs h =
    let d : (s / 2 ^ p) % 2 ≡ 0 = out→digit s p h in
    let e : suc (w - (p + 1)) + p ≡ w = omega arith in
    let hs' : s < 2 ^ (suc (w - (p + 1)) + p) = subst (λ (x : ℕ). s < 2 ^ x) (sym e) hs in
    let a : s / 2 ^ p < 2 ^ suc (w - (p + 1)) = shr_lt (suc (w - (p + 1))) p hs' in
    let b : s / 2 ^ p + 1 < 2 ^ suc (w - (p + 1)) = omega (arith, pow-suc 2 (w - (p + 1))) in
    let f : (s / 2 ^ p + 1) * 2 ^ p + s % 2 ^ p < 2 ^ suc (w - (p + 1)) * 2 ^ p = digits_lt b (mod-lt s (pow_pos p)) in
    subst (λ (x : ℕ). s + 2 ^ p < 2 ^ x) e
    (omega (arith, div-add-mod' s (2 ^ p), add-mul (s / 2 ^ p) 1 (2 ^ p), pow-add 2 (suc (w - (p + 1))) p))

-- ---- the size of a set

ones_bit : (b : ℕ) → b < 2 → ones b ≡ b
unfolding ones
ones_bit zero h = refl
ones_bit (suc zero) h = refl
ones_bit (suc (suc b)) h = omega arith

-- a member counts as its digit
pub in_digit : (s p : ℕ) → cond (member s p) 1 0 ≡ digit s p
in_digit s p = go (member s p) refl
  where
    go : (b : Bool) → member s p ≡ b → cond b 1 0 ≡ digit s p
    go true h = sym (in→digit s p h)
    go false h = sym (out→digit s p h)

in_digit' : (s p : ℕ) → cond (member s p) 1 0 ≡ s / 2 ^ p % 2
unfolding digit
in_digit' s p = in_digit s p

-- the digits of s up to provider n: its lowest, and one for each provider
ones_count : (s n : ℕ) → ones (s % 2 ^ suc n) ≡ s % 2 + count s n
unfolding count
ones_count s zero = ones_bit (s % 2) (mod-lt s (lit< tt)) ∙ sym (add-zero (s % 2))
ones_count s (suc n) =
    let a : s % 2 ^ suc (suc n) ≡ (s / 2 ^ suc n % 2) * 2 ^ suc n + s % 2 ^ suc n = rw one-add at (mod-pow-add s 1 (suc n)) in
    let b : ones ((s / 2 ^ suc n % 2) * 2 ^ suc n + s % 2 ^ suc n) ≡ ones (s / 2 ^ suc n % 2) + ones (s % 2 ^ suc n)
    = ones_cat (suc n) (s / 2 ^ suc n % 2) (s % 2 ^ suc n) (mod-lt s (pow_pos (suc n))) in
    let d : ones (s / 2 ^ suc n % 2) ≡ cond (member s (suc n)) 1 0
    = ones_bit (s / 2 ^ suc n % 2) (mod-lt (s / 2 ^ suc n) (lit< tt)) ∙ sym (in_digit' s (suc n)) in
    omega (arith, ap ones a, ones_count s n)

-- a set has as many providers as ones above place 0
pub count_ones : (s : ℕ) → s < 2 ^ 64 → ones (s / 2) ≡ count s 63
count_ones s h =
    let a : ones (s / 2 * 2 + s % 2) ≡ ones (s / 2) + ones (s % 2) = ones_cat 1 (s / 2) (s % 2) (mod-lt s (lit< tt)) in
    omega (arith, a, ones_count s 63, ap ones (mod-eq_of_lt h), ap ones (div-add-mod' s 2), ones_bit (s % 2) (mod-lt s (lit< tt)))

-- ---- a set given by a test

cond-le : (b : Bool) (x : ℕ) → cond b x 0 ≤ x
cond-le true x = omega arith
cond-le false x = omega arith

pub mask_lt : (f : ℕ → Bool) (n : ℕ) → mask_of f n < 2 ^ suc n
unfolding mask_of
mask_lt f zero = lit< tt
mask_lt f (suc n) = omega (arith, mask_lt f n, cond-le (f (suc n)) (2 ^ suc n), pow-suc 2 (suc n))

digit_above : (m k : ℕ) → m < 2 ^ k → digit m k ≡ 0
unfolding digit
digit_above m k h = ap (λ (x : ℕ). x % 2) (div-eq_of_lt h)

digit_high : (m k : ℕ) → m < 2 ^ k → digit (m + 2 ^ k) k ≡ 1
unfolding digit
digit_high m k h = ap (λ (x : ℕ). x % 2) (add-div_right m (pow_pos k) ∙ ap (λ (x : ℕ). x + 1) (div-eq_of_lt h))

-- nobody above the width is in a set
pub member_high : (w s p : ℕ) → s < 2 ^ w → w ≤ p → member s p ≡ false
unfolding member
member_high w s p h l =
    ap (λ (x : ℕ). eqb (x % 2) 1) (div-eq_of_lt (lt_of_lt_of_le h (pow-le-pow_right (lit< tt) l)))

-- what is added at k changes no digit below k
digit_below : (m k p : ℕ) → p < k → digit (m + 2 ^ k) p ≡ digit m p
unfolding digit
digit_below m k p h =
    let e : suc (k - (p + 1)) + p ≡ k = omega arith in
    let a : 2 ^ k ≡ 2 ^ suc (k - (p + 1)) * 2 ^ p = ap (λ (x : ℕ). 2 ^ x) (sym e) ∙ pow-add 2 (suc (k - (p + 1))) p in
    let b : (m + 2 ^ suc (k - (p + 1)) * 2 ^ p) / 2 ^ p ≡ m / 2 ^ p + 2 ^ suc (k - (p + 1)) =
    add-mul-div_right m (2 ^ suc (k - (p + 1))) (pow_pos p) in
    rw (a, b) (omega (arith, pow-suc 2 (k - (p + 1))))

same_digit : (s t p : ℕ) → digit s p ≡ digit t p → member s p ≡ member t p
unfolding digit member
same_digit s t p e = ap (λ (x : ℕ). eqb x 1) e

eq_digit : (s t p : ℕ) → s / 2 ^ p ≡ t / 2 ^ p → digit s p ≡ digit t p
unfolding digit
eq_digit s t p e = ap (λ (x : ℕ). x % 2) e

digit_in : (s p : ℕ) → digit s p ≡ 1 → member s p ≡ true
unfolding digit member
digit_in s p e = eq-eqb _ _ e

digit_out : (s p : ℕ) → digit s p ≡ 0 → member s p ≡ false
unfolding digit member
digit_out s p e = ap (λ (x : ℕ). eqb x 1) e

-- the set has exactly the providers at which the test holds
pub mask_member : (f : ℕ → Bool) (n p : ℕ) → 0 < p → p ≤ n → member (mask_of f n) p ≡ f p
unfolding mask_of
mask_member f zero p h k = absurd (omega arith)
mask_member f (suc n) p h k = go (mask_member f n p h) (eqb p (suc n)) refl
  where
    top : (b : Bool) → f (suc n) ≡ b → member (mask_of f n + cond b (2 ^ suc n) 0) (suc n) ≡ b
    top true e = digit_in _ (suc n) (digit_high (mask_of f n) (suc n) (mask_lt f n))
    top false e = digit_out _ (suc n) (rw add-zero (digit_above (mask_of f n) (suc n) (mask_lt f n)))

    low : (b : Bool) → p < suc n → member (mask_of f n + cond b (2 ^ suc n) 0) p ≡ member (mask_of f n) p
    low true l = same_digit _ _ p (digit_below (mask_of f n) (suc n) p l)
    low false l = rw add-zero

    go : (p ≤ n → member (mask_of f n) p ≡ f p) → (b : Bool) → eqb p (suc n) ≡ b
        → member (mask_of f n + cond (f (suc n)) (2 ^ suc n) 0) p ≡ f p
    go ih true e = rw (eqb-true p (suc n) e) (top (f (suc n)) refl)
    go ih false e =
        let x : (p ≡ suc n → ⊥) = eqb-false p (suc n) e in
        let l : p < suc n = omega arith in
        low (f (suc n)) l ∙ ih (omega arith)

-- ---- one provider put in, or taken out

pub with_other : (s p q : ℕ) → member s p ≡ false → (q ≡ p → ⊥) → member (s + 2 ^ p) q ≡ member s q
unfolding digit
with_other s p q h ne = go (ltb q p) refl
  where
    d : (s / 2 ^ p) % 2 ≡ 0
    d = out→digit s p h

    j : ℕ
    j = q - (p + 1)

    up : p < q → (s + 2 ^ p) / 2 ^ q ≡ s / 2 ^ q
    up l =
        let e : p + (1 + (q - (p + 1))) ≡ q = omega arith in
        let a : (x : ℕ) → x / 2 ^ p / 2 / 2 ^ (q - (p + 1)) ≡ x / 2 ^ q
        = λ x. shr-shr (x / 2 ^ p) 1 (q - (p + 1)) ∙ shr-shr x p (1 + (q - (p + 1))) ∙ ap (λ (y : ℕ). x / 2 ^ y) e in
        let b : (s / 2 ^ p + 1) / 2 ≡ s / 2 ^ p / 2 = omega (arith, d) in
        sym (a (s + 2 ^ p)) ∙ ap (λ (x : ℕ). x / 2 / 2 ^ (q - (p + 1))) (add-div_right s (pow_pos p))
        ∙ ap (λ (x : ℕ). x / 2 ^ (q - (p + 1))) b ∙ a s

    go : (b : Bool) → ltb q p ≡ b → member (s + 2 ^ p) q ≡ member s q
    go true e = same_digit _ _ q (digit_below s p q (ltb-true q p e))
    go false e =
        let x : p ≤ q = ltb-false q p e in
        same_digit _ _ q (ap (λ (y : ℕ). y % 2) (up (omega (arith, ne))))

pub without_same : (s p : ℕ) → member s p ≡ true → member (s - 2 ^ p) p ≡ false
unfolding digit
without_same s p h =
    let l : 2 ^ p ≤ s = in_le s p h in
    let e : (s - 2 ^ p) + 2 ^ p ≡ s = omega arith in
    let d : (s / 2 ^ p) % 2 ≡ 1 = in→digit s p h in
    digit_out _ p (omega (arith, add-div_right (s - 2 ^ p) (pow_pos p), ap (λ (x : ℕ). x / 2 ^ p) e))

pub without_other : (s p q : ℕ) → member s p ≡ true → (q ≡ p → ⊥) → member (s - 2 ^ p) q ≡ member s q
without_other s p q h ne =
    let l : 2 ^ p ≤ s = in_le s p h in
    let e : (s - 2 ^ p) + 2 ^ p ≡ s = omega arith in
    sym (with_other (s - 2 ^ p) p q (without_same s p h) ne) ∙ ap (λ (x : ℕ). member x q) e

-- ---- two sets with the same members are one

ext_mod : (s t k : ℕ) → ((p : ℕ) → p < k → member s p ≡ member t p) → s % 2 ^ k ≡ t % 2 ^ k
ext_mod s t zero h = rw (mod-one s, mod-one t)
ext_mod s t (suc k) h =
    let a : (x : ℕ) → x % 2 ^ suc k ≡ (x / 2 ^ k % 2) * 2 ^ k + x % 2 ^ k = λ x. rw one-add at (mod-pow-add x 1 k) in
    let d : s / 2 ^ k % 2 ≡ t / 2 ^ k % 2 = sym (in_digit' s k) ∙ ap (λ (b : Bool). cond b 1 0) (h k (omega arith)) ∙ in_digit' t k in
    let i : s % 2 ^ k ≡ t % 2 ^ k = ext_mod s t k (λ p l. h p (omega arith)) in
    a s ∙ ap₂ (λ (x y : ℕ). x * 2 ^ k + y) d i ∙ sym (a t)

pub ext : (w s t : ℕ) → s < 2 ^ w → t < 2 ^ w → ((p : ℕ) → p < w → member s p ≡ member t p) → s ≡ t
ext w s t hs ht h = sym (mod-eq_of_lt hs) ∙ ext_mod s t w h ∙ mod-eq_of_lt ht

-- ---- two sets that meet

min_one : (u v : ℕ) → u < 2 → v < 2 → eqb (bit_and u v) 1 ≡ eqb u 1 && eqb v 1
min_one zero v h k = refl
min_one (suc zero) zero h k = refl
min_one (suc zero) (suc zero) h k = refl
min_one (suc zero) (suc (suc v)) h k = absurd (omega arith)
min_one (suc (suc u)) v h k = absurd (omega arith)

pub member_and : (a b p : ℕ) → member (bit_and a b) p ≡ member a p && member b p
unfolding member
member_and a b p =
    let x : ℕ = a / 2 ^ p in
    let y : ℕ = b / 2 ^ p in
    ap (λ (k : ℕ). eqb (k % 2) 1) (and_shr a b p)
    ∙ ap (λ (k : ℕ). eqb k 1) (and_mod x y 1)
    ∙ min_one (x % 2) (y % 2) (mod-lt x (lit< tt)) (mod-lt y (lit< tt))

-- nobody stands at place 0 of a set given by a test
mask_zero : (f : ℕ → Bool) (n : ℕ) → member (mask_of f n) 0 ≡ false
unfolding mask_of
mask_zero f zero = digit_out 0 0 (digit_above 0 0 (lit< tt))
mask_zero f (suc n) = go (f (suc n)) (mask_zero f n)
  where
    go : (b : Bool) → member (mask_of f n) 0 ≡ false → member (mask_of f n + cond b (2 ^ suc n) 0) 0 ≡ false
    go true ih = same_digit _ _ 0 (digit_below (mask_of f n) (suc n) 0 (omega arith)) ∙ ih
    go false ih = rw add-zero ih

-- a number without its lowest digit
even_zero : (x : ℕ) → member (x / 2 * 2) 0 ≡ false
unfolding member
even_zero x = rw (pow-zero, div-one) (ap (λ (k : ℕ). eqb k 1) (let e : x / 2 * 2 % 2 ≡ 0 = omega arith in e))

even_other : (x p : ℕ) → member (x / 2 * 2) (suc p) ≡ member x (suc p)
even_other x p =
    let a : (y : ℕ) → y / 2 / 2 ^ p ≡ y / 2 ^ suc p = λ y. shr-shr y 1 p ∙ ap (λ (k : ℕ). y / 2 ^ k) (one-add p) in
    let h : x / 2 * 2 / 2 ≡ x / 2 = omega arith in
    same_digit (x / 2 * 2) x (suc p) (eq_digit (x / 2 * 2) x (suc p) (sym (a (x / 2 * 2)) ∙ ap (λ (k : ℕ). k / 2 ^ p) h ∙ a x))

-- the meet of two sets, by their digits
pub meet_and : (a b : ℕ) → a < 2 ^ 64 → bit_and a b / 2 * 2 ≡ meet a b
unfolding meet
meet_and a b h =
    ext 64 (bit_and a b / 2 * 2) (meet a b) (let l : bit_and a b ≤ a = and_le_l a b in omega arith)
    (mask_lt (λ (p : ℕ). member a p && member b p) 63) same
  where
    same : (p : ℕ) → p < 64 → member (bit_and a b / 2 * 2) p ≡ member (mask_of (λ (q : ℕ). member a q && member b q) 63) p
    same zero l = even_zero (bit_and a b) ∙ sym (mask_zero (λ (q : ℕ). member a q && member b q) 63)
    same (suc p) l =
        even_other (bit_and a b) p ∙ member_and a b (suc p)
        ∙ sym (mask_member (λ (q : ℕ). member a q && member b q) 63 (suc p) (omega arith) (omega arith))
