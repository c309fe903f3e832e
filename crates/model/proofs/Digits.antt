-- Digits of a number to a base: a digit does not see what is added to, or taken from, another digit, as long as that one neither overflows
-- nor falls below 0. With that, the retries of one system do not see those of another.
-- Assumes nothing.
use mathlib.Core.Path.{◌≡◌, refl, sym, ap, ap₂, ◌∙◌, subst}
use Prim.Native.Nat.{ℕ, zero, suc, ◌+◌, ◌-◌, ◌*◌, ◌/◌, ◌%◌, ◌^◌, ◌≤◌, ◌<◌}
use mathlib.Core.Bool.{Bool, true, false, cond}
use lib.Dec.{leb, ltb, lit<}
use lib.ListN.{get_or}
use mathlib.Core.List.{List, [], ◌∷◌}
use lib.Arith.{digits_div, digits_mod, digits_lt}
use native.Mathlib.Nat.{pow-zero, pow-suc, pow-succ', mul-one, mul-suc, mul_left_comm, div-one, div-div-eq-div-mul, div-add-mod'}
use native.Mathlib.Nat.{div-mul-le_self, mod-le, mod-lt, le_trans, mul-le-mul_right, add-mul-div_left, add-mul-mod_self_left}
use native.Mathlib.Nat.{sub-add_cancel, zero-div, add-mul, add-zero, zero-mul, div-lt_iff_lt-mul}
use native.Mathlib.Omega.{arith}
use lib.Pow.{pow_pos, pow-add}
use borrow.Author.Tests.{leb-true, leb-false, ltb-true, lt-ltb}
use Rattle.model.specs.Basics.{none, with}
use Rattle.model.specs.Sound.{retries_in_range}
use Rattle.model.proofs.Lists.{conj_at, conj_all}
use Rattle.model.specs.Retries.{octal, with_octal, used, with_used, no_retries}
use Rattle.model.specs.declared.Retries.{Retries}

-- the digit at p
unfoldable pub digit : ℕ → ℕ → ℕ → ℕ
digit b p x = x / b ^ p % b

module _ (b : ℕ) where
  digit_zero : (x : ℕ) → digit b 0 x ≡ x % b
  unfolding digit
  digit_zero x = rw (pow-zero, div-one)

  digit_suc : (p x : ℕ) → digit b (suc p) x ≡ digit b p (x / b)
  unfolding digit
  digit_suc p x = rw (pow-succ', div-div-eq-div-mul)

  pub digit_le : (p x : ℕ) → digit b p x * b ^ p ≤ x
  unfolding digit
  digit_le p x = le_trans (mul-le-mul_right (b ^ p) (mod-le (x / b ^ p) b)) (div-mul-le_self x (b ^ p))

  shift : (k p : ℕ) → k * b ^ suc p ≡ b * (k * b ^ p)
  shift k p = rw (pow-succ', mul_left_comm)

  module _ (pos : 0 < b) where
    pub digit_add : (p q k x : ℕ) → (p ≡ q → ⊥) → digit b p x + k < b → digit b q (x + k * b ^ p) ≡ digit b q x
    digit_add zero zero k x n h = absurd (n refl)
    digit_add zero (suc q) k x n h =
        let g : x % b + k < b = rw digit_zero at h in
        rw (digit_suc, digit_suc, pow-zero, mul-one)
        (ap (digit b q) (ap (λ (y : ℕ). y / b) (omega (arith, div-add-mod' x b)) ∙ digits_div (x / b) g))
    digit_add (suc p) zero k x n h = rw (digit_zero, digit_zero, shift) (add-mul-mod_self_left x b (k * b ^ p))
    digit_add (suc p) (suc q) k x n h =
        rw (digit_suc, digit_suc, shift, add-mul-div_left x (k * b ^ p) pos)
        (digit_add p q k (x / b) (λ e. n (ap suc e)) (rw digit_suc at h))

    fits : (p k x : ℕ) → k ≤ digit b p x → k * b ^ p ≤ x
    fits p k x h = le_trans (mul-le-mul_right (b ^ p) h) (digit_le p x)

    pub digit_sub : (p q k x : ℕ) → (p ≡ q → ⊥) → k ≤ digit b p x → digit b q (x - k * b ^ p) ≡ digit b q x
    digit_sub zero zero k x n h = absurd (n refl)
    digit_sub zero (suc q) k x n h =
        let g : k ≤ x % b = rw digit_zero at h in
        rw (digit_suc, digit_suc, pow-zero, mul-one)
        (ap (digit b q) (ap (λ (y : ℕ). y / b) (omega (arith, div-add-mod' x b))
        ∙ digits_div (x / b) {r = x % b - k} (omega (arith, mod-lt x pos))))
    digit_sub (suc p) zero k x n h =
        let z : ℕ = k * b ^ p in
        let g : b * z ≤ x = rw shift at (fits (suc p) k x h) in
        rw (digit_zero, digit_zero, shift) (sym (add-mul-mod_self_left (x - b * z) b z) ∙ ap (λ (y : ℕ). y % b) (sub-add_cancel g))
    digit_sub (suc p) (suc q) k x n h =
        let z : ℕ = k * b ^ p in
        let g : b * z ≤ x = rw shift at (fits (suc p) k x h) in
        let e : x / b ≡ (x - b * z) / b + z = ap (λ (y : ℕ). y / b) (sym (sub-add_cancel g)) ∙ add-mul-div_left (x - b * z) z pos in
        let c : (x - b * z) / b ≡ x / b - z = omega arith in
        rw (digit_suc, digit_suc, shift, c) (digit_sub p q k (x / b) (λ e. n (ap suc e)) (rw digit_suc at h))

-- ---- base 8

pub eight : (q : ℕ) → 2 ^ (3 * q) ≡ 8 ^ q
eight zero = refl
eight (suc q) = ap (λ (k : ℕ). 2 ^ k) (mul-suc 3 q) ∙ pow-add 2 (3 * q) 3 ∙ ap (λ (k : ℕ). k * 8) (eight q) ∙ sym (pow-suc 8 q)

octal_digit : (q w : ℕ) → octal q w ≡ digit 8 q w
unfolding octal digit
octal_digit q w = ap (λ (k : ℕ). w / k % 8) (eight q)

eight_pos : (q : ℕ) → 0 < 8 ^ q
eight_pos q = rw eight at (pow_pos (3 * q))

-- a number with another digit at q
octal_shape : (q d w : ℕ) → with_octal q d w ≡ (w / 8 ^ q / 8 * 8 + d) * 8 ^ q + w % 8 ^ q
unfolding with_octal octal
octal_shape q d w =
    rw eight
    (omega (
      arith,
      div-add-mod' w (8 ^ q),
      ap (λ (n : ℕ). n * 8 ^ q) (div-add-mod' (w / 8 ^ q) 8),
      add-mul (w / 8 ^ q / 8 * 8) (w / 8 ^ q % 8) (8 ^ q),
      add-mul (w / 8 ^ q / 8 * 8) d (8 ^ q),
    ))

taken : (q d w : ℕ) → with_octal q d w ≡ w - octal q w * 8 ^ q + d * 8 ^ q
unfolding with_octal
taken q d w = rw eight

octal-le : (q w : ℕ) → octal q w * 8 ^ q ≤ w
octal-le q w = rw octal_digit (digit_le 8 q w)

-- a digit is part of its number
pub octal_part : (q w : ℕ) → octal q w * 2 ^ (3 * q) ≤ w
octal_part q w = rw eight (octal-le q w)

-- the digit that was put is there
pub octal-same : (q d w : ℕ) → d < 8 → octal q (with_octal q d w) ≡ d
unfolding octal
octal-same q d w h =
    rw (octal_shape q d w, eight)
    (ap (λ (n : ℕ). n % 8) (digits_div (w / 8 ^ q / 8 * 8 + d) (mod-lt w (eight_pos q))) ∙ digits_mod (w / 8 ^ q / 8) h)

-- the other digits stay
pub octal_other : (q j d w : ℕ) → (q ≡ j → ⊥) → d < 8 → octal j (with_octal q d w) ≡ octal j w
octal_other q j d w n h =
    let x : ℕ = octal q w in
    let v : ℕ = w - x * 8 ^ q in
    let e : with_octal q d w ≡ v + d * 8 ^ q = taken q d w in
    let z : digit 8 q v ≡ 0 = sym (octal_digit q v)
    ∙ ap (octal q) (sym (add-zero v) ∙ ap (λ (k : ℕ). v + k) (sym (zero-mul (8 ^ q))) ∙ sym (taken q 0 w))
    ∙ octal-same q 0 w (lit< tt) in
    octal_digit j (with_octal q d w)
    ∙ ap (digit 8 j) e
    ∙ digit_add 8 (lit< tt) q j d v n (omega arith)
    ∙ digit_sub 8 (lit< tt) q j x w n (omega (arith, octal_digit q w))
    ∙ sym (octal_digit j w)

-- two digits are put in either order
pub octal_comm : (q j a b w : ℕ) → (q ≡ j → ⊥) → a < 8 → b < 8 → with_octal j b (with_octal q a w) ≡ with_octal q a (with_octal j b w)
octal_comm q j a b w n ha hb =
    let x : ℕ = octal q w in
    let y : ℕ = octal j w in
    let n' : j ≡ q → ⊥ = λ e. n (sym e) in
    let ex : octal q (with_octal j b w) ≡ x = octal_other j q b w n' hb in
    let ey : octal j (with_octal q a w) ≡ y = octal_other q j a w n ha in
    let ez : octal j (with_octal q 0 w) ≡ y = octal_other q j 0 w n (lit< tt) in
    let lx : x * 8 ^ q ≤ w = octal-le q w in
    let ly : y * 8 ^ j ≤ w = octal-le j w in
    let lz : y * 8 ^ j ≤ w - x * 8 ^ q =
    subst (λ (k : ℕ). y * 8 ^ j ≤ k) (taken q 0 w ∙ ap (λ (k : ℕ). w - x * 8 ^ q + k) (zero-mul (8 ^ q)) ∙ add-zero (w - x * 8 ^ q))
    (subst (λ (k : ℕ). k * 8 ^ j ≤ with_octal q 0 w) ez (octal-le j (with_octal q 0 w))) in
    taken j b (with_octal q a w)
    ∙ ap₂ (λ (k m : ℕ). k - m * 8 ^ j + b * 8 ^ j) (taken q a w) ey
    ∙ omega arith
    ∙ sym (ap₂ (λ (k m : ℕ). k - m * 8 ^ q + a * 8 ^ q) (taken j b w) ex)
    ∙ sym (taken q a (with_octal j b w))

-- a number of 21 digits stays one
pub octal-fits : (q d w : ℕ) → q < 21 → d < 8 → w < 2 ^ 63 → with_octal q d w < 2 ^ 63
octal-fits q d w l h k =
    let j : ℕ = 20 - q in
    let e : suc j + q ≡ 21 = omega arith in
    let p : 8 ^ j * 8 * 8 ^ q ≡ 2 ^ 63 =
    ap (λ (n : ℕ). n * 8 ^ q) (sym (pow-suc 8 j)) ∙ sym (pow-add 8 (suc j) q) ∙ ap (λ (n : ℕ). 8 ^ n) e in
    let hi : w / 8 ^ q / 8 < 8 ^ j =
    (div-lt_iff_lt-mul (lit< tt)).1 ((div-lt_iff_lt-mul (eight_pos q)).1 (subst (λ (n : ℕ). w < n) (sym p) k)) in
    subst (λ (n : ℕ). with_octal q d w < n) p
    (rw octal_shape (digits_lt (digits_lt hi h) (mod-lt w (eight_pos q))))

-- ---- the retries of the systems

module _ (r : Retries) (p d : ℕ) (h : d < 8) where
  pub used-same : used (with_used r p d) p ≡ d
  unfolding used with_used
  used-same = go (leb p 21) refl (leb p 42) refl
    where
      go : (a : Bool) → leb p 21 ≡ a → (b : Bool) → leb p 42 ≡ b → used (with_used r p d) p ≡ d
      go true e b f = rw e (octal-same (p - 1) d r.low h)
      go false e true f = rw (e, f) (octal-same (p - 22) d r.mid h)
      go false e false f = rw (e, f) (octal-same (p - 43) d r.high h)

  pub used_other : (q : ℕ) → 1 ≤ p → 1 ≤ q → (p ≡ q → ⊥) → used (with_used r p d) q ≡ used r q
  unfolding used with_used
  used_other q lp lq n = go (leb p 21) refl (leb p 42) refl (leb q 21) refl (leb q 42) refl
    where
      go : (a : Bool) → leb p 21 ≡ a → (b : Bool) → leb p 42 ≡ b → (x : Bool) → leb q 21 ≡ x → (y : Bool) → leb q 42 ≡ y
          → used (with_used r p d) q ≡ used r q
      go true e b f true i y j = rw (e, i) (octal_other (p - 1) (q - 1) d r.low (λ z. n (omega arith)) h)
      go true e b f false i true j = rw (e, i, j)
      go true e b f false i false j = rw (e, i, j)
      go false e true f true i y j = rw (e, f, i)
      go false e true f false i true j =
          rw (e, f, i, j) (octal_other (p - 22) (q - 22) d r.mid (λ z. n (omega (arith, leb-false p 21 e, leb-false q 21 i))) h)
      go false e true f false i false j = rw (e, f, i, j)
      go false e false f true i y j = rw (e, f, i)
      go false e false f false i true j = rw (e, f, i, j)
      go false e false f false i false j =
          rw (e, f, i, j) (octal_other (p - 43) (q - 43) d r.high (λ z. n (omega (arith, leb-false p 42 f, leb-false q 42 j))) h)

  pub used_comm : (q c : ℕ) → c < 8 → 1 ≤ p → 1 ≤ q → (p ≡ q → ⊥) → with_used (with_used r p d) q c ≡ with_used (with_used r q c) p d
  unfolding with_used
  used_comm q c k lp lq n = go (leb p 21) refl (leb p 42) refl (leb q 21) refl (leb q 42) refl
    where
      go : (a : Bool) → leb p 21 ≡ a → (b : Bool) → leb p 42 ≡ b → (x : Bool) → leb q 21 ≡ x → (y : Bool) → leb q 42 ≡ y
          → with_used (with_used r p d) q c ≡ with_used (with_used r q c) p d
      go true e b f true i y j =
          rw (e, i) (λ m. record {
            low = octal_comm (p - 1) (q - 1) d c r.low (λ z. n (omega arith))
                h k m;
            mid = r.mid;
            high = r.high;
          })
      go true e b f false i true j = rw (e, i, j)
      go true e b f false i false j = rw (e, i, j)
      go false e true f true i y j = rw (e, f, i)
      go false e true f false i true j =
          rw (e, f, i, j)
          (λ m. record {
            low = r.low;
            mid = octal_comm (p - 22) (q - 22) d c r.mid (λ z. n (omega (arith, leb-false p 21 e, leb-false q 21 i))) h k m;
            high = r.high;
          })
      go false e true f false i false j = rw (e, f, i, j)
      go false e false f true i y j = rw (e, f, i)
      go false e false f false i true j = rw (e, f, i, j)
      go false e false f false i false j =
          rw (e, f, i, j)
          (λ m. record {
            low = r.low;
            mid = r.mid;
            high = octal_comm (p - 43) (q - 43) d c r.high (λ z. n (omega (arith, leb-false p 42 f, leb-false q 42 j))) h k m;
          })

  -- the numbers that hold the retries stay in range
  pub used-fits : 1 ≤ p → p ≤ 63 → retries_in_range r ≡ true → retries_in_range (with_used r p d) ≡ true
  unfolding retries_in_range with_used
  used-fits l m k = go (leb p 21) refl (leb p 42) refl
    where
      words : List Bool
      words = ltb r.low (2 ^ 63) ∷ ltb r.mid (2 ^ 63) ∷ ltb r.high (2 ^ 63) ∷ []

      of : (i : ℕ) → get_or words i true ≡ true
      of = conj_at words k

      fits : (q w : ℕ) → q < 21 → ltb w (2 ^ 63) ≡ true → ltb (with_octal q d w) (2 ^ 63) ≡ true
      fits q w t u = lt-ltb (with_octal q d w) (2 ^ 63) (octal-fits q d w t h (ltb-true w (2 ^ 63) u))

      go : (a : Bool) → leb p 21 ≡ a → (b : Bool) → leb p 42 ≡ b → retries_in_range (with_used r p d) ≡ true
      go true e b f =
          rw e
          (conj_all (ltb (with_octal (p - 1) d r.low) (2 ^ 63) ∷ ltb r.mid (2 ^ 63) ∷ ltb r.high (2 ^ 63) ∷ [])
          (with (fits (p - 1) r.low (omega (arith, leb-true p 21 e)) (of 0)) (with (of 1) (with (of 2) none))))
      go false e true f =
          rw (e, f)
          (conj_all (ltb r.low (2 ^ 63) ∷ ltb (with_octal (p - 22) d r.mid) (2 ^ 63) ∷ ltb r.high (2 ^ 63) ∷ [])
          (with (of 0) (with (fits (p - 22) r.mid (omega (arith, leb-true p 42 f, leb-false p 21 e)) (of 1)) (with (of 2) none))))
      go false e false f =
          rw (e, f)
          (conj_all (ltb r.low (2 ^ 63) ∷ ltb r.mid (2 ^ 63) ∷ ltb (with_octal (p - 43) d r.high) (2 ^ 63) ∷ [])
          (with (of 0) (with (of 1) (with (fits (p - 43) r.high (omega (arith, leb-false p 42 f)) (of 2)) none))))

pub used_none : (p : ℕ) → used no_retries p ≡ 0
unfolding used octal
used_none p = go (leb p 21) (leb p 42)
  where
    zeros : (q : ℕ) → 0 / 2 ^ (3 * q) % 8 ≡ 0
    zeros q = ap (λ (x : ℕ). x % 8) (zero-div (2 ^ (3 * q)))

    go : (a b : Bool) → octal (cond a (p - 1) (cond b (p - 22) (p - 43))) (cond a 0 (cond b 0 0)) ≡ 0
    go true b = zeros (p - 1)
    go false true = zeros (p - 22)
    go false false = zeros (p - 43)
