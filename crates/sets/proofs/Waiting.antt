-- The retries of 63 systems as three times 21 digits, and the loop over the digits of one word. Assumes nothing.
use mathlib.Core.Path.{◌≡◌, refl, sym, ap, ap₂, ◌∙◌}
use mathlib.Core.Bool.{Bool, true, false, not, ◌&&◌, ◌||◌, and_assoc, and-true}
use Prim.Native.Nat.{ℕ, zero, suc, ◌+◌, ◌-◌, ◌*◌, ◌/◌, ◌%◌, ◌^◌, ◌≤◌, ◌<◌}
use native.Mathlib.Nat.{pow-suc, div-one, div-div-eq-div-mul, mod-lt}
use native.Mathlib.Omega.{arith}
use borrow.Author.Tests.{le-leb, lt-leb, eq-eqb, ne_eqb}
use lib.Arith.{mod-mul}
use lib.Dec.{eqb, lit<}
use lib.Pow.{pow-add}
use Rattle.systems.specs.Set.{member}
use Rattle.model.specs.declared.Retries.{Retries}
use Rattle.model.specs.declared.Broadcast.{Broadcast}
use Rattle.model.specs.Basics.{every}
use Rattle.model.specs.Retries.{octal, used}
use Rattle.model.specs.Sound.{retries_fit}
use Rattle.sets.specs.Digits.{digits_wait}
use Rattle.sets.proofs.Everys.{waits}

-- ---- the loop

-- from w and s on, some digits are left, and they decide
pub record Left (word set w s : ℕ) : Type 0 where
  pub digits : ℕ
  pub fits : w < 8 ^ digits
  pub same : digits_wait digits w s ≡ digits_wait 21 word set

pub left_start : (word set : ℕ) → word < 9223372036854775808 → Left word set word set
left_start word set h = record { digits = 21; fits = h; same = refl }

none_left : (n s : ℕ) → digits_wait n 0 s ≡ true
unfolding digits_wait
none_left zero s = refl
none_left (suc n) s = go (eqb (s % 2) 0) (none_left n (s / 2))
  where
    go : (b : Bool) → digits_wait n 0 (s / 2) ≡ true → (not (b && false) && digits_wait n 0 (s / 2)) ≡ true
    go true e = e
    go false e = e

module _ (word set w s : ℕ) (l : Left word set w s) where
  pub left_end : w ≡ 0 → true ≡ digits_wait 21 word set
  left_end z = sym (none_left l.digits s) ∙ ap (λ (x : ℕ). digits_wait l.digits x s) (sym z) ∙ l.same

-- the test at the lowest digit
abbrev stray : ℕ → ℕ → Bool
stray w s = eqb (s % 2) 0 && not (eqb (w % 8) 0)

stray_next : (word set w s n : ℕ) → w < 8 ^ n → digits_wait n w s ≡ digits_wait 21 word set → (w ≡ 0 → ⊥) → stray w s ≡ false
    → Left word set (w / 8) (s / 2)
unfolding digits_wait
stray_next word set w s zero f q nz t = absurd (nz (omega arith))
stray_next word set w s (suc n) f q nz t =
    let g : w < 8 ^ n * 8 = rw pow-suc at f in
    record { digits = n; fits = omega arith; same = sym (ap (λ (b : Bool). not b && digits_wait n (w / 8) (s / 2)) t) ∙ q }

stray_found : (word set w s n : ℕ) → w < 8 ^ n → digits_wait n w s ≡ digits_wait 21 word set → (w ≡ 0 → ⊥) → stray w s ≡ true
    → false ≡ digits_wait 21 word set
unfolding digits_wait
stray_found word set w s zero f q nz t = absurd (nz (omega arith))
stray_found word set w s (suc n) f q nz t = sym (ap (λ (b : Bool). not b && digits_wait n (w / 8) (s / 2)) t) ∙ q

module _ (word set w s : ℕ) (l : Left word set w s) (nz : w ≡ 0 → ⊥) where
  pub left_next : stray w s ≡ false → Left word set (w / 8) (s / 2)
  left_next t = stray_next word set w s l.digits l.fits l.same nz t

  pub left_stray : stray w s ≡ true → false ≡ digits_wait 21 word set
  left_stray t = stray_found word set w s l.digits l.fits l.same nz t

-- the test as the code has it: no branch on either part
product_stray : (y x : ℕ) → x < 2 → (y * (1 - x) ≡ 0 → ⊥) → (eqb x 0 && not (eqb y 0)) ≡ true
product_stray y zero h n = ap not (ne_eqb y 0 (λ e. n (omega arith)))
product_stray y (suc zero) h n = absurd (n (omega arith))
product_stray y (suc (suc x)) h n = absurd (omega arith)

product_none : (y x : ℕ) → x < 2 → y * (1 - x) ≡ 0 → (eqb x 0 && not (eqb y 0)) ≡ false
product_none y zero h e =
    let z : y ≡ 0 = omega arith in
    ap not (eq-eqb y 0 z)
product_none y (suc zero) h e = refl
product_none y (suc (suc x)) h e = absurd (omega arith)

pub product_fits : (y x : ℕ) → y < 8 → y * (1 - x) < 18446744073709551616
product_fits y zero h = omega arith
product_fits y (suc x) h =
    let z : 1 - suc x ≡ 0 = omega arith in
    rw z (omega arith)

pub stray_product : (w s : ℕ) → (w % 8 * (1 - s % 2) ≡ 0 → ⊥) → stray w s ≡ true
stray_product w s n = product_stray (w % 8) (s % 2) (mod-lt s (lit< tt)) n

pub no_stray_product : (w s : ℕ) → w % 8 * (1 - s % 2) ≡ 0 → stray w s ≡ false
no_stray_product w s e = product_none (w % 8) (s % 2) (mod-lt s (lit< tt)) e

-- ---- three words

-- f holds of n numbers from p on
unfoldable run : (ℕ → Bool) → ℕ → ℕ → Bool
run f zero p = true
run f (suc n) p = f p && run f n (suc p)

none_first : (f : ℕ → Bool) (b : Bool) → (every f 0 && b) ≡ b
unfolding every
none_first f b = refl

every_run : (f : ℕ → Bool) (n b : ℕ) → every f (n + b) ≡ (every f b && run f n (suc b))
unfolding every run
every_run f zero b =
    let e : 0 + b ≡ b = omega arith in
    ap (every f) e ∙ sym (and-true (every f b))
every_run f (suc n) b =
    let e : suc n + b ≡ n + suc b = omega arith in
    ap (every f) e ∙ every_run f n (suc b) ∙ and_assoc (every f b) (f (suc b)) (run f n (suc (suc b)))

run_same : (f g : ℕ → Bool) (n p : ℕ) → ((k : ℕ) → p ≤ k → k < n + p → f k ≡ g k) → run f n p ≡ run g n p
unfolding run
run_same f g zero p h = refl
run_same f g (suc n) p h =
    ap₂ (λ (x y : Bool). x && y) (h p (omega arith) (omega arith)) (run_same f g n (suc p) (λ k l m. h k (omega arith) (omega arith)))

eights : (n : ℕ) → 0 < 8 ^ n
eights zero = lit< tt
eights (suc n) = omega (arith, eights n, pow-suc 8 n)

-- what stands above the lowest n digits does not matter
low_digits : (n w s : ℕ) → digits_wait n (w % 8 ^ n) s ≡ digits_wait n w s
unfolding digits_wait
low_digits zero w s = refl
low_digits (suc n) w s =
    let m : w % 8 ^ suc n ≡ w / 8 % 8 ^ n * 8 + w % 8 = ap (λ (k : ℕ). w % k) (pow-suc 8 n) ∙ mod-mul w (eights n) (lit< tt) in
    let low : w % 8 ^ suc n % 8 ≡ w % 8 = omega arith in
    let high : w % 8 ^ suc n / 8 ≡ w / 8 % 8 ^ n = omega arith in
    ap₂ (λ (x y : ℕ). not (eqb (s % 2) 0 && not (eqb x 0)) && digits_wait n y (s / 2)) low high
    ∙ ap (λ (t : Bool). not (eqb (s % 2) 0 && not (eqb (w % 8) 0)) && t) (low_digits n (w / 8) (s / 2))

-- a digit of a word whose lowest is system b's
abbrev digit_fits : ℕ → ℕ → ℕ → ℕ → Bool
digit_fits w s b p = member s p || eqb (octal (p - b) w) 0

not_stray : (x : ℕ) (b : Bool) → x < 2 → not (eqb x 0 && not b) ≡ (eqb x 1 || b)
not_stray zero true h = refl
not_stray zero false h = refl
not_stray (suc zero) b h = refl
not_stray (suc (suc x)) b h = absurd (omega arith)

here : (x y w s b q : ℕ) → x ≡ w / 2 ^ (3 * q) → y ≡ s / 2 ^ (b + q) → not (eqb (y % 2) 0 && not (eqb (x % 8) 0)) ≡ digit_fits w s b (b + q)
unfolding octal member
here x y w s b q e f =
    let k : q ≡ b + q - b = omega arith in
    not_stray (y % 2) (eqb (x % 8) 0) (mod-lt y (lit< tt))
    ∙ ap₂ (λ (i j : ℕ). eqb (i % 2) 1 || eqb (j % 8) 0) f (e ∙ ap (λ (i : ℕ). w / 2 ^ (3 * i)) k)

digits_run : (n q b w s x y : ℕ) → x ≡ w / 2 ^ (3 * q) → y ≡ s / 2 ^ (b + q) → digits_wait n x y ≡ run (digit_fits w s b) n (b + q)
unfolding digits_wait run
digits_run zero q b w s x y e f = refl
digits_run (suc n) q b w s x y e f =
    let k : b + suc q ≡ suc (b + q) = omega arith in
    let t : 3 * suc q ≡ 3 * q + 3 = omega arith in
    let e' : x / 8 ≡ w / 2 ^ (3 * suc q) = ap (λ (i : ℕ). i / 8) e ∙ div-div-eq-div-mul w (2 ^ (3 * q)) 8
    ∙ ap (λ (i : ℕ). w / i) (sym (ap (λ (i : ℕ). 2 ^ i) t ∙ pow-add 2 (3 * q) 3)) in
    let f' : y / 2 ≡ s / 2 ^ (b + suc q) = ap (λ (i : ℕ). i / 2) f ∙ div-div-eq-div-mul s (2 ^ (b + q)) 2
    ∙ ap (λ (i : ℕ). s / i) (sym (ap (λ (i : ℕ). 2 ^ i) k ∙ pow-suc 2 (b + q))) in
    ap₂ (λ (i j : Bool). i && j) (here x y w s b q e f) (digits_run n (suc q) b w s (x / 8) (y / 2) e' f' ∙ ap (run (digit_fits w s b) n) k)

used_low : (r : Retries) (p : ℕ) → p ≤ 21 → used r p ≡ octal (p - 1) r.low
unfolding used
used_low r p h = rw (le-leb p 21 h)

used_mid : (r : Retries) (p : ℕ) → 21 < p → p ≤ 42 → used r p ≡ octal (p - 22) r.mid
unfolding used
used_mid r p l h = rw (lt-leb p 21 l, le-leb p 42 h)

used_high : (r : Retries) (p : ℕ) → 42 < p → used r p ≡ octal (p - 43) r.high
unfolding used
used_high r p l =
    let k : 21 < p = omega arith in
    rw (lt-leb p 21 k, lt-leb p 42 l)

-- the systems of one word, from b on
word_waits : (c : Broadcast) (n b w set : ℕ) → set ≡ c.waiting / 2 ^ b
    → ((p : ℕ) → b ≤ p → p < n + b → used c.retries p ≡ octal (p - b) w)
    → run (waits c) n b ≡ digits_wait n (w % 8 ^ n) set
word_waits c n b w set e h =
    let z : b + 0 ≡ b = omega arith in
    run_same (waits c) (digit_fits w c.waiting b) n b (λ p l m. ap (λ (u : ℕ). member c.waiting p || eqb u 0) (h p l m))
    ∙ ap (run (digit_fits w c.waiting b) n) (sym z)
    ∙ sym (digits_run n 0 b w c.waiting w set (sym (div-one w)) (e ∙ ap (λ (i : ℕ). c.waiting / 2 ^ i) (sym z)))
    ∙ sym (low_digits n w set)

-- the retries fit where each word's digits do
pub three-words : (c : Broadcast)
    → retries_fit c
    ≡ (digits_wait 21 (c.retries.low % 9223372036854775808) (c.waiting / 2) && digits_wait 21 (c.retries.mid % 9223372036854775808)
    (c.waiting / 4194304) && digits_wait 21 (c.retries.high % 9223372036854775808) (c.waiting / 8796093022208))
unfolding retries_fit
three-words c =
    every_run (waits c) 21 42 ∙ ap₂ (λ (x y : Bool). x && y)
    (every_run (waits c) 21 21 ∙ ap₂ (λ (x y : Bool). x && y)
    (every_run (waits c) 21 0 ∙ none_first (waits c) (run (waits c) 21 1) ∙ word_waits c 21 1 c.retries.low (c.waiting / 2) refl
    (λ p l m. used_low c.retries p (omega arith)))
    (word_waits c 21 22 c.retries.mid (c.waiting / 4194304) refl (λ p l m. used_mid c.retries p (omega arith) (omega arith))))
    (word_waits c 21 43 c.retries.high (c.waiting / 8796093022208) refl (λ p l m. used_high c.retries p (omega arith)))
