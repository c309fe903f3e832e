-- What is cut from a number by widths and what is joined from fields are inverse to one another.
-- Assumes nothing.
use mathlib.Core.Path.{◌≡◌, refl, sym, ap, ◌∙◌}
use mathlib.Core.Bool.{Bool, true, false, ◌&&◌, false≢true}
use mathlib.Core.List.{List, [], ◌∷◌}
use Prim.Native.Nat.{ℕ, zero, suc, ◌+◌, ◌*◌, ◌/◌, ◌%◌, ◌^◌, ◌<◌}
use native.Mathlib.Nat.{add_assoc, add-mul, mul_assoc, zero-add, zero-mul, zero-lt-suc}
use native.Mathlib.Omega.{arith}
use borrow.Author.Tests.{ltb-true}
use lib.Dec.{ltb}
use lib.ListN.{get_or}
use lib.Arith.{digits_lt, digits_div, digits_mod}
use lib.Pow.{pow_pos, pow-add, mod-pow-add}
use Rattle.octets.specs.Fields.{cut, fit, join, total}

pub and_l : (a b : Bool) → a && b ≡ true → a ≡ true
and_l true b e = refl
and_l false b e = e

pub and_r : (a b : Bool) → a && b ≡ true → b ≡ true
and_r true b e = e
and_r false b e = absurd (false≢true e)

pub join_lt : (ws fs : List ℕ) → fit ws fs ≡ true → join ws fs < 2 ^ total ws
join_lt [] fs e = zero-lt-suc 0
join_lt (w ∷ ws) [] e = pow_pos (w + total ws)
join_lt (w ∷ ws) (f ∷ fs) e =
    rw pow-add (digits_lt (ltb-true f (2 ^ w) (and_l (ltb f (2 ^ w)) (fit ws fs) e)) (join_lt ws fs (and_r (ltb f (2 ^ w)) (fit ws fs) e)))

-- READ, THEN WRITE
pub join-cut : (ws : List ℕ) (n : ℕ) → join ws (cut ws n) ≡ n % 2 ^ total ws
join-cut [] n = omega arith
join-cut (w ∷ ws) n = ap (λ (k : ℕ). n / 2 ^ total ws % 2 ^ w * 2 ^ total ws + k) (join-cut ws n) ∙ sym (mod-pow-add n w (total ws))

-- WRITE, THEN READ, with anything above
cut_join_above : (ws fs : List ℕ) → fit ws fs ≡ true → (a : ℕ) → cut ws (a * 2 ^ total ws + join ws fs) ≡ fs
cut_join_above [] [] e a = refl
cut_join_above [] (f ∷ fs) e a = absurd (false≢true e)
cut_join_above (w ∷ ws) [] e a = absurd (false≢true e)
cut_join_above (w ∷ ws) (f ∷ fs) e a =
    let s : ℕ = 2 ^ total ws in
    let j : ℕ = join ws fs in
    let lo : j < s = join_lt ws fs (and_r (ltb f (2 ^ w)) (fit ws fs) e) in
    let hi : f < 2 ^ w = ltb-true f (2 ^ w) (and_l (ltb f (2 ^ w)) (fit ws fs) e) in
    let shape : a * 2 ^ (w + total ws) + (f * s + j) ≡ (a * 2 ^ w + f) * s + j =
    sym (add_assoc (a * 2 ^ (w + total ws)) (f * s) j)
    ∙ ap (λ (k : ℕ). a * k + f * s + j) (pow-add 2 w (total ws))
    ∙ ap (λ (k : ℕ). k + f * s + j) (sym (mul_assoc a (2 ^ w) s))
    ∙ ap (λ (k : ℕ). k + j) (sym (add-mul (a * 2 ^ w) f s)) in
    ap (λ (n : ℕ). n / s % 2 ^ w ∷ cut ws n) shape
    ∙ ap (λ (k : ℕ). k % 2 ^ w ∷ cut ws ((a * 2 ^ w + f) * s + j)) (digits_div (a * 2 ^ w + f) lo)
    ∙ ap (λ (k : ℕ). k ∷ cut ws ((a * 2 ^ w + f) * s + j)) (digits_mod a hi)
    ∙ ap (λ (l : List ℕ). f ∷ l) (cut_join_above ws fs (and_r (ltb f (2 ^ w)) (fit ws fs) e) (a * 2 ^ w + f))

pub cut-join : (ws fs : List ℕ) → fit ws fs ≡ true → cut ws (join ws fs) ≡ fs
cut-join ws fs e = ap (cut ws) (sym (ap (λ (k : ℕ). k + join ws fs) (zero-mul (2 ^ total ws)) ∙ zero-add (join ws fs)))
    ∙ cut_join_above ws fs e 0

pub fit_at : (ws fs : List ℕ) → fit ws fs ≡ true → (i : ℕ) → get_or fs i 0 < 2 ^ get_or ws i 0
fit_at [] [] e i = zero-lt-suc 0
fit_at [] (f ∷ fs) e i = absurd (false≢true e)
fit_at (w ∷ ws) [] e i = absurd (false≢true e)
fit_at (w ∷ ws) (f ∷ fs) e zero = ltb-true f (2 ^ w) (and_l (ltb f (2 ^ w)) (fit ws fs) e)
fit_at (w ∷ ws) (f ∷ fs) e (suc i) = fit_at ws fs (and_r (ltb f (2 ^ w)) (fit ws fs) e) i
