-- One test for a side that has created and for one that has not. Assumes nothing.
use mathlib.Core.Path.{◌≡◌, refl}
use mathlib.Core.Bool.{Bool, true, false, cond, not, ◌&&◌, beq}
use mathlib.Core.List.{[], ◌∷◌}
use Prim.Native.Nat.{ℕ, zero, suc, ◌^◌, ◌<◌}
use native.Mathlib.Omega.{arith}
use borrow.Author.Tests.{le-leb, lt-leb, lt-ltb, ne_eqb}
use lib.Dec.{eqb, leb}
use Rattle.model.specs.Basics.{among}
use Rattle.model.specs.Numbers.{ten_digits, is_time}

beq_true : (b : Bool) → beq true b ≡ b
beq_true true = refl
beq_true false = refl

pub new_created : (b : Bool) (d l : ℕ) → d < 2 ^ 32
    → (beq b (not (eqb d 0)) && beq b (not (eqb l 0)) && beq b (ten_digits l))
    ≡ cond b (is_time d && ten_digits l) (eqb d 0 && eqb l 0)
new_created true zero l h = refl
new_created true (suc d) zero h = rw (ne_eqb (suc d) 0 (λ e. omega arith), le-leb 1 (suc d) (omega arith), lt-ltb (suc d) (2 ^ 32) h)
new_created true (suc d) (suc l) h =
    rw (ne_eqb (suc d) 0 (λ e. omega arith), le-leb 1 (suc d) (omega arith), lt-ltb (suc d) (2 ^ 32) h, ne_eqb (suc l) 0 (λ e. omega arith))
    (beq_true (ten_digits (suc l)))
new_created false zero zero h = refl
new_created false zero (suc l) h = rw (ne_eqb (suc l) 0 (λ e. omega arith))
new_created false (suc d) l h = rw (ne_eqb (suc d) 0 (λ e. omega arith))

pub old_created : (b : Bool) (d a : ℕ) → d < 2 ^ 32
    → (beq b (not (eqb d 0)) && beq b (not (eqb a 0)) && leb a 2) ≡ cond b (is_time d && among a (1 ∷ 2 ∷ [])) (eqb d 0 && eqb a 0)
old_created true zero a h = refl
old_created true (suc d) zero h = rw (ne_eqb (suc d) 0 (λ e. omega arith), le-leb 1 (suc d) (omega arith), lt-ltb (suc d) (2 ^ 32) h)
old_created true (suc d) (suc zero) h = rw (ne_eqb (suc d) 0 (λ e. omega arith), le-leb 1 (suc d) (omega arith), lt-ltb (suc d) (2 ^ 32) h)
old_created true (suc d) (suc (suc zero)) h =
    rw (ne_eqb (suc d) 0 (λ e. omega arith), le-leb 1 (suc d) (omega arith), lt-ltb (suc d) (2 ^ 32) h)
old_created true (suc d) (suc (suc (suc a))) h =
    rw (
      ne_eqb (suc d) 0 (λ e. omega arith),
      le-leb 1 (suc d) (omega arith),
      lt-ltb (suc d) (2 ^ 32) h,
      ne_eqb (suc (suc (suc a))) 0
          (λ e. omega arith),
      ne_eqb (suc (suc (suc a))) 1 (λ e. omega arith),
      ne_eqb (suc (suc (suc a))) 2 (λ e. omega arith),
      lt-leb (suc (suc (suc a))) 2 (omega arith),
    )
old_created false zero zero h = refl
old_created false zero (suc a) h = rw (ne_eqb (suc a) 0 (λ e. omega arith))
old_created false (suc d) a h = rw (ne_eqb (suc d) 0 (λ e. omega arith))

pub cause_no : (b : Bool) (k : ℕ) → (beq b (not (eqb k 0)) && leb k 99) ≡ cond b (leb 1 k && leb k 99) (eqb k 0)
cause_no true zero = refl
cause_no true (suc k) = rw (ne_eqb (suc k) 0 (λ e. omega arith), le-leb 1 (suc k) (omega arith))
cause_no false zero = refl
cause_no false (suc k) = rw (ne_eqb (suc k) 0 (λ e. omega arith))
