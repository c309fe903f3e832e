-- The table of `marks_fit` has what the clauses say: one computed test of all its places. Assumes nothing.
use mathlib.Core.Path.{◌≡◌, refl, sym, subst}
use mathlib.Core.Bool.{Bool, true, false, cond, ◌&&◌, ◌||◌}
use mathlib.Core.List.{List, [], ◌∷◌}
use Prim.Native.Nat.{ℕ, ◌+◌, ◌-◌, ◌*◌, ◌/◌, ◌%◌, ◌^◌, ◌≤◌, suc}
use native.Mathlib.Omega.{arith}
use lib.Dec.{eqb, ltb}
use lib.ListN.{get_or}
use Rattle.model.specs.Basics.{iff, implies, among, every}
use Rattle.model.specs.Sound.{is_purposed, last_status, needs_new, conflict, cancel_pending, failure, partial_failure, is_sending}
use Rattle.model.specs.Sound.{activate, disconnect, is_live}
use Rattle.sound.specs.Marks.{fit_bits}
use Rattle.model.proofs.Lists.{conj_at}
use Rattle.model.proofs.SoundSets.{every_at}

-- the clauses, of a status, a purpose and the marks live, new side created, old side created
abbrev pub rule : ℕ → ℕ → Bool → Bool → Bool → Bool
rule s p l n o =
    (n || o) && (implies (eqb s conflict) o && implies (eqb s cancel_pending) (n && o) && implies (needs_new s) n)
    && (iff (ltb 0 p) (is_purposed s) && implies (among s (failure ∷ partial_failure ∷ [])) (eqb p activate))
    && cond (is_sending s) (l || eqb p activate) (iff l (is_live s))

abbrev pub entry : ℕ → ℕ → Bool → Bool → Bool → Bool
entry s p l n o = eqb (get_or fit_bits s 0 / 2 ^ (p * 8 + cond l 1 0 * 4 + cond n 1 0 * 2 + cond o 1 0) % 2) 1

abbrev agree : ℕ → ℕ → Bool → Bool → Bool → Bool
agree s p l n o = iff (entry s p l n o) (rule s p l n o)

abbrev cases : (Bool → Bool → Bool → Bool) → List Bool
cases f = f true true true ∷ f true true false ∷ f true false true ∷ f true false false ∷ f false true true ∷ f false true false
    ∷ f false false true ∷ f false false false ∷ []

unfoldable right : ℕ → ℕ → Bool
right s p =
    agree s p true true true && agree s p true true false && agree s p true false true && agree s p true false false
    && agree s p false true true && agree s p false true false
    && agree s p false false true && agree s p false false false

right_at : (s p : ℕ) (l n o : Bool) → right s p ≡ true → agree s p l n o ≡ true
unfolding right
right_at s p true true true e = conj_at (cases (agree s p)) e 0
right_at s p true true false e = conj_at (cases (agree s p)) e 1
right_at s p true false true e = conj_at (cases (agree s p)) e 2
right_at s p true false false e = conj_at (cases (agree s p)) e 3
right_at s p false true true e = conj_at (cases (agree s p)) e 4
right_at s p false true false e = conj_at (cases (agree s p)) e 5
right_at s p false false true e = conj_at (cases (agree s p)) e 6
right_at s p false false false e = conj_at (cases (agree s p)) e 7

computed : every (λ (s : ℕ). every (λ (p : ℕ). right (s - 1) (p - 1)) (suc disconnect)) (suc last_status) ≡ true
unfolding every right fit_bits
computed = refl

iff-same : (a b : Bool) → iff a b ≡ true → a ≡ b
iff-same true b e = sym e
iff-same false true e = e
iff-same false false e = refl

pub entry_rule : (s p : ℕ) (l n o : Bool) → s ≤ last_status → p ≤ disconnect → entry s p l n o ≡ rule s p l n o
entry_rule s p l n o h k =
    let row : every (λ (q : ℕ). right (s + 1 - 1) (q - 1)) (suc disconnect) ≡ true =
    every_at (λ (r : ℕ). every (λ (q : ℕ). right (r - 1) (q - 1)) (suc disconnect)) (suc last_status) (s + 1) computed
    (omega arith) (omega arith) in
    let cell : right (s + 1 - 1) (p + 1 - 1) ≡ true =
    every_at (λ (q : ℕ). right (s + 1 - 1) (q - 1)) (suc disconnect) (p + 1) row (omega arith) (omega arith) in
    let a : s + 1 - 1 ≡ s = omega arith in
    let b : p + 1 - 1 ≡ p = omega arith in
    iff-same (entry s p l n o) (rule s p l n o)
    (right_at s p l n o (subst (λ (i : ℕ). right s i ≡ true) b (subst (λ (i : ℕ). right i (p + 1 - 1) ≡ true) a cell)))

-- a number that is none of the first ones is above them
pub above : (k s : ℕ) → k ≤ s → (s ≡ k → ⊥) → k + 1 ≤ s
above k s h n = omega arith
