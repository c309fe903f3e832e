-- The kinds that a `match` leaves: above the table, and those with the fields of the plain ones.
-- Assumes nothing.
use mathlib.Core.Path.{◌≡◌}
use mathlib.Core.Bool.{true, false}
use Prim.Native.Nat.{ℕ, suc, ◌≤◌, ◌<◌}
use native.Mathlib.Nat.{lt_of_not-le}
use native.Mathlib.Decide.{dec_le}
use native.Mathlib.Omega.{arith}
use borrow.Author.Tests.{le-leb, lt-leb, ne_eqb}
use Rattle.model.specs.declared.Event.{Event}
use Rattle.model.specs.Kinds as kind
use Rattle.model.specs.Record.{is_plain, plainly, kind_fits}

pub above : (e : Event) → kind.last < e.kind → kind_fits e ≡ false
unfolding kind_fits
above e h =
    let k = e.kind in
    simp (
      le-leb 5 k (omega arith),
      lt-leb k 8 (omega arith),
      le-leb 13 k (omega arith),
      lt-leb k kind.last (omega arith),
      ne_eqb k 10 (λ q. omega arith),
      ne_eqb k 1 (λ q. omega arith),
      ne_eqb k 2 (λ q. omega arith),
      ne_eqb k 3 (λ q. omega arith),
      ne_eqb k 4 (λ q. omega arith),
      ne_eqb k 9 (λ q. omega arith),
      ne_eqb k 11 (λ q. omega arith),
      ne_eqb k 12 (λ q. omega arith),
    )

-- `omega` splits at most six `≢`, so the four low kinds and the four high ones go apart
low : (k : ℕ) → 1 ≤ k → (k ≡ 1 → ⊥) → (k ≡ 2 → ⊥) → (k ≡ 3 → ⊥) → (k ≡ 4 → ⊥) → 5 ≤ k
low k h n1 n2 n3 n4 = omega arith

high : (k : ℕ) → 8 < k → (k ≡ 9 → ⊥) → (k ≡ 10 → ⊥) → (k ≡ 11 → ⊥) → (k ≡ 12 → ⊥) → 13 ≤ k
high k h n9 n10 n11 n12 = omega arith

plain_kind : (k : ℕ) → 5 ≤ k → k < suc kind.last → (8 < k → 13 ≤ k) → is_plain k ≡ true
plain_kind k lo hi up =
    elim (dec_le k 8) [
      | yes h ↦ simp (le-leb 5 k lo, le-leb k 8 h)
      | no h ↦
          let m : 13 ≤ k = up (lt_of_not-le h) in
          simp (le-leb 5 k lo, lt-leb k 8 (omega arith), ne_eqb k 10 (λ q. omega arith), le-leb 13 k m, le-leb k kind.last (omega arith))
    ]

pub plain : (e : Event) → 1 ≤ e.kind → e.kind < suc kind.last
    → (e.kind ≡ 1 → ⊥) → (e.kind ≡ 2 → ⊥) → (e.kind ≡ 3 → ⊥) → (e.kind ≡ 4 → ⊥)
    → (e.kind ≡ 9 → ⊥) → (e.kind ≡ 10 → ⊥) → (e.kind ≡ 11 → ⊥) → (e.kind ≡ 12 → ⊥) → plainly e ≡ kind_fits e
unfolding kind_fits
plain e lo hi n1 n2 n3 n4 n9 n10 n11 n12 =
    let k = e.kind in
    simp (plain_kind k (low k lo n1 n2 n3 n4) hi (λ h. high k h n9 n10 n11 n12))
