-- A place of eight bytes, read in two halves.
-- Assumes nothing.
use Prim.Native.Nat.{ℕ, ◌+◌, ◌*◌, ◌/◌, ◌%◌, ◌^◌, ◌<◌}
use mathlib.Core.Path.{◌≡◌, sym, ap₂, ◌∙◌, subst}
use mathlib.Core.Bool.{Bool, true, false, ◌&&◌, ◌||◌, false≢true}
use mathlib.Core.List.{List}
use native.Mathlib.Omega.{arith}
use borrow.Author.Tests.{eq-eqb, eqb-true}
use lib.Dec.{eqb}
use Rattle.octets.specs.Octets.{Bytes, be}
use Rattle.octets.proofs.Fields.{and_l, and_r}
use Rattle.octets.proofs.Laws.{be_lt, be_add}
use Rattle.books.specs.Packed.{place_of}

pub record Halves (bs : List ℕ) (at i a b : ℕ) : Type 0 where
  pub high : place_of 8 at bs i / 2 ^ 32 ≡ a
  pub low : place_of 8 at bs i % 2 ^ 32 ≡ b

pub halves : (bs : List ℕ) (at i a b : ℕ) → Bytes bs → a ≡ be 4 bs (at + 8 * i) → b ≡ be 4 bs (at + 8 * i + 4) → Halves bs at i a b
halves bs at i a b y p q =
    let w : be 8 bs (at + 8 * i) ≡ a * 2 ^ 32 + b = be_add bs 4 4 (at + 8 * i) ∙ ap₂ (λ (x z : ℕ). x * 2 ^ 32 + z) (sym p) (sym q) in
    let l : b < 2 ^ 32 = subst (λ (x : ℕ). x < 2 ^ 32) (sym q) (be_lt bs y 4 (at + 8 * i + 4)) in
    record { high = omega arith; low = omega arith }

module _ (bs : List ℕ) (at i a b : ℕ) (h : Halves bs at i a b) where
  pub halves_free : (eqb a 0 && eqb b 0) ≡ true → place_of 8 at bs i ≡ 0
  halves_free e =
      let p : a ≡ 0 = eqb-true a 0 (and_l (eqb a 0) (eqb b 0) e) in
      let q : b ≡ 0 = eqb-true b 0 (and_r (eqb a 0) (eqb b 0) e) in
      omega (arith, h.high, h.low)

  pub halves_used : (eqb a 0 && eqb b 0) ≡ false → place_of 8 at bs i ≡ 0 → ⊥
  halves_used e z =
      let p : a ≡ 0 = omega (arith, h.high) in
      let q : b ≡ 0 = omega (arith, h.low) in
      false≢true (sym e ∙ ap₂ (λ (x y : Bool). x && y) (eq-eqb a 0 p) (eq-eqb b 0 q))

  pub halves_code : (r : Bool) (c : ℕ) → r ≡ (eqb a c || eqb b c)
      → r ≡ (eqb (place_of 8 at bs i / 2 ^ 32) c || eqb (place_of 8 at bs i % 2 ^ 32) c)
  halves_code r c e = e ∙ sym (ap₂ (λ (x y : ℕ). eqb x c || eqb y c) h.high h.low)
