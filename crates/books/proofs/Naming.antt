-- The names of a line as a test of any TN. Assumes nothing.
use mathlib.Core.Path.{◌≡◌, refl, sym, ap, ◌∙◌, subst}
use mathlib.Core.Bool.{Bool, true, false, ◌||◌}
use mathlib.Core.Logic.{◌⊎◌, inl, inr}
use mathlib.Core.List.{List}
use Prim.Native.Nat.{ℕ, ◌+◌, ◌*◌, ◌/◌, ◌%◌, ◌≤◌, ◌<◌}
use native.Mathlib.Omega.{arith}
use borrow.Author.Tests.{eqb-true, eq-eqb, eqb-false}
use lib.Dec.{eqb}
use Rattle.model.specs.Numbers.{code_of}
use Rattle.model.specs.Books.{Split, partner_in, partner_of, line_in, sound_splits}
use Rattle.model.specs.declared.Marks.{Marks}
use Rattle.model.proofs.Partners.{Names, sound_codes_lem, partner_below, names_alone, names_paired}
use Rattle.model.specs.declared.Tn.{Tn}
use Rattle.books.specs.declared.Names as declared
use Rattle.books.specs.Line.{Named}
use Rattle.books.specs.Packed.{decode_books, splits_of}

module _ (xs : List Split) (a b : ℕ) (n : Names xs a b) (m : ℕ) where
  -- the smaller name first, or the larger
  pub named_test : (eqb m a || eqb m b) ≡ eqb (line_in xs m) (line_in xs a)
  named_test = go (eqb m a) refl (eqb m b) refl (eqb (line_in xs m) (line_in xs a)) refl
    where
      go : (p : Bool) → eqb m a ≡ p → (q : Bool) → eqb m b ≡ q → (r : Bool) → eqb (line_in xs m) (line_in xs a) ≡ r → (p || q) ≡ r
      go true e q f r g = sym (eq-eqb (line_in xs m) (line_in xs a) (ap (line_in xs) (eqb-true m a e))) ∙ g
      go false e true f r g = sym (eq-eqb (line_in xs m) (line_in xs a) (ap (line_in xs) (eqb-true m b f) ∙ n.own)) ∙ g
      go false e false f false g = refl
      go false e false f true g = by (n.line m (eqb-true (line_in xs m) (line_in xs a) g))
        where
          by : (m ≡ a) ⊎ (m ≡ b) → false ≡ true
          by (inl k) = absurd (eqb-false m a e k)
          by (inr k) = absurd (eqb-false m b f k)

  or_swap : (p q : Bool) → (p || q) ≡ (q || p)
  or_swap true true = refl
  or_swap true false = refl
  or_swap false true = refl
  or_swap false false = refl

  pub swapped_test : (eqb m b || eqb m a) ≡ eqb (line_in xs m) (line_in xs a)
  swapped_test = or_swap (eqb m b) (eqb m a) ∙ named_test

-- the partner of a TN's code, by the split list alone
pub partner_split : (bs : List ℕ) (tn : Tn) (c d : ℕ) → c ≡ code_of tn → ((m : Marks) → d ≡ partner_of (decode_books m bs) c)
    → d ≡ partner_in (tn.0 / 10000) (splits_of bs)
unfolding partner_of
partner_split bs tn c d e h = h (record { present = 0; local = 0 }) ∙ ap (λ (x : ℕ). partner_in x (splits_of bs)) e

module _ (xs : List Split) (s : sound_splits xs ≡ true) (tn : Tn) (small : tn.0 < 17179869184) (d : ℕ)
    (q : d ≡ partner_in (tn.0 / 10000) xs) where
  abbrev Pair : Tn → Tn → declared.Names
  Pair a b = record { low = a; high = b }

  pub twin_small : d < 1000000
  twin_small = let h = partner_below xs (sound_codes_lem xs s) (tn.0 / 10000) in omega (arith, q, h)

  pub named-alone : d ≡ 0 → Named xs tn.0 (Pair tn tn)
  named-alone z = record {
    names = named_test xs tn.0 tn.0 (names_alone xs s tn.0 (sym q ∙ z));
    rises = omega arith;
    small = small;
  }

  module _ (p : d ≡ 0 → ⊥) (twin : Tn) (e : twin.0 ≡ d * 10000 + tn.0 % 10000) where
    two : Names xs tn.0 twin.0
    two = subst (Names xs tn.0) (sym e) (names_paired xs s tn.0 d (sym q) (omega arith))

    pub named_low : twin.0 < tn.0 → Named xs tn.0 (Pair twin tn)
    named_low l = record { names = swapped_test xs tn.0 twin.0 two; rises = omega (arith, l); small = small }

    pub named_high : tn.0 ≤ twin.0 → Named xs tn.0 (Pair tn twin)
    named_high l = record { names = named_test xs tn.0 twin.0 two; rises = l; small = omega (arith, e, twin_small) }
