-- Pairs, each apart from those before it, are pairs each apart from those behind it. Assumes nothing.
use Prim.Native.Nat.{ℕ, zero, suc, ◌/◌, ◌%◌, ◌^◌}
use mathlib.Core.Path.{◌≡◌, refl, ap, ◌∙◌}
use mathlib.Core.Bool.{Bool, true, false, cond, not, ◌&&◌, ◌||◌}
use mathlib.Core.List.{List, [], ◌∷◌, map}
use native.Mathlib.Omega.{arith}
use borrow.Author.Tests.{ne_eqb}
use lib.Dec.{eqb}
use Rattle.model.specs.Basics.{all}
use Rattle.model.specs.Books.{unsplit}
use Rattle.model.specs.Numbers.{is_code}
use Rattle.books.specs.Packed.{split_of}
use Rattle.soundbooks.specs.Scan.{chain}
use Rattle.soundbooks.specs.Sound.{apart_from, split_test}
use Rattle.faults.specs.Faults.{nearest}
use Rattle.bookfaults.specs.Clauses.{meets, met_by}

-- the pair has two codes, they differ, and none of those before it has one of them
abbrev pub two_codes : ℕ → Bool
two_codes x = is_code (x / 2 ^ 32) && is_code (x % 2 ^ 32)

abbrev pub differ : ℕ → Bool
differ x = not (eqb (x / 2 ^ 32) (x % 2 ^ 32))

abbrev pub clear : List ℕ → ℕ → Bool
clear us x = all (λ (u : ℕ). not (meets u x)) us

abbrev pub pairs_from : List ℕ → List ℕ → Bool
pairs_from us [] = true
pairs_from us (x ∷ xs) = (two_codes x && (differ x && clear us x)) && pairs_from (x ∷ us) xs

-- the places before place i, the nearest first
abbrev pub prefix : (ℕ → ℕ) → ℕ → List ℕ
prefix w zero = []
prefix w (suc j) = w j ∷ prefix w j

pub met_clear : (w : ℕ → ℕ) (i x : ℕ) → eqb (met_by w i x) 0 ≡ clear (prefix w i) x
unfolding nearest
met_clear w zero x = refl
met_clear w (suc j) x = go (meets (w j) x) (met_clear w j x)
  where
    go : (b : Bool) → eqb (met_by w j x) 0 ≡ clear (prefix w j) x → eqb (cond b (suc j) (met_by w j x)) 0 ≡ (not b && clear (prefix w j) x)
    go true e = ne_eqb (suc j) 0 (λ z. absurd (omega arith))
    go false e = e

all_both : (p q : ℕ → Bool) (xs : List ℕ) → all (λ (x : ℕ). p x && q x) xs ≡ (all p xs && all q xs)
all_both p q [] = refl
all_both p q (x ∷ xs) = ap (λ (b : Bool). (p x && q x) && b) (all_both p q xs) ∙ go (p x) (q x) (all p xs) (all q xs)
  where
    go : (a b c d : Bool) → ((a && b) && (c && d)) ≡ ((a && c) && (b && d))
    go true true c d = refl
    go true false true d = refl
    go true false false d = refl
    go false b c d = refl

behind_clear : (x : ℕ) (xs : List ℕ) → all (λ (y : ℕ). not (meets x y)) xs ≡ apart_from (x / 2 ^ 32) (x % 2 ^ 32) xs
behind_clear x [] = refl
behind_clear x (y ∷ ys) =
    ap (λ (b : Bool). not (meets x y) && b) (behind_clear x ys)
    ∙ go (eqb (y / 2 ^ 32) (x / 2 ^ 32)) (eqb (y % 2 ^ 32) (x / 2 ^ 32)) (eqb (y / 2 ^ 32) (x % 2 ^ 32)) (eqb (y % 2 ^ 32) (x % 2 ^ 32))
    (unsplit (x / 2 ^ 32) (map split_of ys)) (unsplit (x % 2 ^ 32) (map split_of ys))
  where
    go : (p q r s a b : Bool) → (not ((p || q) || (r || s)) && (a && b)) ≡ (((not p && not q) && a) && ((not r && not s) && b))
    go true q r s a b = refl
    go false true r s a b = refl
    go false false true s true b = refl
    go false false true s false b = refl
    go false false false true true b = refl
    go false false false true false b = refl
    go false false false false a b = refl

-- EACH APART FROM THOSE BEFORE IT is each apart from those behind it, and all of them from those before the first
pub pairs-chain : (us : List ℕ) (last : ℕ) (xs : List ℕ) → pairs_from us xs ≡ (chain split_test last xs && all (clear us) xs)
pairs-chain us last [] = refl
pairs-chain us last (x ∷ xs) =
    ap (λ (b : Bool). (two_codes x && (differ x && clear us x)) && b)
    (pairs-chain (x ∷ us) x xs
    ∙ ap (λ (b : Bool). chain split_test x xs && b) (all_both (λ (y : ℕ). not (meets x y)) (clear us) xs
    ∙ ap (λ (b : Bool). b && all (clear us) xs) (behind_clear x xs)))
    ∙ go (two_codes x) (differ x) (apart_from (x / 2 ^ 32) (x % 2 ^ 32) xs) (clear us x) (chain split_test x xs) (all (clear us) xs)
  where
    go : (c d e a k n : Bool) → ((c && (d && a)) && (k && (e && n))) ≡ ((((d && e) && c) && k) && (a && n))
    go true true true true k n = refl
    go true true true false true n = refl
    go true true true false false n = refl
    go true true false true true n = refl
    go true true false true false n = refl
    go true true false false k n = refl
    go true false e a k n = refl
    go false true true a k n = refl
    go false true false a k n = refl
    go false false e a k n = refl
