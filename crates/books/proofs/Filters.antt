-- The order of filters and of their places.
-- Assumes nothing.
use Prim.Native.Nat.{ℕ, ◌/◌, ◌%◌, ◌^◌, ◌≤◌, ◌<◌}
use mathlib.Core.Path.{◌≡◌, refl, sym}
use mathlib.Core.Bool.{Bool, true, false, ◌&&◌, ◌||◌}
use native.Mathlib.Omega.{arith}
use borrow.Author.Tests.{lt-ltb, le-ltb, ltb-true, ltb-false, eqb-true, eqb-false}
use lib.Dec.{eqb, ltb}

-- by provider and then code is by place
pub filters_by_place : (a b : ℕ)
    → (ltb (a / 2 ^ 20) (b / 2 ^ 20) || (eqb (a / 2 ^ 20) (b / 2 ^ 20) && ltb (a % 2 ^ 20) (b % 2 ^ 20))) ≡ ltb a b
filters_by_place a b = go (ltb (a / 2 ^ 20) (b / 2 ^ 20)) refl
  where
    same : a / 2 ^ 20 ≡ b / 2 ^ 20 → (t : Bool) → ltb (a % 2 ^ 20) (b % 2 ^ 20) ≡ t → t ≡ ltb a b
    same q true e = sym (lt-ltb a b (let h : a % 2 ^ 20 < b % 2 ^ 20 = ltb-true _ _ e in omega arith))
    same q false e = sym (le-ltb a b (let h : b % 2 ^ 20 ≤ a % 2 ^ 20 = ltb-false _ _ e in omega arith))

    below : b / 2 ^ 20 ≤ a / 2 ^ 20 → (t : Bool) → eqb (a / 2 ^ 20) (b / 2 ^ 20) ≡ t → (t && ltb (a % 2 ^ 20) (b % 2 ^ 20)) ≡ ltb a b
    below l true e = same (eqb-true _ _ e) _ refl
    below l false e = sym (le-ltb a b (let h : (a / 2 ^ 20 ≡ b / 2 ^ 20 → ⊥) = eqb-false _ _ e in omega arith))

    go : (t : Bool) → ltb (a / 2 ^ 20) (b / 2 ^ 20) ≡ t → (t || (eqb (a / 2 ^ 20) (b / 2 ^ 20) && ltb (a % 2 ^ 20) (b % 2 ^ 20))) ≡ ltb a b
    go true e = sym (lt-ltb a b (let h : a / 2 ^ 20 < b / 2 ^ 20 = ltb-true _ _ e in omega arith))
    go false e = below (ltb-false _ _ e) (eqb (a / 2 ^ 20) (b / 2 ^ 20)) refl
