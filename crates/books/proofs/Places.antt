-- Laws of the used places of a list, place by place.
-- Assumes nothing.
use Prim.Native.Nat.{ℕ, zero, suc, ◌+◌, ◌-◌, ◌≤◌, ◌<◌, zero-le}
use mathlib.Core.Path.{◌≡◌, refl, sym, ◌∙◌}
use mathlib.Core.Bool.{Bool, true, false, cond}
use mathlib.Core.List.{[], ◌∷◌}
use native.Mathlib.Numerals.{add-one}
use native.Mathlib.Omega.{arith}
use borrow.Author.Tests.{eq-eqb, ne_eqb}
use lib.Dec.{eqb}
use lib.ListN.{length}
use Rattle.books.specs.Packed.{used_from}
use Rattle.books.specs.Places.{rest_of}

-- at a free place the used ones end
pub used_none : (w : ℕ → ℕ) (n i x : ℕ) → x ≡ w i → x ≡ 0 → rest_of w n i ≡ []
unfolding used_from
used_none w n i x hx z = go (n - i)
  where
    go : (m : ℕ) → used_from w m i ≡ []
    go zero = refl
    go (suc m) = rw (eq-eqb (w i) 0 (sym hx ∙ z))

pub used_more : (w : ℕ → ℕ) (n i x : ℕ) → i < n → x ≡ w i → (x ≡ 0 → ⊥) → rest_of w n i ≡ x ∷ rest_of w n (i + 1)
unfolding used_from
used_more w n i x h hx nz =
    let e : n - i ≡ suc (n - (i + 1)) = omega arith in
    rw (e, ne_eqb (w i) 0 (λ q. nz (hx ∙ q)), hx, add-one i)

pub used_end : (w : ℕ → ℕ) (n i : ℕ) → n ≤ i → rest_of w n i ≡ []
unfolding used_from
used_end w n i h =
    let e : n - i ≡ 0 = omega arith in
    rw e

pub used-length : (w : ℕ → ℕ) (m i : ℕ) → length (used_from w m i) ≤ m
unfolding used_from
used-length w zero i = zero-le
used-length w (suc m) i = go (eqb (w i) 0) (used-length w m (suc i))
  where
    go : (b : Bool) → length (used_from w m (suc i)) ≤ m → length (cond b [] (w i ∷ used_from w m (suc i))) ≤ suc m
    go true h = zero-le
    go false h = omega arith
