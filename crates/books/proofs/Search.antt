-- What a search over the used places finds, place by place.
-- Assumes nothing.
use Prim.Native.Nat.{ℕ, ◌+◌, ◌/◌, ◌%◌, ◌^◌, ◌<◌}
use mathlib.Core.Path.{◌≡◌, refl, sym, ap, ◌∙◌}
use mathlib.Core.Bool.{Bool, true, false, ◌||◌, false≢true}
use mathlib.Core.List.{◌∷◌}
use native.Mathlib.Omega.{arith}
use borrow.Author.Tests.{eq-eqb, ne_eqb, eqb-true, eqb-false}
use lib.Dec.{eqb}
use Rattle.books.specs.Places.{rest_of}
use Rattle.books.proofs.Places.{used_none, used_more}
use Rattle.books.specs.Search.{owner_by, partner_by}

neither : (a b : Bool) → (a || b) ≡ false → (a ≡ false) × (b ≡ false)
neither false b e = (refl, e)
neither true b e = absurd (false≢true (sym e))

-- place i is x, of n in all
module _ (c : ℕ) (w : ℕ → ℕ) (n i x : ℕ) (h : i < n) (hx : x ≡ w i) where
  used : eqb x 0 ≡ false → rest_of w n i ≡ x ∷ rest_of w n (i + 1)
  used e = used_more w n i x h hx (eqb-false x 0 e)

  -- free, or the code's: a free one says 0
  pub owner_here : (eqb x 0 || eqb (x / 64) c) ≡ true → owner_by c (rest_of w n i) ≡ x % 64
  owner_here e = go (eqb x 0) refl e
    where
      go : (b : Bool) → eqb x 0 ≡ b → (b || eqb (x / 64) c) ≡ true → owner_by c (rest_of w n i) ≡ x % 64
      go true z t =
          let o : x ≡ 0 = eqb-true x 0 z in
          let r : 0 ≡ x % 64 = omega arith in
          ap (owner_by c) (used_none w n i x hx o) ∙ r
      go false u t = rw (used u, t)

  pub owner_next : (eqb x 0 || eqb (x / 64) c) ≡ false → owner_by c (rest_of w n i) ≡ owner_by c (rest_of w n (i + 1))
  owner_next e = rw (used (neither (eqb x 0) (eqb (x / 64) c) e).0, (neither (eqb x 0) (eqb (x / 64) c) e).1)

  pub partner_one : (eqb x 0 || eqb (x / 2 ^ 32) c) ≡ true → partner_by c (rest_of w n i) ≡ x % 2 ^ 32
  partner_one e = go (eqb x 0) refl e
    where
      go : (b : Bool) → eqb x 0 ≡ b → (b || eqb (x / 2 ^ 32) c) ≡ true → partner_by c (rest_of w n i) ≡ x % 2 ^ 32
      go true z t =
          let o : x ≡ 0 = eqb-true x 0 z in
          let r : 0 ≡ x % 2 ^ 32 = omega arith in
          ap (partner_by c) (used_none w n i x hx o) ∙ r
      go false u t = rw (used u, t)

  module _ (e : (eqb x 0 || eqb (x / 2 ^ 32) c) ≡ false) where
    pub partner_other : x % 2 ^ 32 ≡ c → partner_by c (rest_of w n i) ≡ x / 2 ^ 32
    partner_other q = rw (
      used (neither (eqb x 0) (eqb (x / 2 ^ 32) c) e).0,
      (neither (eqb x 0) (eqb (x / 2 ^ 32) c) e).1,
      eq-eqb (x % 2 ^ 32) c q,
    )

    pub partner_next : (x % 2 ^ 32 ≡ c → ⊥) → partner_by c (rest_of w n i) ≡ partner_by c (rest_of w n (i + 1))
    partner_next q = rw (
      used (neither (eqb x 0) (eqb (x / 2 ^ 32) c) e).0,
      (neither (eqb x 0) (eqb (x / 2 ^ 32) c) e).1,
      ne_eqb (x % 2 ^ 32) c q,
    )
