-- The order of versions' names, law by law. Nothing after this file looks at `order`'s text.
-- Assumes nothing.
use mathlib.Core.Path.{◌≡◌, refl, sym, ap, ◌∙◌}
use Prim.Native.Nat.{ℕ, ◌≤◌, ◌<◌, compare, Ordering}
use native.Mathlib.Omega.{arith}
use lib.Dec.{is_le, compare_is_eq}
use borrow.Author.Tests.{leb-true, leb-false, eqb-true, eqb-false}
use Rattle.model.specs.Table.{order}
use Rattle.model.specs.declared.Id.{Id}

-- the native comparison, both ways
lt_of : (m n : ℕ) → compare m n ≡ Ordering.lt → m < n
lt_of m n e =
    let le : m ≤ n = leb-true m n (ap is_le e) in
    let ne : m ≡ n → ⊥ = eqb-false m n (ap compare_is_eq e) in
    omega arith

gt_of : (m n : ℕ) → compare m n ≡ Ordering.gt → n < m
gt_of m n e = leb-false m n (ap is_le e)

eq_of : (m n : ℕ) → compare m n ≡ Ordering.eq → m ≡ n
eq_of m n e = eqb-true m n (ap compare_is_eq e)

of_lt : (m n : ℕ) → m < n → compare m n ≡ Ordering.lt
of_lt m n h = go (compare m n) refl
  where
    go : (o : Ordering) → compare m n ≡ o → compare m n ≡ Ordering.lt
    go Ordering.lt e = e
    go Ordering.eq e = let k : m ≡ n = eq_of m n e in absurd (omega arith)
    go Ordering.gt e = let k : n < m = gt_of m n e in absurd (omega arith)

of_gt : (m n : ℕ) → n < m → compare m n ≡ Ordering.gt
of_gt m n h = go (compare m n) refl
  where
    go : (o : Ordering) → compare m n ≡ o → compare m n ≡ Ordering.gt
    go Ordering.lt e = let k : m < n = lt_of m n e in absurd (omega arith)
    go Ordering.eq e = let k : m ≡ n = eq_of m n e in absurd (omega arith)
    go Ordering.gt e = e

of_eq : (m n : ℕ) → m ≡ n → compare m n ≡ Ordering.eq
of_eq m n h = go (compare m n) refl
  where
    go : (o : Ordering) → compare m n ≡ o → compare m n ≡ Ordering.eq
    go Ordering.lt e = let k : m < n = lt_of m n e in absurd (omega arith)
    go Ordering.eq e = e
    go Ordering.gt e = let k : n < m = gt_of m n e in absurd (omega arith)

pub order_self : (a : Id) → order a a ≡ Ordering.eq
unfolding order
order_self a = rw (of_eq a.tn.0 a.tn.0 refl, of_eq a.number a.number refl)

pub order_eq : (a b : Id) → order a b ≡ Ordering.eq → a ≡ b
unfolding order
order_eq a b h = go (compare a.tn.0 b.tn.0) refl
  where
    go : (o : Ordering) → compare a.tn.0 b.tn.0 ≡ o → a ≡ b
    go Ordering.lt e = cc (rw e at h)
    go Ordering.eq e =
        let p : a.tn.0 ≡ b.tn.0 = eq_of a.tn.0 b.tn.0 e in
        let q : a.number ≡ b.number = eq_of a.number b.number (rw e at h) in
        λ i. record { tn = record { 0 = p i }; number = q i }
    go Ordering.gt e = cc (rw e at h)

pub order_gt : (a b : Id) → order a b ≡ Ordering.gt → order b a ≡ Ordering.lt
unfolding order
order_gt a b h = go (compare a.tn.0 b.tn.0) refl
  where
    go : (o : Ordering) → compare a.tn.0 b.tn.0 ≡ o → order b a ≡ Ordering.lt
    go Ordering.lt e = cc (rw e at h)
    go Ordering.eq e =
        rw (
          of_eq b.tn.0 a.tn.0 (sym (eq_of a.tn.0 b.tn.0 e)),
          of_lt b.number a.number
              (gt_of a.number b.number (rw e at h)),
        )
    go Ordering.gt e = rw (of_lt b.tn.0 a.tn.0 (gt_of a.tn.0 b.tn.0 e))

pub order_lt : (a b : Id) → order a b ≡ Ordering.lt → order b a ≡ Ordering.gt
unfolding order
order_lt a b h = go (compare a.tn.0 b.tn.0) refl
  where
    go : (o : Ordering) → compare a.tn.0 b.tn.0 ≡ o → order b a ≡ Ordering.gt
    go Ordering.lt e = rw (of_gt b.tn.0 a.tn.0 (lt_of a.tn.0 b.tn.0 e))
    go Ordering.eq e =
        rw (
          of_eq b.tn.0 a.tn.0 (sym (eq_of a.tn.0 b.tn.0 e)),
          of_gt b.number a.number
              (lt_of a.number b.number (rw e at h)),
        )
    go Ordering.gt e = cc (rw e at h)

pub order_trans : (a b c : Id) → order a b ≡ Ordering.lt → order b c ≡ Ordering.lt → order a c ≡ Ordering.lt
unfolding order
order_trans a b c h k = go (compare a.tn.0 b.tn.0) refl (compare b.tn.0 c.tn.0) refl
  where
    go : (o : Ordering) → compare a.tn.0 b.tn.0 ≡ o → (p : Ordering) → compare b.tn.0 c.tn.0 ≡ p → order a c ≡ Ordering.lt
    go Ordering.lt e Ordering.lt f =
        let x : a.tn.0 < b.tn.0 = lt_of a.tn.0 b.tn.0 e in
        let y : b.tn.0 < c.tn.0 = lt_of b.tn.0 c.tn.0 f in
        rw (of_lt a.tn.0 c.tn.0 (omega arith))
    go Ordering.lt e Ordering.eq f =
        let x : a.tn.0 < b.tn.0 = lt_of a.tn.0 b.tn.0 e in
        let y : b.tn.0 ≡ c.tn.0 = eq_of b.tn.0 c.tn.0 f in
        rw (of_lt a.tn.0 c.tn.0 (omega arith))
    go Ordering.lt e Ordering.gt f = cc (rw f at k)
    go Ordering.eq e Ordering.lt f =
        let x : a.tn.0 ≡ b.tn.0 = eq_of a.tn.0 b.tn.0 e in
        let y : b.tn.0 < c.tn.0 = lt_of b.tn.0 c.tn.0 f in
        rw (of_lt a.tn.0 c.tn.0 (omega arith))
    go Ordering.eq e Ordering.eq f =
        let x : a.number < b.number = lt_of a.number b.number (rw e at h) in
        let y : b.number < c.number = lt_of b.number c.number (rw f at k) in
        rw (
          of_eq a.tn.0 c.tn.0 (eq_of a.tn.0 b.tn.0 e ∙ eq_of b.tn.0 c.tn.0 f),
          of_lt a.number
              c.number (omega arith),
        )
    go Ordering.eq e Ordering.gt f = cc (rw f at k)
    go Ordering.gt e p f = cc (rw e at h)
