-- The version of a line that has a number: what puts leave of it.
-- Assumes nothing.
use mathlib.Core.Path.{◌≡◌, refl, sym, ap, ◌∙◌}
use Prim.Native.Nat.{ℕ, Ordering}
use mathlib.Core.Bool.{Bool, true, false}
use mathlib.Core.Option.{some}
use mathlib.Core.List.{List, [], ◌∷◌}
use lib.Dec.{eqb}
use borrow.Author.Tests.{eqb-true}
use Rattle.model.specs.Table.{order, put, change}
use Rattle.model.specs.Sound.{numbered}
use Rattle.model.specs.Given.{with_number}
use Rattle.model.proofs.Lists.{all_first, first_true}
use Rattle.model.proofs.Order.{order_self, order_eq, order_lt}
use Rattle.model.proofs.TableLaws.{Rising, above}
use Rattle.model.specs.declared.Id.{Id}
use Rattle.model.specs.declared.Version.{Version}

pub with_number_lem : (n : ℕ) (r : List Version) (v : Version) → with_number n r ≡ some v → v.id.number ≡ n
with_number_lem n r v q = eqb-true v.id.number n (first_true (numbered n) r v q)

-- what is found behind a row stands above it
pub with_above : (n : ℕ) (x : Version) (xs : List Version) (v : Version) → Rising (x ∷ xs) → with_number n xs ≡ some v
    → order x.id v.id ≡ Ordering.lt
with_above n x xs v s q = all_first {P = λ (y : Version). order x.id y.id ≡ Ordering.lt} (numbered n) v
    (above x.id xs s.0 s.1) q

-- a put over it
pub with_put : (n : ℕ) (r : List Version) (v w : Version) → Rising r → with_number n r ≡ some v → w.id ≡ v.id
    → with_number n (change (put w) r) ≡ some w
with_put n [] v w s q i = cc
with_put n (x ∷ xs) v w s q i = go (numbered n x) refl (with_put n xs v w s.1)
  where
    go : (b : Bool) → numbered n x ≡ b → (with_number n xs ≡ some v → w.id ≡ v.id → with_number n (change (put w) xs) ≡ some w)
        → with_number n (change (put w) (x ∷ xs)) ≡ some w
    go true e ih =
        let y : x ≡ v = cc (rw e at q) in
        let j : w.id ≡ x.id = i ∙ ap (λ (z : Version). z.id) (sym y) in
        let here : eqb w.id.number n ≡ true = ap (λ (k : Id). eqb k.number n) j ∙ e in
        rw (ap (λ (k : Id). order k x.id) j ∙ order_self x.id, here)
    go false e ih =
        let a : with_number n xs ≡ some v = rw e at q in
        let up : order w.id x.id ≡ Ordering.gt = ap (λ (k : Id). order k x.id) i
        ∙ order_lt x.id v.id (with_above n x xs v s a) in
        rw (up, e) (ih a i)

-- a put of another number does not touch it
pub with_other : (n : ℕ) (r : List Version) (w : Version) → numbered n w ≡ false → with_number n (change (put w) r) ≡ with_number n r
with_other n [] w h = refl
with_other n (x ∷ xs) w h = go (order w.id x.id) refl (with_other n xs w h)
  where
    go : (o : Ordering) → order w.id x.id ≡ o → with_number n (change (put w) xs) ≡ with_number n xs
        → with_number n (change (put w) (x ∷ xs)) ≡ with_number n (x ∷ xs)
    go Ordering.lt e ih = rw e
    go Ordering.eq e ih =
        let same : eqb x.id.number n ≡ false = ap (λ (k : Id). eqb k.number n) (sym (order_eq w.id x.id e)) ∙ h in
        rw (e, h, same)
    go Ordering.gt e ih = rw (e, ih)
