-- The laws of `change`: two changes of different names commute, a later put of a name covers an earlier one, and a part of
-- the table that a test on names cuts out sees only the changes of names that pass the test.
-- Assumes nothing.
use mathlib.Core.Path.{◌≡◌, refl, sym, ap, ◌∙◌, subst}
use Prim.Native.Nat.{ℕ, suc, ◌+◌, ◌≤◌, Ordering}
use mathlib.Core.Bool.{Bool, true, false}
use mathlib.Core.Option.{some}
use mathlib.Core.List.{List, [], ◌∷◌}
use lib.ListN.{length}
use native.Mathlib.Omega.{arith}
use Rattle.model.specs.Basics.{keep, All, none, with}
use Rattle.model.specs.Table.{order, sel, Change, put, add, strike, name_of, miss, hit, change, changes, find}
use Rattle.model.proofs.Order.{order_self, order_eq, order_gt, order_lt, order_trans}
use Rattle.model.specs.declared.Id.{Id}
use Rattle.model.specs.declared.Version.{Version}

-- ---- the words of these laws

-- strictly rising
abbrev pub Under : Id → List Version → Type 0
Under k [] = Unit {0}
Under k (x ∷ xs) = order k x.id ≡ Ordering.lt

abbrev pub Rising : List Version → Type 0
Rising [] = Unit {0}
Rising (x ∷ xs) = Under x.id xs × Rising xs

-- the rows but the one of that name
abbrev pub not_named : Id → Id → Bool
not_named k j = sel (order j k) true false true

abbrev pub others : Id → List Version → List Version
others k t = keep (λ (v : Version). not_named k v.id) t

-- how many rows changes may add
abbrev pub fresh : Change → ℕ
fresh (put v) = 0
fresh (add v) = 1
fresh (strike k) = 0

abbrev pub adds : List Change → ℕ
adds [] = 0
adds (c ∷ cs) = fresh c + adds cs

-- ---- what stands under a table

pub under_tail : (k : Id) (x : Version) (xs : List Version) → Under k (x ∷ xs) → Rising (x ∷ xs) → Under k xs
under_tail k x [] u r = tt
under_tail k x (y ∷ ys) u r = order_trans k x.id y.id u r.0

pub above : (k : Id) (t : List Version) → Under k t → Rising t → All (λ (x : Version). order k x.id ≡ Ordering.lt) t
above k [] u r = none
above k (x ∷ xs) u r = with u (above k xs (under_tail k x xs u r) r.1)

under_eq : (k : Id) (x : Version) (xs : List Version) → order k x.id ≡ Ordering.eq → Rising (x ∷ xs) → Under k xs
under_eq k x xs e r = subst (λ (j : Id). Under j xs) (sym (order_eq k x.id e)) r.0

under-miss : (k : Id) (c : Change) (t : List Version) → order k (name_of c) ≡ Ordering.lt → Under k t → Under k (miss c t)
under-miss k (put v) t h u = u
under-miss k (add v) t h u = h
under-miss k (strike j) t h u = u

under-hit : (k : Id) (c : Change) (t : List Version) → order k (name_of c) ≡ Ordering.lt → Under k t → Under k (hit c t)
under-hit k (put v) t h u = h
under-hit k (add v) t h u = h
under-hit k (strike j) t h u = u

-- a change of a name above k leaves k under the table
under-change : (k : Id) (c : Change) (t : List Version) → order k (name_of c) ≡ Ordering.lt → Under k t → Rising t → Under k (change c t)
under-change k c [] h u r = under-miss k c [] h tt
under-change k c (x ∷ xs) h u r = go (order (name_of c) x.id) refl
  where
    go : (o : Ordering) → order (name_of c) x.id ≡ o → Under k (change c (x ∷ xs))
    go Ordering.lt e = rw e (under-miss k c (x ∷ xs) h u)
    go Ordering.eq e = rw e (under-hit k c xs h (under_tail k x xs u r))
    go Ordering.gt e = rw e u

rising-miss : (c : Change) (t : List Version) → Under (name_of c) t → Rising t → Rising (miss c t)
rising-miss (put v) t u r = r
rising-miss (add v) t u r = (u, r)
rising-miss (strike j) t u r = r

rising-hit : (c : Change) (t : List Version) → Under (name_of c) t → Rising t → Rising (hit c t)
rising-hit (put v) t u r = (u, r)
rising-hit (add v) t u r = (u, r)
rising-hit (strike j) t u r = r

pub rising-change : (c : Change) (t : List Version) → Rising t → Rising (change c t)
rising-change c [] r = rising-miss c [] tt tt
rising-change c (x ∷ xs) r = go (order (name_of c) x.id) refl (rising-change c xs r.1)
  where
    go : (o : Ordering) → order (name_of c) x.id ≡ o → Rising (change c xs) → Rising (change c (x ∷ xs))
    go Ordering.lt e ih = rw e (rising-miss c (x ∷ xs) e r)
    go Ordering.eq e ih = rw e (rising-hit c xs (under_eq (name_of c) x xs e r) r.1)
    go Ordering.gt e ih = rw e (under-change x.id c xs (order_gt (name_of c) x.id e) r.0 r.1, ih)

pub rising_changes : (cs : List Change) (t : List Version) → Rising t → Rising (changes cs t)
rising_changes [] t r = r
rising_changes (c ∷ cs) t r = rising_changes cs (change c t) (rising-change c t r)

-- ---- where a change lands

pub change-under : (c : Change) (t : List Version) → Under (name_of c) t → change c t ≡ miss c t
change-under c [] u = refl
change-under c (x ∷ xs) u = rw u

-- a change passes over a lower one
change-miss : (c d : Change) (t : List Version) → order (name_of d) (name_of c) ≡ Ordering.lt → change c (miss d t) ≡ miss d (change c t)
change-miss c (put v) t h = refl
change-miss c (add v) t h = rw (order_lt v.id (name_of c) h)
change-miss c (strike j) t h = refl

change-hit : (c d : Change) (t : List Version) → order (name_of d) (name_of c) ≡ Ordering.lt → change c (hit d t) ≡ hit d (change c t)
change-hit c (put v) t h = rw (order_lt v.id (name_of c) h)
change-hit c (add v) t h = rw (order_lt v.id (name_of c) h)
change-hit c (strike j) t h = refl

-- ---- two changes of different names commute

comm_lt : (c d : Change) (t : List Version) → order (name_of c) (name_of d) ≡ Ordering.lt → Rising t
    → change c (change d t) ≡ change d (change c t)
comm_lt c d [] h r = change-under c (miss d []) (under-miss (name_of c) d [] h tt) ∙ sym (change-miss d c [] h)
comm_lt c d (x ∷ xs) h r = go (order (name_of c) x.id) refl (comm_lt c d xs h r.1)
  where
    go : (o : Ordering) → order (name_of c) x.id ≡ o → change c (change d xs) ≡ change d (change c xs)
        → change c (change d (x ∷ xs)) ≡ change d (change c (x ∷ xs))
    go Ordering.lt e ih =
        change-under c (change d (x ∷ xs)) (under-change (name_of c) d (x ∷ xs) h e r)
        ∙ sym (change-miss d c (x ∷ xs) h) ∙ ap (change d) (sym (change-under c (x ∷ xs) e))
    go Ordering.eq e ih =
        let up : order (name_of d) x.id ≡ Ordering.gt = order_lt x.id (name_of d) (rw (order_eq (name_of c) x.id e) at h) in
        rw (up, e) (sym (change-hit d c xs h))
    go Ordering.gt e ih =
        let up : order (name_of d) x.id ≡ Ordering.gt =
        order_lt x.id (name_of d) (order_trans x.id (name_of c) (name_of d) (order_gt (name_of c) x.id e) h) in
        rw (up, e, up) (ap (λ (l : List Version). x ∷ l) ih)

pub change_comm : (c d : Change) (t : List Version) → (name_of c ≡ name_of d → ⊥) → Rising t → change c (change d t) ≡ change d (change c t)
change_comm c d t n r = go (order (name_of c) (name_of d)) refl
  where
    go : (o : Ordering) → order (name_of c) (name_of d) ≡ o → change c (change d t) ≡ change d (change c t)
    go Ordering.lt e = comm_lt c d t e r
    go Ordering.eq e = absurd (n (order_eq (name_of c) (name_of d) e))
    go Ordering.gt e = sym (comm_lt d c t (order_gt (name_of c) (name_of d) e) r)

-- ---- the later put of one name covers the earlier

pub put_cover : (v w : Version) (t : List Version) → w.id ≡ v.id → change (put v) (change (put w) t) ≡ change (put v) t
put_cover v w [] n = refl
put_cover v w (x ∷ xs) n = go (order v.id x.id) refl (put_cover v w xs n)
  where
    go : (o : Ordering) → order v.id x.id ≡ o → change (put v) (change (put w) xs) ≡ change (put v) xs
        → change (put v) (change (put w) (x ∷ xs)) ≡ change (put v) (x ∷ xs)
    go Ordering.lt e ih = rw (n, e, e)
    go Ordering.eq e ih = rw (n, e, order_self v.id)
    go Ordering.gt e ih = rw (ap (λ (k : Id). order k x.id) n ∙ e, e) (ap (λ (l : List Version). x ∷ l) ih)

-- ---- find

pub find_name : (k : Id) (t : List Version) (v : Version) → find k t ≡ some v → v.id ≡ k
find_name k [] v h = cc
find_name k (x ∷ xs) v h = go (order k x.id) refl (find_name k xs v)
  where
    go : (o : Ordering) → order k x.id ≡ o → (find k xs ≡ some v → v.id ≡ k) → v.id ≡ k
    go Ordering.lt e ih = cc (rw e at h)
    go Ordering.eq e ih = cc (rw e at h, order_eq k x.id e)
    go Ordering.gt e ih = ih (rw e at h)

pub find-put : (k : Id) (t : List Version) (v w : Version) → find k t ≡ some v → w.id ≡ k → find k (change (put w) t) ≡ some w
find-put k [] v w h n = cc
find-put k (x ∷ xs) v w h n = go (order k x.id) refl (find-put k xs v w)
  where
    go : (o : Ordering) → order k x.id ≡ o → (find k xs ≡ some v → w.id ≡ k → find k (change (put w) xs) ≡ some w)
        → find k (change (put w) (x ∷ xs)) ≡ some w
    go Ordering.lt e ih = cc (rw e at h)
    go Ordering.eq e ih = rw (n, e, order_self k)
    go Ordering.gt e ih = rw (ap (λ (j : Id). order j x.id) n ∙ e, e) (ih (rw e at h) n)

-- a put of another name does not touch what is found
pub find_other : (k : Id) (t : List Version) (w : Version) → (k ≡ w.id → ⊥) → find k (change (put w) t) ≡ find k t
find_other k [] w n = refl
find_other k (x ∷ xs) w n = go (order w.id x.id) refl (find_other k xs w n)
  where
    at_hit : w.id ≡ x.id → (o : Ordering) → order k w.id ≡ o → find k (w ∷ xs) ≡ find k (x ∷ xs)
    at_hit e Ordering.lt f = rw (f, ← e, f)
    at_hit e Ordering.eq f = absurd (n (order_eq k w.id f))
    at_hit e Ordering.gt f = rw (f, ap (order k) (sym e) ∙ f)

    go : (o : Ordering) → order w.id x.id ≡ o → find k (change (put w) xs) ≡ find k xs → find k (change (put w) (x ∷ xs)) ≡ find k (x ∷ xs)
    go Ordering.lt e ih = rw e
    go Ordering.eq e ih = rw e (at_hit (order_eq w.id x.id e) (order k w.id) refl)
    go Ordering.gt e ih = rw (e, ih)

-- ---- length

length-miss : (c : Change) (t : List Version) → length (miss c t) ≤ length t + fresh c
length-miss (put v) t = omega arith
length-miss (add v) t = omega arith
length-miss (strike k) t = omega arith

length-hit : (c : Change) (t : List Version) → length (hit c t) ≤ suc (length t)
length-hit (put v) t = omega arith
length-hit (add v) t = omega arith
length-hit (strike k) t = omega arith

length-change : (c : Change) (t : List Version) → length (change c t) ≤ length t + fresh c
length-change c [] = length-miss c []
length-change c (x ∷ xs) = go (order (name_of c) x.id) refl (length-change c xs)
  where
    go : (o : Ordering) → order (name_of c) x.id ≡ o → length (change c xs) ≤ length xs + fresh c
        → length (change c (x ∷ xs)) ≤ length (x ∷ xs) + fresh c
    go Ordering.lt e ih = rw e (length-miss c (x ∷ xs))
    go Ordering.eq e ih = rw e (omega (arith, length-hit c xs))
    go Ordering.gt e ih = rw e (omega arith)

pub length_changes : (cs : List Change) (t : List Version) → length (changes cs t) ≤ length t + adds cs
length_changes [] t = omega arith
length_changes (c ∷ cs) t = omega (arith, length-change c t, length_changes cs (change c t))

-- ---- the part of the table that a test on names cuts out
module _ (p : Id → Bool) where
  abbrev part : List Version → List Version
  part t = keep (λ (v : Version). p v.id) t

  under_part : (k : Id) (t : List Version) → Under k t → Rising t → Under k (part t)
  under_part k [] u r = tt
  under_part k (x ∷ xs) u r = go (p x.id) refl (under_part k xs (under_tail k x xs u r) r.1)
    where
      go : (b : Bool) → p x.id ≡ b → Under k (part xs) → Under k (part (x ∷ xs))
      go true e ih = rw e u
      go false e ih = rw e ih

  pub rising_part : (t : List Version) → Rising t → Rising (part t)
  rising_part [] r = tt
  rising_part (x ∷ xs) r = go (p x.id) refl (rising_part xs r.1)
    where
      go : (b : Bool) → p x.id ≡ b → Rising (part xs) → Rising (part (x ∷ xs))
      go true e ih = rw e (under_part x.id xs r.0 r.1, ih)
      go false e ih = rw e ih

  part_miss_out : (c : Change) (t : List Version) → p (name_of c) ≡ false → part (miss c t) ≡ part t
  part_miss_out (put v) t h = refl
  part_miss_out (add v) t h = rw h
  part_miss_out (strike k) t h = refl

  part_hit_out : (c : Change) (t : List Version) → p (name_of c) ≡ false → part (hit c t) ≡ part t
  part_hit_out (put v) t h = rw h
  part_hit_out (add v) t h = rw h
  part_hit_out (strike k) t h = refl

  part_miss_in : (c : Change) (t : List Version) → p (name_of c) ≡ true → part (miss c t) ≡ miss c (part t)
  part_miss_in (put v) t h = refl
  part_miss_in (add v) t h = rw h
  part_miss_in (strike k) t h = refl

  part_hit_in : (c : Change) (t : List Version) → p (name_of c) ≡ true → part (hit c t) ≡ hit c (part t)
  part_hit_in (put v) t h = rw h
  part_hit_in (add v) t h = rw h
  part_hit_in (strike k) t h = refl

  -- a change of a name outside the part
  pub part_out : (c : Change) (t : List Version) → p (name_of c) ≡ false → part (change c t) ≡ part t
  part_out c [] h = part_miss_out c [] h
  part_out c (x ∷ xs) h = go (order (name_of c) x.id) refl (part_out c xs h)
    where
      go : (o : Ordering) → order (name_of c) x.id ≡ o → part (change c xs) ≡ part xs → part (change c (x ∷ xs)) ≡ part (x ∷ xs)
      go Ordering.lt e ih = rw e (part_miss_out c (x ∷ xs) h)
      go Ordering.eq e ih = rw (e, ← order_eq (name_of c) x.id e, h) (part_hit_out c xs h)
      go Ordering.gt e ih = rw (e, ih)

  -- a change of a name inside the part
  pub part_in : (c : Change) (t : List Version) → p (name_of c) ≡ true → Rising t → part (change c t) ≡ change c (part t)
  part_in c [] h r = part_miss_in c [] h
  part_in c (x ∷ xs) h r = go (order (name_of c) x.id) refl (p x.id) refl (part_in c xs h r.1)
    where
      go : (o : Ordering) → order (name_of c) x.id ≡ o → (b : Bool) → p x.id ≡ b → part (change c xs) ≡ change c (part xs)
          → part (change c (x ∷ xs)) ≡ change c (part (x ∷ xs))
      go Ordering.lt e b f ih = rw e
          (part_miss_in c (x ∷ xs) h ∙ sym (change-under c (part (x ∷ xs)) (under_part (name_of c) (x ∷ xs) e r)))
      go Ordering.eq e b f ih = rw (e, ap p (sym (order_eq (name_of c) x.id e)) ∙ h, e) (part_hit_in c xs h)
      go Ordering.gt e true f ih = rw (e, f, e) (ap (λ (l : List Version). x ∷ l) ih)
      go Ordering.gt e false f ih = rw (e, f) ih
