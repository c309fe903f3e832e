-- Setting, putting in and taking out at a place is the model's change of the table. Assumes nothing.
use mathlib.Core.Path.{◌≡◌, refl, sym, ap, ◌∙◌, subst}
use mathlib.Core.Logic.{⊎_elim}
use mathlib.Core.Option.{none}
use mathlib.Core.List.{List, [], ◌∷◌}
use Prim.Native.Nat.{Ordering}
use Prim.Native.Nat.{ℕ, zero, suc, ◌≤◌, ◌<◌}
use native.Mathlib.Nat.{not-suc-le-zero, le_of_suc-le-suc, lt_trans}
use native.Mathlib.Omega.{arith}
use borrow.Author.Tests.{lt-ltb, le-ltb}
use lib.ListN.{length, set}
use Rattle.model.specs.declared.Id.{Id}
use Rattle.model.specs.declared.Version.{Version}
use Rattle.model.specs.Table.{order, find, change, put, add, strike}
use Rattle.model.proofs.Order.{order_self}
use Rattle.row.specs.Layout.{key_of}
use Rattle.rows.specs.Table.{insert_at, remove_at}
use Rattle.table.specs.Find.{lower_of, key_for, place_in}
use Rattle.table.specs.Survey.{version_at}
use Rattle.rows.proofs.Sounds.{AllSound, RisingFrom, number_lt, Lower, Equal, Higher, order_view, key_higher}

-- each number fits its bits
abbrev pub Numbered : List Version → Type 0
Numbered [] = Unit {0}
Numbered (v ∷ vs) = (v.id.number < 65536) × Numbered vs

pub sound_numbered : (vs : List Version) → AllSound vs → Numbered vs
sound_numbered [] a = tt
sound_numbered (v ∷ vs) a = (number_lt v a.0, sound_numbered vs a.1)

above_at : (vs : List Version) (k i : ℕ) → RisingFrom k vs → i < length vs → k < key_for (version_at vs i)
above_at [] k i r h = absurd (not-suc-le-zero h)
above_at (v ∷ vs) k zero r h = r.0
above_at (v ∷ vs) k (suc i) r h = lt_trans r.0 (above_at vs (key_for v) i r.1 (le_of_suc-le-suc h))

-- keys rise with places
pub rises_at : (vs : List Version) (k i j : ℕ) → RisingFrom k vs → i < j → j < length vs
    → key_for (version_at vs i) < key_for (version_at vs j)
rises_at [] k i j r l h = absurd (not-suc-le-zero h)
rises_at (v ∷ vs) k i zero r l h = absurd (not-suc-le-zero l)
rises_at (v ∷ vs) k zero (suc j) r l h = above_at vs (key_for v) j r.1 (le_of_suc-le-suc h)
rises_at (v ∷ vs) k (suc i) (suc j) r l h = rises_at vs (key_for v) i j r.1 (le_of_suc-le-suc l) (le_of_suc-le-suc h)

number_at : (vs : List Version) (i : ℕ) → Numbered vs → i < length vs → (version_at vs i).id.number < 65536
number_at [] i n h = absurd (not-suc-le-zero h)
number_at (v ∷ vs) zero n h = n.0
number_at (v ∷ vs) (suc i) n h = number_at vs i n.1 (le_of_suc-le-suc h)

-- a name that stands further on is above the first
later : (x : Version) (xs : List Version) (k i : ℕ) (j : Id) → RisingFrom k (x ∷ xs) → Numbered (x ∷ xs) → i < length xs
    → (version_at xs i).id ≡ j → order j x.id ≡ Ordering.gt
later x xs k i j r n h e =
    let l : key_for x < key_of j = subst (λ (z : Id). key_for x < key_of z) e (above_at xs (key_for x) i r.1 h) in
    let b : j.number < 65536 = subst (λ (z : Id). z.number < 65536) e (number_at xs i n.1 h) in
    key_higher j x.id b n.0 l

same_name : (x : Version) (j : Id) → x.id ≡ j → order j x.id ≡ Ordering.eq
same_name x j e = ap (order j) e ∙ order_self j

pub set_puts : (vs : List Version) (k i : ℕ) (v : Version) → RisingFrom k vs → Numbered vs → i < length vs → (version_at vs i).id ≡ v.id
    → set vs i v ≡ change (put v) vs
set_puts [] k i v r n h e = absurd (not-suc-le-zero h)
set_puts (x ∷ xs) k zero v r n h e = rw (same_name x v.id e)
set_puts (x ∷ xs) k (suc i) v r n h e =
    let l : i < length xs = le_of_suc-le-suc h in
    rw (later x xs k i v.id r n l e) (ap (λ (l : List Version). x ∷ l) (set_puts xs (key_for x) i v r.1 n.1 l e))

pub remove_strikes : (vs : List Version) (k i : ℕ) (j : Id) → RisingFrom k vs → Numbered vs → i < length vs → (version_at vs i).id ≡ j
    → remove_at vs i ≡ change (strike j) vs
remove_strikes [] k i j r n h e = absurd (not-suc-le-zero h)
remove_strikes (x ∷ xs) k zero j r n h e = rw (same_name x j e)
remove_strikes (x ∷ xs) k (suc i) j r n h e =
    let l : i < length xs = le_of_suc-le-suc h in
    rw (later x xs k i j r n l e) (ap (λ (l : List Version). x ∷ l) (remove_strikes xs (key_for x) i j r.1 n.1 l e))

pub insert_adds : (vs : List Version) (v : Version) → Numbered vs → v.id.number < 65536 → find v.id vs ≡ none
    → insert_at vs (place_in (key_for v) vs) v ≡ change (add v) vs
unfolding place_in lower_of
insert_adds [] v n h f = refl
insert_adds (x ∷ xs) v n h f = ⊎_elim low (⊎_elim same (high (insert_adds xs v n.1 h))) (order_view v.id x.id h n.0)
  where
    low : Lower v.id x.id → insert_at (x ∷ xs) (place_in (key_for v) (x ∷ xs)) v ≡ change (add v) (x ∷ xs)
    low w =
        let l : key_for v ≤ key_for x = omega (arith, w.key) in
        rw (le-ltb (key_for x) (key_for v) l, w.is)

    same : Equal v.id x.id → insert_at (x ∷ xs) (place_in (key_for v) (x ∷ xs)) v ≡ change (add v) (x ∷ xs)
    same w = absurd (let z : ◌≡◌ {A = ℕ} 0 1 = cc (rw w.is at f) in omega arith)

    high : (find v.id xs ≡ none → insert_at xs (place_in (key_for v) xs) v ≡ change (add v) xs) → Higher v.id x.id
        → insert_at (x ∷ xs) (place_in (key_for v) (x ∷ xs)) v ≡ change (add v) (x ∷ xs)
    high ih w = rw (lt-ltb (key_for x) (key_for v) w.key, w.is) (ap (λ (l : List Version). x ∷ l) (ih (rw w.is at f)))

-- ---- a version of the same name keeps the order

pub rising-set : (vs : List Version) (k i : ℕ) (v : Version) → i < length vs → (version_at vs i).id ≡ v.id → RisingFrom k vs
    → RisingFrom k (set vs i v)
rising-set [] k i v l e r = absurd (not-suc-le-zero l)
rising-set (x ∷ xs) k zero v l e r = (subst (λ (j : Id). k < key_of j) e r.0, subst (λ (j : Id). RisingFrom (key_of j) xs) e r.1)
rising-set (x ∷ xs) k (suc i) v l e r = (r.0, rising-set xs (key_for x) i v (le_of_suc-le-suc l) e r.1)

pub numbered-set : (vs : List Version) (i : ℕ) (v : Version) → i < length vs → (version_at vs i).id ≡ v.id → Numbered vs
    → Numbered (set vs i v)
numbered-set [] i v l e n = absurd (not-suc-le-zero l)
numbered-set (x ∷ xs) zero v l e n = (subst (λ (j : Id). j.number < 65536) e n.0, n.1)
numbered-set (x ∷ xs) (suc i) v l e n = (n.0, numbered-set xs i v (le_of_suc-le-suc l) e n.1)

-- the names stay as they were
pub name_set : (vs : List Version) (i j : ℕ) (v : Version) → i < length vs → (version_at vs i).id ≡ v.id
    → (version_at (set vs i v) j).id ≡ (version_at vs j).id
name_set [] i j v l e = refl
name_set (x ∷ xs) zero zero v l e = sym e
name_set (x ∷ xs) zero (suc j) v l e = refl
name_set (x ∷ xs) (suc i) zero v l e = refl
name_set (x ∷ xs) (suc i) (suc j) v l e = name_set xs i j v (le_of_suc-le-suc l) e
