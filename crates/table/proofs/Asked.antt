-- What a caller cites besides of a table's lists: a fresh name, the other live version. Assumes nothing.
use mathlib.Core.Path.{◌≡◌, refl, sym, ap, ◌∙◌}
use mathlib.Core.Bool.{Bool, true, false, cond}
use mathlib.Core.Option.{none, some}
use mathlib.Core.List.{List, [], ◌∷◌}
use Prim.Native.Nat.{ℕ, ◌≤◌, ◌<◌, max, Ordering}
use native.Mathlib.Omega.{arith}
use borrow.Author.Tests.{eq-eqb}
use lib.Dec.{eqb}
use lib.ListN.{length}
use Rattle.model.specs.declared.Id.{Id}
use Rattle.model.specs.declared.Version.{Version}
use Rattle.model.specs.Basics.{keep, first, largest}
use Rattle.model.specs.Table.{order, sel, rows_of, find}
use Rattle.model.specs.Given.{other_than, besides}
use Rattle.model.specs.Sound.{live, count}
use Rattle.model.proofs.Order.{order_eq}
use Rattle.table.specs.Survey.{list_of}

-- ---- a number above the newest is fresh

pub fresh_absent : (line : ℕ → ℕ) (k : Id) (t : List Version)
    → largest (λ (v : Version). v.id.number) (rows_of line (line k.tn.0) t) < k.number
    → find k t ≡ none
fresh_absent line k [] h = refl
fresh_absent line k (v ∷ vs) h = go (order k v.id) refl (eqb (line v.id.tn.0) (line k.tn.0)) refl h (fresh_absent line k vs)
  where
    newest : List Version → ℕ
    newest l = largest (λ (v : Version). v.id.number) l

    r : List Version
    r = rows_of line (line k.tn.0) vs

    go : (o : Ordering) → order k v.id ≡ o → (b : Bool) → eqb (line v.id.tn.0) (line k.tn.0) ≡ b
        → newest (cond b (v ∷ r) r) < k.number
        → (newest r < k.number → find k vs ≡ none) → sel o none (some v) (find k vs) ≡ none
    go Ordering.lt e b q l ih = refl
    go Ordering.eq e true q l ih =
        let n : v.id.number ≡ k.number = ap (λ (j : Id). j.number) (sym (order_eq k v.id e)) in
        let m : max v.id.number (newest r) < k.number = l in
        absurd (omega arith)
    go Ordering.eq e false q l ih =
        let t : line v.id.tn.0 ≡ line k.tn.0 = ap (λ (j : Id). line j.tn.0) (sym (order_eq k v.id e)) in
        absurd (let z : ◌≡◌ {A = ℕ} 0 1 = cc (sym q ∙ eq-eqb _ _ t) in omega arith)
    go Ordering.gt e true q l ih =
        let m : max v.id.number (newest r) < k.number = l in
        ih (omega arith)
    go Ordering.gt e false q l ih = ih l

-- ---- at most one live version

pub keep_one : (p : Version → Bool) (l : List Version) → count p l ≤ 1 → keep p l ≡ list_of (first p l)
keep_one p [] h = refl
keep_one p (v ∷ vs) h = go (p v) h (keep_one p vs)
  where
    none_left : (l : List Version) → length l ≤ 0 → l ≡ []
    none_left [] z = refl
    none_left (x ∷ xs) z = absurd (omega arith)

    go : (b : Bool) → length (cond b (v ∷ keep p vs) (keep p vs)) ≤ 1 → (count p vs ≤ 1 → keep p vs ≡ list_of (first p vs))
        → cond b (v ∷ keep p vs) (keep p vs) ≡ list_of (cond b (some v) (first p vs))
    go true z ih = ap (λ (l : List Version). v ∷ l) (none_left (keep p vs) (omega arith))
    go false z ih = ih z

count_kept : (p q : Version → Bool) (l : List Version) → count p (keep q l) ≤ count p l
count_kept p q [] = omega arith
count_kept p q (v ∷ vs) = go (q v) (p v) refl (count_kept p q vs)
  where
    go : (a b : Bool) → p v ≡ b → count p (keep q vs) ≤ count p vs
        → count p (cond a (v ∷ keep q vs) (keep q vs)) ≤ length (cond b (v ∷ keep p vs) (keep p vs))
    go true true e h = rw e (omega arith)
    go true false e h = rw e h
    go false true e h = omega arith
    go false false e h = h

-- of the other versions of a line, those that are live are the first that is, or none
pub besides_live : (k : ℕ) (r : List Version) → count live r ≤ 1 → keep live (besides k r) ≡ list_of (first live (besides k r))
besides_live k r h = keep_one live (besides k r) (omega (arith, count_kept live (λ (v : Version). other_than k v.id) r, h))
