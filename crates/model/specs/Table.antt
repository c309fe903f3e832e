-- The version table: a list of versions, strictly rising by TN and then version number; what an event may change in it. [T2]
-- Assumes nothing.
use Prim.Native.Nat.{ℕ, compare, Ordering}
use Rattle.std.specs.Prelude.{Bool, List, [], ◌∷◌, eqb}
use Rattle.std.proofs.Math.Option.{Option, none, some}
use Rattle.model.specs.Basics.{keep}
use Rattle.model.specs.declared.Id.{Id}
use Rattle.model.specs.declared.Version.{Version}

-- ---- names, by TN and then number

abbrev pub lex : Ordering → Ordering → Ordering
lex Ordering.lt o = Ordering.lt
lex Ordering.eq o = o
lex Ordering.gt o = Ordering.gt

unfoldable pub order : Id → Id → Ordering
order a b = lex (compare a.tn.0 b.tn.0) (compare a.number b.number)

abbrev pub sel {ℓ} : {A : Type ℓ} → Ordering → A → A → A → A
sel Ordering.lt a b c = a
sel Ordering.eq a b c = b
sel Ordering.gt a b c = c

-- ---- the rows of one line, and the version of a name

abbrev pub in_line : (ℕ → ℕ) → ℕ → Id → Bool
in_line line l k = eqb (line k.tn.0) l

abbrev pub rows_of : (ℕ → ℕ) → ℕ → List Version → List Version
rows_of line l t = keep (λ (v : Version). in_line line l v.id) t

abbrev pub find : Id → List Version → Option Version
find k [] = none
find k (x ∷ xs) = sel (order k x.id) none (some x) (find k xs)

-- ---- changes

-- A version is put in the place of the one that has its name (no such: nothing), or added where it belongs, or a name is struck out, and
-- later rows move up.
pub data Change : Type 0 where
  put : Version → Change
  add : Version → Change
  strike : Id → Change

abbrev pub name_of : Change → Id
name_of (put v) = v.id
name_of (add v) = v.id
name_of (strike k) = k

-- the name is not in the table, and would stand first
abbrev pub miss : Change → List Version → List Version
miss (put v) t = t
miss (add v) t = v ∷ t
miss (strike k) t = t

-- the name is the first of the table, whose other rows are t
abbrev pub hit : Change → List Version → List Version
hit (put v) t = v ∷ t
hit (add v) t = v ∷ t
hit (strike k) t = t

abbrev pub change : Change → List Version → List Version
change c [] = miss c []
change c (x ∷ xs) = sel (order (name_of c) x.id) (miss c (x ∷ xs)) (hit c xs) (x ∷ change c xs)

abbrev pub changes : List Change → List Version → List Version
changes [] t = t
changes (c ∷ cs) t = changes cs (change c t)
