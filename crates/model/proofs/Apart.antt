-- Events of different numbers commute, for any rule that is local: it answers with changes and messages of the event's own number, and
-- adds at most one row.
-- Assumes nothing.
use mathlib.Core.Path.{◌≡◌, refl, sym, ap, ap₂, ◌∙◌}
use Prim.Native.Nat.{ℕ, ◌+◌, ◌≤◌}
use mathlib.Core.Bool.{Bool, true, false, ◌&&◌}
use mathlib.Core.List.{List, [], ◌∷◌, ◌++◌, append-nil}
use lib.Dec.{eqb, ltb}
use lib.ListN.{length}
use native.Mathlib.Omega.{arith}
use borrow.Author.Tests.{eqb-true, eqb-false, eq-eqb, ne_eqb, lt-ltb}
use Rattle.model.specs.Basics.{All, none, with, iff, keep}
use Rattle.model.specs.Table.{Change, name_of, change, changes, in_line, rows_of}
use Rattle.model.specs.Given.{Result}
use Rattle.model.specs.Step.{Step, after}
use Rattle.model.specs.Exchange.{is_for, mail_of}
use Rattle.model.proofs.Lists.{keep_append, keep_none}
use Rattle.model.proofs.TableLaws.{adds, Rising, rising-change, change_comm, length_changes, part_out, part_in}
use Rattle.model.proofs.Exchanges.{Commutes, reads}
use Rattle.model.specs.declared.Id.{Id}
use Rattle.model.specs.declared.Version.{Version}
use Rattle.model.specs.declared.Event.{Event}
use Rattle.model.specs.declared.Message.{Message}

-- a rule sees whether there is a free row, the event, and the rows of its number
abbrev pub Rule : Type 0
Rule = Bool → Event → List Version → Result

-- an event on a table of `cap` rows, by a rule
abbrev pub step_by : (ℕ → ℕ) → Rule → ℕ → Step
step_by line_of rule cap e t = rule (ltb (length t) cap) e (rows_of line_of (line_of e.tn.0) t)

module _ (line_of : ℕ → ℕ) where
  abbrev pub Near : ℕ → List Change → Type 0
  Near l cs = All (λ (c : Change). line_of (name_of c).tn.0 ≡ l) cs

  abbrev pub About : ℕ → List Message → Type 0
  About l ms = All (λ (m : Message). line_of m.id.tn.0 ≡ l) ms

  abbrev pub Rows : ℕ → List Version → Type 0
  Rows l r = All (λ (v : Version). line_of v.id.tn.0 ≡ l) r

  pub rows_rows : (l : ℕ) (t : List Version) → Rows l (rows_of line_of l t)
  rows_rows l [] = none
  rows_rows l (x ∷ xs) = go (eqb (line_of x.id.tn.0) l) refl (rows_rows l xs)
    where
      go : (b : Bool) → eqb (line_of x.id.tn.0) l ≡ b → Rows l (rows_of line_of l xs) → Rows l (rows_of line_of l (x ∷ xs))
      go true e ih = rw e (with (eqb-true (line_of x.id.tn.0) l e) ih)
      go false e ih = rw e ih

  -- an answer that keeps to the line l
  pub record Fine (l : ℕ) (a : Result) : Type 0 where
    pub near : Near l a.does
    pub about : About l a.sent
    pub grows : adds a.does ≤ 1

  abbrev pub Local : Rule → Type 0
  Local rule = (b : Bool) (e : Event) (r : List Version) → Rows (line_of e.tn.0) r → Fine (line_of e.tn.0) (rule b e r)

  -- ---- changes of one line, and the rows of another

  pub rows_out : (l m : ℕ) (cs : List Change) (t : List Version) → Near l cs → (l ≡ m → ⊥)
      → rows_of line_of m (changes cs t) ≡ rows_of line_of m t
  rows_out l m [] t none n = refl
  rows_out l m (c ∷ cs) t (with h hs) n =
      rows_out l m cs (change c t) hs n
      ∙ part_out (in_line line_of m) c t (ne_eqb (line_of (name_of c).tn.0) m (λ e. n (sym h ∙ e)))

  pub rows_in_lem : (l : ℕ) (cs : List Change) (t : List Version) → Near l cs → Rising t
      → rows_of line_of l (changes cs t) ≡ changes cs (rows_of line_of l t)
  rows_in_lem l [] t none r = refl
  rows_in_lem l (c ∷ cs) t (with h hs) r =
      rows_in_lem l cs (change c t) hs (rising-change c t r)
      ∙ ap (changes cs) (part_in (in_line line_of l) c t (eq-eqb (line_of (name_of c).tn.0) l h) r)

  one_all : (l m : ℕ) (c : Change) (ds : List Change) (t : List Version) → line_of (name_of c).tn.0 ≡ l → Near m ds → (l ≡ m → ⊥) → Rising t
      → change c (changes ds t) ≡ changes ds (change c t)
  one_all l m c [] t h none n r = refl
  one_all l m c (d ∷ ds) t h (with k ks) n r =
      one_all l m c ds (change d t) h ks n (rising-change d t r)
      ∙ ap (changes ds) (change_comm c d t (λ e. n (sym h ∙ ap (λ (i : Id). line_of i.tn.0) e ∙ k)) r)

  pub all-all : (l m : ℕ) (cs ds : List Change) (t : List Version) → Near l cs → Near m ds → (l ≡ m → ⊥) → Rising t
      → changes ds (changes cs t) ≡ changes cs (changes ds t)
  all-all l m [] ds t none k n r = refl
  all-all l m (c ∷ cs) ds t (with h hs) k n r =
      all-all l m cs ds (change c t) hs k n (rising-change c t r) ∙ ap (changes cs) (sym (one_all l m c ds t h k n r))

  -- ---- mail of two lines

  and_false : (a b c : Bool) → (c ≡ true → ⊥) → (a && b && c) ≡ false
  and_false true true true h = absurd (h refl)
  and_false true true false h = refl
  and_false true false c h = refl
  and_false false b c h = refl

  abbrev mail : Bool → ℕ → ℕ → List Message → List Message
  mail x s n ms = mail_of line_of x s n ms

  no_mail : (l : ℕ) (ms : List Message) (x : Bool) (s n : ℕ) → About l ms → (n ≡ l → ⊥) → mail x s n ms ≡ []
  no_mail l ms x s n h k =
      keep_none (is_for line_of x s n) (λ (m : Message). line_of m.id.tn.0 ≡ l) ms h
      (λ m e. and_false (iff m.local x) (eqb m.provider s) (eqb (line_of m.id.tn.0) n)
      (λ q. k (sym (eqb-true (line_of m.id.tn.0) n q) ∙ e)))

  mail_comm : (l m : ℕ) (a b : List Message) (x : Bool) (s n : ℕ) → About l a → About m b → (l ≡ m → ⊥)
      → mail x s n (a ++ b) ≡ mail x s n (b ++ a)
  mail_comm l m a b x s n h k ne = keep_append (is_for line_of x s n) a b ∙ go (eqb n l) refl ∙ sym (keep_append (is_for line_of x s n) b a)
    where
      go : (q : Bool) → eqb n l ≡ q → mail x s n a ++ mail x s n b ≡ mail x s n b ++ mail x s n a
      go true e = rw (no_mail m b x s n k (λ z. ne (sym (eqb-true n l e) ∙ z))) (append-nil (mail x s n a))
      go false e = rw (no_mail l a x s n h (eqb-false n l e)) (sym (append-nil (mail x s n b)))

  -- ---- two events of different lines
  module _ (rule : Rule) (loc : Local rule) (cap : ℕ) where
    pub fine : (e : Event) (t : List Version) → Fine (line_of e.tn.0) (step_by line_of rule cap e t)
    fine e t = loc (ltb (length t) cap) e (rows_of line_of (line_of e.tn.0) t) (rows_rows (line_of e.tn.0) t)

    pub grown : (e : Event) (t : List Version) → length (after (step_by line_of rule cap) e t) ≤ length t + 1
    grown e t = omega (arith, length_changes (step_by line_of rule cap e t).does t, (fine e t).grows)

    -- an event of another line has not changed what this event sees
    unseen : (e f : Event) (t : List Version) → (line_of e.tn.0 ≡ line_of f.tn.0 → ⊥) → length t + 2 ≤ cap
        → step_by line_of rule cap f (after (step_by line_of rule cap) e t) ≡ step_by line_of rule cap f t
    unseen e f t n h =
        ap₂ (λ (b : Bool) (r : List Version). rule b f r)
        (lt-ltb (length (after (step_by line_of rule cap) e t)) cap (omega (arith, grown e t)) ∙ sym (lt-ltb (length t) cap (omega arith)))
        (rows_out (line_of e.tn.0) (line_of f.tn.0) (step_by line_of rule cap e t).does t (fine e t).near n)

    pub apart : (e f : Event) (t : List Version) → (line_of e.tn.0 ≡ line_of f.tn.0 → ⊥) → Rising t → length t + 2 ≤ cap
        → Commutes line_of (step_by line_of rule cap) e f t
    apart e f t n r h =
        let E : Result = step_by line_of rule cap e t in
        let F : Result = step_by line_of rule cap f t in
        let p : step_by line_of rule cap f (after (step_by line_of rule cap) e t) ≡ F = unseen e f t n h in
        let q : step_by line_of rule cap e (after (step_by line_of rule cap) f t) ≡ E = unseen f e t (λ x. n (sym x)) h in
        record {
          states = ap (λ (x : Result). changes x.does (changes E.does t)) p
              ∙ all-all (line_of e.tn.0) (line_of f.tn.0) E.does F.does t (fine e t).near (fine f t).near n r
              ∙ ap (λ (x : Result). changes x.does (changes F.does t)) (sym q);
          first = ap (λ (x : Result). x.out) q;
          second = ap (λ (x : Result). x.out) p;
          mail = λ a. ap (λ (x : Result). keep (reads line_of a) (E.sent ++ x.sent)) p
              ∙ mail_comm (line_of e.tn.0) (line_of f.tn.0) E.sent F.sent a.local a.provider a.line
              (fine e t).about (fine f t).about n
              ∙ ap (λ (x : Result). keep (reads line_of a) (F.sent ++ x.sent)) (sym q);
        }
