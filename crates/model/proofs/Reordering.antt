-- Demand 3, from its parts.
-- Assumes nothing.
use mathlib.Core.Path.{◌≡◌, refl, sym, ap, ◌∙◌}
use Prim.Native.Nat.{ℕ, suc, ◌+◌, ◌≤◌}
use mathlib.Core.Bool.{Bool, true, false, not}
use mathlib.Core.List.{List, [], ◌∷◌, ◌++◌}
use lib.Dec.{leb}
use lib.ListN.{length, get_or}
use native.Mathlib.Omega.{arith}
use borrow.Author.Tests.{leb-true, not-false}
use Rattle.model.specs.Basics.{none, with}
use Rattle.model.specs.Books.{sound_books, sound_retries}
use Rattle.model.specs.Sound.{sound_table}
use Rattle.model.specs.Step.{Setting, Step, line, unsound, PLACES, step, step_of, after, final, outcomes, messages}
use Rattle.model.specs.Exchange.{Answers, Exchangeable, lines, answers, May, Same, reorder, mail_of, Demand3}
use Rattle.model.proofs.Lists.{conj_at, conj_all}
use Rattle.model.proofs.TableLaws.{Rising, rising_changes}
use Rattle.model.proofs.Exchanges.{Commutes, stepping, reads, same_events, all}
use Rattle.model.proofs.Apart.{step_by, grown, apart}
use Rattle.model.proofs.Locality.{rule_in, local}
use Rattle.model.proofs.Replies.{replies_commute}
use Rattle.model.proofs.SoundTables.{SoundIn, table_says, says_table, sound_rules}
use Rattle.model.specs.declared.Version.{Version}
use Rattle.model.specs.declared.Event.{Event}
use Rattle.model.specs.declared.Message.{Message}
use Rattle.model.specs.declared.Outcome.{Outcome}

-- the step without the test for outcome 1
abbrev pub bare : Setting → Step
bare s = step_by (line s) (rule_in s) s.rows

-- ---- without that test

-- the table rises, and has as many free rows as events come
record Good (cap n : ℕ) (t : List Version) : Type 0 where
  rising : Rising t
  room : length t + n ≤ cap

module _ (s : Setting) (small : s.most ≤ 7) where
  next : (n : ℕ) (e : Event) (t : List Version) → Good s.rows (suc n) t → Good s.rows n (after (bare s) e t)
  next n e t g = record {
    rising = rising_changes (bare s e t).does t g.rising;
    room = let h : length t + suc n ≤ s.rows = g.room in omega (arith, grown (line s) (rule_in s) (local (line s) s) s.rows e t);
  }

  -- of different numbers: this knows of the rules only that they are local
  commute_lines : (n : ℕ) (e f : Event) (t : List Version) → (line s e.tn.0 ≡ line s f.tn.0 → ⊥) → Good s.rows (suc (suc n)) t
      → Commutes (line s) (bare s) e f t
  commute_lines n e f t d g =
      apart (line s) (rule_in s) (local (line s) s) s.rows e f t d g.rising
      (let h : length t + suc (suc n) ≤ s.rows = g.room in omega arith)

  -- answers for one version: this knows the rule of answers
  commute_answers : (n : ℕ) (e f : Event) (t : List Version) → Answers (line s) e f → Good s.rows (suc (suc n)) t
      → Commutes (line s) (bare s) e f t
  commute_answers n e f t a g =
      replies_commute (line s) s small e.version (line s e.tn.0) t g.rising e f a.first a.second refl
      (sym a.versions) refl
      (sym a.lines) a.systems

  commute : (n : ℕ) (e f : Event) (t : List Version) → Exchangeable (line s) e f → Good s.rows (suc (suc n)) t
      → Commutes (line s) (bare s) e f t
  commute n e f t (lines d) g = commute_lines n e f t d g
  commute n e f t (answers a) g = commute_answers n e f t a g

  bare-same : (ns : List ℕ) (es : List Event) (t : List Version) → Rising t → length t + length es ≤ s.rows
      → May (Exchangeable (line s)) ns es → Same (line s) (bare s) ns es t
  bare-same ns es t r room may =
      same_events (line s) (bare s) ns es t
      (all (stepping (bare s)) (reads (line s)) (Good s.rows) next (Exchangeable (line s)) commute ns es t may
      (record { rising = r; room = room }))

-- ---- with it: where every step keeps a table that passes, the test changes nothing

-- what outcome 1 asks
pub record Sane (s : Setting) (t : List Version) : Type 0 where
  pub table : SoundIn (line s) s.rows t
  pub books : sound_books s.books ≡ true
  pub retries : sound_retries s.most ≡ true
  pub places : leb PLACES s.places ≡ true

abbrev sane_clauses : Setting → List Version → List Bool
sane_clauses s t = sound_table (line s) s.rows t ∷ sound_books s.books ∷ sound_retries s.most ∷ leb PLACES s.places ∷ []

pub sane_of : (s : Setting) (t : List Version) → unsound s t ≡ false → Sane s t
unfolding unsound
sane_of s t h =
    let of : (i : ℕ) → get_or (sane_clauses s t) i true ≡ true = conj_at (sane_clauses s t) (not-false _ h) in
    record { table = table_says (line s) s.rows t (of 0); books = of 1; retries = of 2; places = of 3 }

pub of_sane : (s : Setting) (t : List Version) → Sane s t → unsound s t ≡ false
unfolding unsound
of_sane s t r = ap not (conj_all (sane_clauses s t)
    (with (says_table (line s) s.rows t r.table) (with r.books (with r.retries (with r.places none)))))

pub bare_keeps : (s : Setting) (e : Event) (t : List Version) → unsound s t ≡ false → unsound s (after (bare s) e t) ≡ false
bare_keeps s e t h =
    let r : Sane s t = sane_of s t h in
    of_sane s (after (bare s) e t)
    (record { table = sound_rules (line s) s r.retries e t r.table; books = r.books; retries = r.retries; places = r.places })

pub step_is : (s : Setting) (e : Event) (t : List Version) → unsound s t ≡ false → step_of s e t ≡ bare s e t
unfolding step
step_is s e t h = rw h

module _ (s : Setting) where
  same_final : (es : List Event) (t : List Version) → unsound s t ≡ false → final (step_of s) es t ≡ final (bare s) es t
  same_final [] t h = refl
  same_final (e ∷ es) t h = rw (step_is s e t h) (same_final es (after (bare s) e t) (bare_keeps s e t h))

  same_outcomes : (es : List Event) (t : List Version) → unsound s t ≡ false → outcomes (step_of s) es t ≡ outcomes (bare s) es t
  same_outcomes [] t h = refl
  same_outcomes (e ∷ es) t h =
      rw (step_is s e t h) (ap (λ (l : List Outcome). (bare s e t).out ∷ l) (same_outcomes es (after (bare s) e t) (bare_keeps s e t h)))

  same_messages : (es : List Event) (t : List Version) → unsound s t ≡ false → messages (step_of s) es t ≡ messages (bare s) es t
  same_messages [] t h = refl
  same_messages (e ∷ es) t h =
      rw (step_is s e t h) (ap (λ (l : List Message). (bare s e t).sent ++ l) (same_messages es (after (bare s) e t) (bare_keeps s e t h)))

  pub same_guarded : (ns : List ℕ) (es : List Event) (t : List Version) → unsound s t ≡ false → Same (line s) (bare s) ns es t
      → Same (line s) (step_of s) ns es t
  same_guarded ns es t h r = record {
    tables = same_final (reorder ns es) t h ∙ r.tables ∙ sym (same_final es t h);
    outs = same_outcomes (reorder ns es) t h ∙ r.outs ∙ ap (reorder ns) (sym (same_outcomes es t h));
    mail = λ x p l. ap (mail_of (line s) x p l) (same_messages (reorder ns es) t h) ∙ r.mail x p l
        ∙ ap (mail_of (line s) x p l) (sym (same_messages es t h));
  }

pub reordering : Demand3
reordering s ns es t p may =
    let r : Sane s t = sane_of s t p.sound in
    same_guarded s ns es t p.sound (bare-same s (leb-true s.most 7 r.retries) ns es t r.table.sound.rising p.free may)
