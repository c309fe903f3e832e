-- What the code judges over the survey is what the model's orders give.
-- Assumes nothing.
use mathlib.Core.Path.{◌≡◌, refl, sym, subst}
use Prim.Native.Nat.{ℕ}
use mathlib.Core.Bool.{Bool, true, false, or-false}
use mathlib.Core.Option.{Option, none, some}
use mathlib.Core.List.{List}
use lib.Dec.{eqb, ltb}
use borrow.Author.Tests.{eqb-true}
use Rattle.model.specs.Basics.{holds}
use Rattle.model.specs.Numbers.{code_of}
use Rattle.model.specs.Books.{owner_of}
use Rattle.model.specs.Record.{is_create, is_answer}
use Rattle.model.specs.Outcomes.{judge, order_of}
use Rattle.model.specs.Given.{Given, found, last_stamp}
use Rattle.model.specs.Creates.{current_for}
use Rattle.model.specs.Refusals.{absent, before_due, early, busy, busy_with, unawaited, not_current, unfit, another_due, exhausted, full}
use Rattle.model.specs.Refusals.{refuses}
use Rattle.model.proofs.Lists.{clash}
use Rattle.model.specs.declared.Event.{Event}
use Rattle.model.specs.declared.Version.{Version}
use Rattle.table.specs.Survey.{Surveyed}
use Rattle.table.proofs.Surveys.{live_of, worked_of}
use Rattle.table.specs.declared.survey.Facts.{Facts}
use Rattle.judge.specs.Judged.{create_for, unknown_by, answer_for, other_for}

-- ---- the kinds

create_answer : (k : ℕ) → is_create k ≡ true → (is_answer k ≡ false) × (eqb k 5 ≡ false)
create_answer k h = go (eqb k 1) refl (eqb k 2) refl
  where
    at : (n : ℕ) → eqb k n ≡ true → (is_answer n ≡ false) × (eqb n 5 ≡ false) → (is_answer k ≡ false) × (eqb k 5 ≡ false)
    at n e p = subst (λ (j : ℕ). (is_answer j ≡ false) × (eqb j 5 ≡ false)) (sym (eqb-true k n e)) p

    go : (a : Bool) → eqb k 1 ≡ a → (b : Bool) → eqb k 2 ≡ b → (is_answer k ≡ false) × (eqb k 5 ≡ false)
    go true p b q = at 1 p (refl, refl)
    go false p true q = at 2 q (refl, refl)
    go false p false q = clash (rw (p, q) at h)

-- no due date binds any kind but 5
no_due : (e : Event) (o : Option Version) → eqb e.kind 5 ≡ false → holds o (before_due e) ≡ false
no_due e none h = refl
no_due e (some v) h = rw h

-- ---- the three orders

module _ (t : List Version) (g : Given) (f : Facts) (s : Surveyed t g.rows g.event.version (is_create g.event.kind) f) where
  pub create_judged : is_create g.event.kind ≡ true
      → create_for g.event (absent g.books g.event) (owner_of g.books (code_of g.event.tn)) f g.free ≡ judge (refuses g)
      (order_of g.event.kind)
  unfolding create_for early busy not_current unfit another_due exhausted full current_for
  create_judged k =
      let c = create_answer g.event.kind k in
      rw (
        k,
        k,
        c.0,
        no_due g.event (found g) c.1,
        or-false (ltb g.event.time (last_stamp g.rows)),
        s.newest,
        s.stamp,
        s.sending,
        (live_of t g.rows g.event.version _ f s k).is,
        (worked_of t g.rows g.event.version _ f s k).is,
      )

  pub unknown_judged : is_create g.event.kind ≡ false → found g ≡ none
      → unknown_by (absent g.books g.event) ≡ judge (refuses g) (order_of g.event.kind)
  unknown_judged c q = go (is_answer g.event.kind) refl
    where
      go : (b : Bool) → is_answer g.event.kind ≡ b
          → unknown_by (absent g.books g.event) ≡ judge (refuses g) (order_of g.event.kind)
      go true a = rw (c, a, q)
      go false a = rw (c, a, q)

  pub answer_judged : (v : Version) → is_create g.event.kind ≡ false → is_answer g.event.kind ≡ true → found g ≡ some v
      → answer_for g.event (absent g.books g.event) v ≡ judge (refuses g) (order_of g.event.kind)
  unfolding early unawaited
  answer_judged v c a q = rw (c, a, q, a)

  pub other_judged : (v : Version) → is_create g.event.kind ≡ false → is_answer g.event.kind ≡ false → found g ≡ some v
      → other_for g.event (absent g.books g.event) f v ≡ judge (refuses g) (order_of g.event.kind)
  unfolding other_for early busy busy_with unawaited
  other_judged v c a q = rw (c, a, q, c, a, s.newest, s.stamp, s.blocked)
