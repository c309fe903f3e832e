-- Due dates have to agree, request A4: where 18 holds no other refusal over the worked version does, and what an accepted concurrence
-- leaves.
-- Assumes nothing.
use mathlib.Core.Path.{◌≡◌, refl, sym, ◌∙◌}
use Prim.Native.Nat.{ℕ}
use mathlib.Core.Bool.{Bool, true, false, not, ◌&&◌}
use mathlib.Core.Option.{Option, none as nothing, some}
use mathlib.Core.List.{List, [], ◌∷◌}
use lib.Dec.{eqb}
use borrow.Author.Tests.{eqb-true, eq-eqb, not-false}
use Rattle.model.specs.Basics.{holds}
use Rattle.model.specs.Table.{put, changes, find, rows_of}
use Rattle.model.specs.Record.{is_create, well_formed}
use Rattle.model.specs.Outcomes.{is_done, create_order}
use Rattle.model.specs.Given.{Given, Result, accept, worked_one}
use Rattle.model.specs.Sound.{worked}
use Rattle.model.specs.Tray.{restated_told}
use Rattle.model.specs.Creates.{by_new, fits, first_due, agrees, concurred, creates}
use Rattle.model.specs.Refusals.{unfit, another_due, exhausted, full, refuses}
use Rattle.model.specs.Step.{Setting, line, given, accepted, judged, unsound, step, step_of}
use Rattle.model.proofs.Lists.{clash, and_l, both_true, all_keep, all_first}
use Rattle.model.proofs.TableLaws.{find-put}
use Rattle.model.proofs.SoundLines.{found_self}
use Rattle.model.proofs.Stays.{concurred_stays}
use Rattle.model.proofs.Ways.{by_test, by_order}
use Rattle.model.proofs.Outcomes.{refusal_passed}
use Rattle.model.proofs.Reordering.{sane_of}
use Rattle.model.specs.declared.Event.{Event}
use Rattle.model.specs.declared.Version.{Version}
use Rattle.model.specs.declared.Outcome.TheVariants.{Unfit, AnotherDue, Exhausted, Full}

-- ---- 18 and the other refusals over the worked version

abbrev Alone : Given → Type 0
Alone g = (refuses g Unfit ≡ false) × (refuses g Exhausted ≡ false) × (refuses g Full ≡ false)

pub alone : (g : Given) → refuses g AnotherDue ≡ true → Alone g
unfolding unfit another_due exhausted full
alone g h = go (worked_one g.rows) refl
  where
    go : (o : Option Version) → worked_one g.rows ≡ o → Alone g
    go nothing q = clash (rw q at h)
    go (some v) q =
        let fit : fits g.event v ≡ true = and_l (fits g.event v) (not (agrees g.event v)) (rw q at h) in
        (rw (q, fit), rw q, rw q)

-- ---- an accepted concurrence

-- both due dates are d
abbrev due_on : ℕ → Version → Bool
due_on d v = eqb v.new.due d && eqb v.old.due d

both_due : (e : Event) (v : Version) → agrees e v ≡ true → due_on e.due (concurred e v) ≡ true
unfolding concurred
both_due e v h = go (by_new e) refl
  where
    own : eqb e.due e.due ≡ true
    own = eq-eqb e.due e.due refl

    first : eqb (first_due e v) e.due ≡ true
    first = eq-eqb (first_due e v) e.due (sym (eqb-true e.due (first_due e v) h))

    go : (b : Bool) → by_new e ≡ b → due_on e.due (concurred e v) ≡ true
    go true q = rw q (both_true _ _ own (rw q at first))
    go false q = rw q (both_true _ _ (rw q at first) own)

module _ (s : Setting) (e : Event) (t : List Version) (v : Version) (c : is_create e.kind ≡ true)
    (w : worked_one (rows_of (line s) (line s e.tn.0) t) ≡ some v) where
  abbrev G : Given
  G = given s e t

  agreed : is_done (judged G) ≡ true → agrees e v ≡ true
  unfolding unfit another_due
  agreed d = not-false (agrees e v) (rw (w, fit) at (refusal_passed (refuses G) create_order AnotherDue refl refl (rw c at d)))
    where
      fit : fits e v ≡ true
      fit = not-false (fits e v) (rw w at (refusal_passed (refuses G) create_order Unfit refl refl (rw c at d)))

  does : accepted G ≡ accept (restated_told v (concurred e v)) (put (concurred e v) ∷ [])
  unfolding accepted creates
  does = rw (c, w)

  stands : unsound s t ≡ false → find v.id t ≡ some v
  stands u =
      all_first {P = λ (x : Version). find x.id t ≡ some x} worked v (all_keep _ (found_self t (sane_of s t u).table.sound.rising)) w

  -- what is to be shown of a result
  abbrev Agrees : Result → Type 0
  Agrees x = is_done x.out ≡ true → holds (find v.id (changes x.does t)) (due_on e.due) ≡ true

  pub concurs : Agrees (step_of s e t)
  unfolding step
  concurs =
      by_test Agrees (unsound s t) (λ _ d. clash d)
      (λ u. by_test Agrees (well_formed e)
      (λ _. by_order Agrees G
      (λ j _. rw (does, find-put v.id t v (concurred e v) (stands u) (concurred_stays e v).name) (both_due e v (agreed j)))
      (λ j d. clash (sym j ∙ d))) (λ _ d. clash d))
