-- Moves inside one provider, request A14: what follows from who has created, and worked tables, event by event, of which Worked computes
-- every outcome, message and row. [A14.1 to A14.12]
-- Assumes nothing.
use mathlib.Core.Path.{◌≡◌, refl, sym, ◌∙◌}
use Prim.Native.Nat.{ℕ}
use mathlib.Core.Bool.{Bool, true, false, not, ◌||◌, or-true, and-false}
use mathlib.Core.List.{List, [], ◌∷◌}
use lib.Dec.{eqb}
use borrow.Author.Tests.{eqb-true, ne_eqb, not-true, not-false}
use Rattle.model.specs.Kinds as kind
use Rattle.model.specs.Table.{rows_of}
use Rattle.model.specs.Outcomes.{is_done, create_order}
use Rattle.model.specs.Given.{Given, Result}
use Rattle.model.specs.Refusals.{refuses}
use Rattle.model.specs.Standing.{lacks_standing, wrong_status}
use Rattle.model.specs.Step.{Setting, line, given as offered, judged, step_of}
use Rattle.model.specs.Creates.{old_absent, new_absent, no_broadcast}
use Rattle.model.specs.Record.{is_create, is_within, named}
use Rattle.model.specs.Sound.{pending, sending, active, old, canceled, activate}
use Rattle.model.proofs.Lists.{clash, none_true, and_l, and_r, back_equal}
use Rattle.model.proofs.Ways.{by_test, by_order}
use Rattle.model.proofs.Outcomes.{refusal_passed}
use Rattle.model.proofs.SoundRows.{row_of}
use Rattle.model.proofs.SoundOpened.{stands_old}
use Rattle.model.proofs.Typed.{new_fields, untyped, same_type, between}
use Rattle.model.proofs.Stages.{Example, nobody, only, both, asks12, event_as, event, tn, lrn, new_side, old_side}
use Rattle.model.proofs.Stages.{activation, success, row_as, row, new_by, old_by, cast, live_one, earlier}
use Rattle.model.proofs.Stages.{created_to, attributes_to, status_to, downloads_to, done, refused, given}
use Rattle.model.specs.Changes.{cancelled}
use Rattle.model.specs.Creates.{current_for, fits}
use Rattle.model.specs.Record.{well_formed}
use Rattle.model.specs.Refusals.{not_current}
use Rattle.model.specs.Sound.{sound_version}
use Rattle.model.specs.Standing.{standing_of, grid_rule, unready}
use Rattle.model.specs.Step.{unsound, step}
use Rattle.model.specs.declared.Event.{Event}
use Rattle.model.specs.declared.Version.{Version}
use Rattle.model.specs.declared.Outcome.TheVariants.{NotCurrent}

-- ---- what follows

-- one create suffices: none concurs where either is of the type
pub never_concurs : (e : Event) (v : Version) → well_formed e ≡ true → is_create e.kind ≡ true → sound_version v ≡ true
    → (is_within e || v.within) ≡ true → fits e v ≡ false
never_concurs e v formed k s w = none_true (fits e v)
    (λ h. let b = between e formed k v (row_of v s) h in clash (rw (sym (same_type e formed k v (row_of v s) h), b) at w))

module _ (e : Event) (v : Version) (s : sound_version v ≡ true) (w : v.within ≡ true) where
  -- the old side has not created
  unjoined : v.old.created ≡ false
  unjoined = not-true v.old.created (and_l (not v.old.created) (not v.window) (rw w at (row_of v s).within))

  pub cancels_at_once : (cancelled e v).status ≡ canceled
  unfolding cancelled
  cancels_at_once = rw (unjoined, and-false v.new.created)

  pub no_old_side : eqb e.kind kind.old_modifies ≡ true → lacks_standing e v ≡ true
  unfolding grid_rule
  no_old_side k = back_equal e.kind 4 (λ (n : ℕ). eqb (grid_rule v.status n (standing_of e v)) 6 ≡ true) k
      (rw (ne_eqb (standing_of e v) 1 (λ q. clash (sym unjoined ∙ stands_old e v q))))

  pub no_window : eqb e.kind kind.window_ran_out ≡ true → wrong_status e v ≡ true
  unfolding unready
  no_window k =
      let refused : unready e v ≡ true = rw (back_equal e.kind 13 (λ (n : ℕ). eqb n 5 ≡ false) k refl, k) w in
      rw refused (or-true (eqb (grid_rule v.status e.kind (standing_of e v)) 7))

  pub ready_alone : eqb e.kind kind.activate ≡ true → unready e v ≡ false
  unfolding unready
  ready_alone k = rw (k, w, or-true (v.old.created || v.window))

-- a create of the type is done for the current provider alone
module _ (s : Setting) (e : Event) (t : List Version) (w : is_within e ≡ true) where
  abbrev G : Given
  G = offered s e t

  abbrev pub holder : ℕ
  holder = current_for s.books e (rows_of (line s) (line s e.tn.0) t)

  -- what is to be shown of a result
  abbrev Own : Result → Type 0
  Own x = is_done x.out ≡ true → e.sender ≡ holder

  module _ (formed : well_formed e ≡ true) (j : is_done (judged G) ≡ true) where
    by_new_lem : eqb e.kind 1 ≡ true
    by_new_lem = go (eqb e.kind 1) refl
      where
        go : (b : Bool) → eqb e.kind 1 ≡ b → eqb e.kind 1 ≡ true
        go true q = q
        go false q = clash (sym (untyped e formed q) ∙ w)

    create? : is_create e.kind ≡ true
    create? = back_equal e.kind 1 (λ (n : ℕ). is_create n ≡ true) by_new_lem refl

    same : e.sender ≡ e.other
    same = eqb-true e.sender e.other (and_r (named e.sender) _ (rw w at (new_fields e formed by_new_lem 0)))

    current : e.other ≡ holder
    unfolding not_current
    current =
        eqb-true e.other holder
        (not-false (eqb e.other holder)
        (rw by_new_lem at (refusal_passed (refuses G) create_order NotCurrent refl refl (rw create? at j))))

  pub owned : Own (step_of s e t)
  unfolding step
  owned =
      by_test Own (unsound s t) (λ _ d. clash d)
      (λ _. by_test Own (well_formed e)
      (λ formed. by_order Own G (λ j _. same formed j ∙ current formed j) (λ j d. clash (sym j ∙ d)))
      (λ _ d. clash d))

-- ---- worked

-- provider p creates at t within itself
abbrev inside : ℕ → ℕ → Event
inside p t = event_as 1 1 p p 0 tn lrn 0 t 100

-- its version
abbrev own : ℕ → ℕ → ℕ → Version
own n t p = row_as true tn n pending t false (new_by p) (old_absent p) false no_broadcast

abbrev asking : ℕ → ℕ → ℕ → ℕ → ℕ → Version
asking n t p confirmed waiting =
    row_as true tn n sending t false (new_by p) (old_absent p) false (cast activate 100 confirmed waiting nobody)

abbrev settled_on : ℕ → ℕ → ℕ → Version
settled_on n t p = row_as true tn n active t true (new_by p) (old_absent p) false (cast activate 0 both nobody nobody)

abbrev given_up : ℕ → ℕ → ℕ → Version
given_up n t p = row_as true tn n canceled t false (new_by p) (old_absent p) false no_broadcast

-- a row alone, and that a create finds the table unsound
abbrev unsound_with : Version → Example
unsound_with v = given (asks12 0 256) (v ∷ []) (refused (new_side 2 1 10) 1 (v ∷ []) ∷ [])

unfoldable pub insides : List Example
insides =
    -- Only the current provider may: the owner, 1. One create suffices, and 1 is told once.
    given (asks12 0 256) []
    (refused (inside 2 10) 12 []
    ∷ done (inside 1 10) (created_to 1 (1 ∷ [])) (own 1 10 1 ∷ [])
    -- Nothing concurs with it.
    ∷ refused (inside 1 20) 9 (own 1 10 1 ∷ [])
    ∷ refused (new_side 2 1 20) 9 (own 1 10 1 ∷ [])
    ∷ refused (old_side 1 2 20) 9 (own 1 10 1 ∷ [])
    ∷ refused (inside 2 20) 12 (own 1 10 1 ∷ [])
    -- No old side: 4 gets 6 from its provider too. No window: 13 gets 7 from the NPAC, 6 from a provider. Nothing is to be acknowledged
    -- or resolved.
    ∷ refused (event 4 1 0 1 tn 0 1 20 100) 6 (own 1 10 1 ∷ [])
    ∷ refused (event 13 0 0 0 tn 0 1 20 0) 7 (own 1 10 1 ∷ [])
    ∷ refused (event 13 1 0 0 tn 0 1 20 0) 6 (own 1 10 1 ∷ [])
    ∷ refused (event 7 1 0 0 tn 0 1 20 0) 7 (own 1 10 1 ∷ [])
    ∷ refused (event 8 1 0 0 tn 0 1 20 0) 7 (own 1 10 1 ∷ [])
    ∷ refused (event 8 2 0 0 tn 0 1 20 0) 6 (own 1 10 1 ∷ [])
    ∷ done (event 3 1 0 0 tn lrn 1 20 100) (attributes_to 1 (1 ∷ [])) (own 1 20 1 ∷ [])
    -- Activation waits for its due date, and for nobody.
    ∷ refused (activation 1 1 99) 8 (own 1 20 1 ∷ [])
    ∷ done (activation 1 1 100) (downloads_to activate 1 (1 ∷ 2 ∷ [])) (asking 1 100 1 nobody both ∷ [])
    ∷ refused (event 13 0 0 0 tn 0 1 101 0) 7 (asking 1 100 1 nobody both ∷ [])
    ∷ done (success 1 1 101) [] (asking 1 101 1 (only 1) (only 2) ∷ [])
    ∷ done (success 2 1 102) (status_to 1 active nobody (1 ∷ [])) (settled_on 1 102 1 ∷ [])
    -- The next one: cancel acts at once.
    ∷ done (inside 1 110) (created_to 2 (1 ∷ [])) (settled_on 1 102 1 ∷ own 2 110 1 ∷ [])
    ∷ done (event 6 1 0 0 tn 0 2 120 0) (status_to 2 canceled nobody (1 ∷ [])) (settled_on 1 102 1 ∷ given_up 2 120 1 ∷ [])
    ∷ []
    )
    -- With a live version its new provider, 2, is current. The close turns it old.
    ∷ given (asks12 0 256) (live_one ∷ [])
    (refused (inside 1 10) 12 (live_one ∷ [])
    ∷ done (inside 2 10) (created_to 2 (2 ∷ [])) (live_one ∷ own 2 10 2 ∷ [])
    ∷ done (activation 2 2 100) (downloads_to activate 2 (1 ∷ 2 ∷ [])) (live_one ∷ asking 2 100 2 nobody both ∷ [])
    ∷ done (success 1 2 101) [] (live_one ∷ asking 2 101 2 (only 1) (only 2) ∷ [])
    ∷ done (success 2 2 102) (status_to 2 active nobody (2 ∷ []))
    (row 1 old 102 false earlier (old_absent 1) true (cast 0 0 both nobody nobody) ∷ settled_on 2 102 2 ∷ [])
    ∷ []
    )
    -- A worked version of two providers is not the type's to join.
    ∷ given (asks12 0 256) (row 1 pending 5 false (new_by 2) (old_absent 1) false no_broadcast ∷ [])
    (refused (inside 1 10) 9 (row 1 pending 5 false (new_by 2) (old_absent 1) false no_broadcast ∷ []) ∷ [])
    -- The type in kind 2, with two providers, or as 2; and equal providers without it, in either create.
    ∷ given (asks12 0 256) []
    (refused (event_as 1 2 1 1 1 tn 0 0 10 100) 2 []
    ∷ refused (event_as 1 2 1 2 1 tn 0 0 10 100) 2 []
    ∷ refused (event_as 1 1 2 1 0 tn lrn 0 10 100) 2 []
    ∷ refused (event_as 2 1 1 1 0 tn lrn 0 10 100) 2 []
    ∷ refused (new_side 1 1 10) 2 []
    ∷ refused (old_side 1 1 10) 2 []
    ∷ []
    )
    -- Equal providers without the type, the type with two, with an old side that has created, with a window mark: unsound, in a status
    -- like canceled too.
    ∷ unsound_with (row 1 pending 5 false (new_by 1) (old_absent 1) false no_broadcast)
    ∷ unsound_with (row 1 canceled 5 false (new_by 1) (old_absent 1) false no_broadcast)
    ∷ unsound_with (row_as true tn 1 pending 5 false (new_by 2) (old_absent 1) false no_broadcast)
    ∷ unsound_with (row_as true tn 1 canceled 5 false (new_by 2) (old_absent 1) false no_broadcast)
    ∷ unsound_with (row_as true tn 1 pending 5 false (new_by 1) (old_by 1) false no_broadcast)
    ∷ unsound_with (row_as true tn 1 canceled 5 false (new_absent 1) (old_by 1) false no_broadcast)
    ∷ unsound_with (row_as true tn 1 pending 5 false (new_by 1) (old_absent 1) true no_broadcast)
    ∷ unsound_with (row_as true tn 1 canceled 5 false (new_by 1) (old_absent 1) true no_broadcast)
    ∷ []
