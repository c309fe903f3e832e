-- Every kind keeps the rows of its number sound.
-- Assumes nothing.
use mathlib.Core.Path.{◌≡◌, refl, ap, ◌∙◌, subst}
use Prim.Native.Nat.{ℕ, ◌≤◌, ◌<◌}
use mathlib.Core.Bool.{Bool, true, false, ◌&&◌, ◌||◌}
use mathlib.Core.List.{List, [], ◌∷◌}
use mathlib.Core.Option.{none as nothing, some}
use lib.Dec.{eqb}
use native.Mathlib.Omega.{arith}
use Rattle.model.specs.Basics.{among, any, is_none, none, with}
use Rattle.model.specs.Numbers.{is_set, code_of}
use Rattle.model.specs.Books.{Books}
use Rattle.model.specs.Table.{put, add, change, find}
use Rattle.model.specs.Sound.{pending, conflict, cancel_pending, no, is_sending, is_worked, activate, count, live, sends, worked}
use Rattle.model.specs.Record.{is_create, is_modify, is_answer, is_broadcast, well_formed}
use Rattle.model.specs.Selection.{selected_for, selects}
use Rattle.model.specs.Given.{accept, newest, worked_one}
use Rattle.model.specs.Creates.{old_in, old_absent, old_joined, fresh_version, fits, concurred, create_on, creates}
use Rattle.model.specs.Changes.{new_modified, old_modified, modifies, turns, cancelled, acknowledged, resolved, window_turned}
use Rattle.model.specs.Changes.{window_marked, window_marks}
use Rattle.model.specs.Broadcast.{opened, broadcasts}
use Rattle.model.specs.Answers.{answering, awaited, heard, answers}
use Rattle.model.specs.Refusals.{busy_with}
use Rattle.model.specs.Step.{purges, manages}
use Rattle.model.proofs.Lists.{clash, either, or_off, all_first, first_true, or_but, back_equal}
use Rattle.model.proofs.Ways.{by_way, by_worked}
use Rattle.model.proofs.TableLaws.{Rising, others, find_name}
use Rattle.model.proofs.Formed.{Fields, fields, answering-named}
use Rattle.model.proofs.Stays.{Stays, concurred_stays, new_modified_stays, old_modified_stays, cancelled_stays, acknowledged_stays}
use Rattle.model.proofs.Stays.{resolved_stays, window_marked_stays, window_turned_stays, opened_stays, heard_stays}
use Rattle.model.proofs.SoundRows.{Row, Calm, calm0, calm1, calm_cond, calm_worked}
use Rattle.model.proofs.SoundSets.{set_mask}
use Rattle.model.proofs.SoundCasts.{Casting}
use Rattle.model.proofs.SoundAnswers.{time_is, is_sending_lem, casting_heard}
use Rattle.model.proofs.SoundOpened.{Allowed, purpose_lasts, casting_opened, status_of}
use Rattle.model.proofs.SoundSides.{row_concurred, row_new_modified, row_old_modified, row_cancelled, row_acknowledged}
use Rattle.model.proofs.SoundSides.{row_resolved, window_status, row_window_turned, row_window_marked, open_status}
use Rattle.model.proofs.SoundFresh.{row_fresh}
use Rattle.model.proofs.SoundLines.{Line, one, all-find, found_self, count-found, count-put, count_strike, count_add, first_none}
use Rattle.model.proofs.SoundLines.{any_none, line-put}
use Rattle.model.proofs.SoundLaws.{Keeps, Ground, keeps_settled}
use Rattle.model.specs.declared.Id.{Id}
use Rattle.model.specs.declared.Tn.{Tn}
use Rattle.model.specs.declared.Event.{Event}
use Rattle.model.specs.declared.Version.{Version}
use Rattle.model.specs.declared.Message.{Message}

one_le : (b : Bool) → one b ≤ 1
one_le true = omega arith
one_le false = omega arith

-- a worked version turned to another status outside a broadcast
calm_put : (k : Id) (r : List Version) (v w : Version) (ms : List Message) → Rising r → Line r → find k r ≡ some v → Stays v w
    → worked v ≡ true → sends w ≡ false → Row w → Keeps r (accept ms (put w ∷ []))
calm_put k r v w ms s line h t o q row = record {
  rows = with row none;
  line = line-put k r v s line h w (t.name ∙ find_name k r v h) (rw t.live (omega arith)) (rw q (omega arith))
      (rw o (one_le (worked w)));
}

-- ---- what the makers leave as it is

le_one : {a b : Bool} → a ≡ b → one a ≤ one b
le_one {a} {b} q = rw q (omega arith)

opened-worked : (s : ℕ) (e : Event) (v : Version) → worked (opened s e v) ≡ false
unfolding opened
opened-worked s e v = refl

set_selected : (bk : Books) (tn : Tn) → is_set (selected_for bk tn) ≡ true
unfolding selected_for
set_selected bk tn = set_mask (selects bk (code_of tn))

fresh_live : (e : Event) (r : List Version) → (fresh_version e r).live ≡ false
unfolding fresh_version
fresh_live e r = refl

fresh_sends : (e : Event) (r : List Version) → sends (fresh_version e r) ≡ false
unfolding fresh_version
fresh_sends e r = (calm_cond (eqb (old_joined e (old_absent (old_in e))).authorization no) calm1 calm0).no3

concurred_calm : (e : Event) (v : Version) → worked v ≡ true → sends (concurred e v) ≡ false
unfolding concurred
concurred_calm e v h = (calm_cond (eqb (old_joined e v.old).authorization no) calm1 (calm_worked v.status h)).no3

heard-sends : (most : ℕ) (e : Event) (v : Version) → sends (heard most e v) ≡ sends v
unfolding heard
heard-sends most e v = refl

heard-worked : (most : ℕ) (e : Event) (v : Version) → worked (heard most e v) ≡ worked v
unfolding heard
heard-worked most e v = refl

module _ (line_of : ℕ → ℕ) (e : Event) (formed : well_formed e ≡ true) (r : List Version) (g : Ground line_of (line_of e.tn.0) r) where
  -- ---- an event of kinds 3 to 10 and 13 to 15, for the version v
  module _ (v : Version) (h : find v.id r ≡ some v) (al : Allowed e v) where
    abbrev K : Id
    K = v.id

    row : Row v
    row = all-find K v g.rows h

    keeps_calm : (w : Version) (ms : List Message) → Stays v w → worked v ≡ true → sends w ≡ false → Row w
        → Keeps r (accept ms (put w ∷ []))
    keeps_calm w ms t o q x = calm_put K r v w ms g.rising g.line h t o q x

    open_worked : among v.status (pending ∷ conflict ∷ []) ≡ true → worked v ≡ true
    open_worked q = (open_status e formed v row al q).0

    not_sending : (s : ℕ) → Calm s → is_sending s ≡ false
    not_sending s c = c.no3

    keeps_modifies : is_modify e.kind ≡ true → Keeps r (modifies e v)
    unfolding new_modified old_modified
    keeps_modifies q = go (eqb e.kind 3) refl (eqb e.kind 4) refl
      where
        calm_open : among v.status (pending ∷ conflict ∷ []) ≡ true → sends v ≡ false
        calm_open p = (calm_worked v.status (open_worked p)).no3

        go : (a : Bool) → eqb e.kind 3 ≡ a → (b : Bool) → eqb e.kind 4 ≡ b → Keeps r (modifies e v)
        go true p b x =
            let here = status_of e v al 3 p in
            rw p
            (keeps_calm (new_modified e v) _ (new_modified_stays e v) (open_worked here) (calm_open here)
            (row_new_modified e formed v row al p))
        go false p true x =
            rw p
            (keeps_calm (old_modified e v) _ (old_modified_stays e v) (open_worked (status_of e v al 4 x))
            (not_sending _ (calm_cond (eqb e.mark no) calm1 calm0)) (row_old_modified e formed v row al x))
        go false p false x = clash (rw (p, x) at q)

    keeps_cancelled : eqb e.kind 6 ≡ true → Keeps r (turns (cancelled e v))
    unfolding cancelled
    keeps_cancelled q =
        keeps_calm (cancelled e v) _ (cancelled_stays e v) (open_worked (status_of e v al 6 q))
        (either (λ (w : Version). sends w ≡ false) (v.new.created && v.old.created) refl refl) (row_cancelled e formed v row al q)

    keeps_acknowledged : eqb e.kind 7 ≡ true → Keeps r (turns (acknowledged e v))
    unfolding acknowledged
    keeps_acknowledged q =
        keeps_calm (acknowledged e v) _ (acknowledged_stays e v)
        (back_equal v.status 2 (λ (s : ℕ). is_worked s ≡ true) (status_of e v al 7 q) refl) refl (row_acknowledged e formed v row al q)

    keeps_resolved : eqb e.kind 8 ≡ true → Keeps r (turns (resolved e v))
    unfolding resolved
    keeps_resolved q =
        keeps_calm (resolved e v) _ (resolved_stays e v)
        (back_equal v.status 1 (λ (s : ℕ). is_worked s ≡ true) (status_of e v al 8 q) refl) refl (row_resolved e formed v row al q)

    module _ (q : eqb e.kind 13 ≡ true) where
      works : worked v ≡ true
      works = window_status e formed v row al q

      keeps_marked : Keeps r (window_marks e v)
      unfolding window_marked
      keeps_marked =
          keeps_calm (window_marked e v) _ (window_marked_stays e v) works (calm_worked v.status works).no3
          (row_window_marked e formed v row al q)

      keeps_turned : Keeps r (turns (window_turned e v))
      unfolding window_turned
      keeps_turned =
          keeps_calm (window_turned e v) _ (window_turned_stays e v) works
          (either (λ (w : Version). sends w ≡ false) (eqb v.status cancel_pending)
          (either (λ (s : ℕ). is_sending s ≡ false) (eqb v.canceller 1) refl refl) refl)
          (row_window_turned e formed v row al q)

    keeps_strike : Keeps r (purges v)
    keeps_strike = record {
      rows = with tt none;
      line = record {
        lives = omega (arith, g.line.lives, count_strike live v.id r);
        sends = omega (arith, g.line.sends, count_strike sends v.id r);
        works = omega (arith, g.line.works, count_strike worked v.id r);
      };
    }

    -- ---- a broadcast
    keeps_broadcasts : (bk : Books) → is_broadcast e.kind ≡ true → any sends (others K r) ≡ false
        → Keeps r (broadcasts bk e v (others K r))
    unfolding broadcasts
    keeps_broadcasts bk k free =
        keeps_settled K r v g.rising g.rows g.line h alone W same _ (casting_opened S set e formed v row k al) line-opened
        (purpose_lasts S set e formed v row k al)
      where
        S : ℕ
        S = selected_for bk v.id.tn

        set : is_set S ≡ true
        set = set_selected bk v.id.tn

        W : Version
        W = opened S e v

        same : W.id ≡ K
        same = (opened_stays S e v).name

        alone : count sends (others K r) ≡ 0
        alone = any_none sends (others K r) free

        line-opened : Line (change (put W) r)
        line-opened = record {
          lives = omega (
            arith,
            g.line.lives,
            count-put live K r v W g.rising h same,
            count-found live K r v g.rising h,
            ap one (opened_stays S e v).live,
          );
          sends = omega (arith, alone, count-put sends K r v W g.rising h same, one_le (sends W));
          works = omega (
            arith,
            g.line.works,
            count-put worked K r v W g.rising h same,
            count-found worked K r v g.rising h,
            ap one (opened-worked S e v),
          );
        }

    -- ---- all of them
    pub keeps_manages : (bk : Books) → busy_with e r (others K r) v ≡ false → Keeps r (manages bk e v (others K r))
    unfolding busy_with
    keeps_manages bk free = by_way (Keeps r) bk e v (others K r) (record {
      modify = keeps_modifies;
      cancel = keeps_cancelled;
      acknowledge = keeps_acknowledged;
      resolve = keeps_resolved;
      mark = λ q _. keeps_marked q;
      turn = λ q _. keeps_turned q;
      broadcast = λ q. keeps_broadcasts bk q (or_off (any sends (others K r)) _ (rw q at free)).0;
      purge = keeps_strike;
    })

  -- ---- creates
  pub keeps_creates : is_create e.kind ≡ true → (is_none (worked_one r) ≡ true → newest r < 65535)
      → ((v : Version) → worked_one r ≡ some v → fits e v ≡ true) → Keeps r (creates e r)
  keeps_creates k room fit =
      by_worked (Keeps r) e r (λ q. record { rows = with (row_fresh e formed r (room (ap is_none q)) k) none; line = line_fresh q }) concurs
    where
      line_fresh : worked_one r ≡ nothing → Line (change (add (fresh_version e r)) r)
      line_fresh q = record {
        lives = omega (arith, g.line.lives, count_add live (fresh_version e r) r, ap one (fresh_live e r));
        sends = omega (arith, g.line.sends, count_add sends (fresh_version e r) r, ap one (fresh_sends e r));
        works = omega (arith, first_none worked r q, count_add worked (fresh_version e r) r, one_le (worked (fresh_version e r)));
      }

      concurs : (v : Version) → worked_one r ≡ some v → Keeps r (create_on e r (some v))
      concurs v q =
          let at : find v.id r ≡ some v =
          all_first {P = λ (x : Version). find x.id r ≡ some x} worked v (found_self r g.rising) q in
          let works : worked v ≡ true = first_true worked r v q in
          let row : Row v = all-find v.id v g.rows at in
          calm_put v.id r v (concurred e v) _ g.rising g.line at (concurred_stays e v) works (concurred_calm e v works)
          (row_concurred e formed v row k works (fit v q))

  -- ---- answers
  pub keeps_answers : (most : ℕ) → most ≤ 7 → (v : Version) → find v.id r ≡ some v → is_answer e.kind ≡ true → awaited e v ≡ true
      → Keeps r (answers most e v (others v.id r))
  unfolding answers
  keeps_answers most small v h a aw =
      keeps_settled v.id r v g.rising g.rows g.line h alone W same _ casting line-heard lasts
    where
      f : Fields e
      f = fields e formed

      row : Row v
      row = all-find v.id v g.rows h

      sys : (1 ≤ answering e) × (answering e < 64)
      sys = answering-named e formed a

      casting : Casting (heard most e v)
      casting = casting_heard most small e v row aw sys.0 sys.1 (time_is e.time f.timed f.time)

      on : sends v ≡ true
      on = is_sending_lem most small e v row aw sys.0 sys.1 (time_is e.time f.timed f.time)

      W : Version
      W = heard most e v

      same : W.id ≡ v.id
      same = (heard_stays most e v).name

      alone : count sends (others v.id r) ≡ 0
      alone = omega (arith, g.line.sends, count-found sends v.id r v g.rising h, ap one on)

      line-heard : Line (change (put W) r)
      line-heard =
          line-put v.id r v g.rising g.line h W same (le_one (heard_stays most e v).live)
          (le_one (heard-sends most e v)) (le_one (heard-worked most e v))

      lasts : eqb W.cast.purpose activate ≡ false → v.live ≡ true
      lasts z =
          or_but v.live (eqb W.cast.purpose activate)
          (subst (λ (x : Bool). (x || eqb W.cast.purpose activate) ≡ true) (heard_stays most e v).live casting.lasting) z
