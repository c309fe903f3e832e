-- What is proved of document 01's rules. Each statement is whole here; its proof stands in the file that is cited.
-- Assumes nothing.
use mathlib.Core.Path.{◌≡◌, refl}
use Prim.Native.Nat.{ℕ, ◌+◌, ◌*◌, ◌≤◌, ◌<◌}
use mathlib.Core.Bool.{Bool, true, false, not, ◌&&◌, ◌||◌}
use mathlib.Core.Option.{some}
use mathlib.Core.List.{List, [], ◌∷◌}
use lib.Dec.{eqb}
use lib.ListN.{length, get_or}
use Rattle.systems.specs.Set.{member}
use Rattle.model.specs.Basics.{All, any, holds}
use Rattle.model.specs.Kinds as kind
use Rattle.model.specs.Numbers.{code_of}
use Rattle.model.specs.Books.{Books}
use Rattle.model.specs.Selection.{class_of, is_selected, selected_for}
use Rattle.model.specs.Broadcast.{resends, opened, broadcasts}
use Rattle.model.specs.Table.{rows_of, find}
use Rattle.model.specs.Sound.{sound_table, sound_version, canceled, last_status}
use Rattle.model.specs.Record.{is_create, is_within, well_formed}
use Rattle.model.specs.Outcomes.{is_done}
use Rattle.model.specs.Given.{Given, worked_one}
use Rattle.model.specs.Refusals.{refuses}
use Rattle.model.specs.Creates.{current_for, fits}
use Rattle.model.specs.Changes.{cancelled}
use Rattle.model.specs.Standing.{grid_rule, kind_at, grid_kinds, grid_entries, unready, lacks_standing, wrong_status}
use Rattle.model.specs.Step.{Setting, line, unsound, step, step_of, after}
use Rattle.model.specs.Exchange.{Demand3, Same}
use Rattle.model.proofs.Lists.{clash}
use Rattle.model.proofs.SoundTables.{says_table}
use Rattle.model.proofs.Reordering.{sane_of, bare_keeps, step_is, reordering}
use Rattle.model.proofs.Concurring.{alone, concurs}
use Rattle.model.proofs.Asking.{to_local_sms, asked, told, shown, classes}
use Rattle.model.proofs.Effects.{modest_step, fine-step, other_rows}
use Rattle.model.proofs.Stages.{passes, all_pass, asks12}
use Rattle.model.proofs.Twins.{twins}
use Rattle.model.proofs.Within.{never_concurs, owned, cancels_at_once, no_old_side, no_window, ready_alone}
use Rattle.model.proofs.Within.{insides}
use Rattle.model.proofs.Worked.{examples, worked_examples, listing, the_listing, slips, slips_shut_out, due_dates, dates_shown}
use Rattle.model.proofs.Worked.{twins_computed, insides_computed, waiting_table, in_order, places, Instance, an_instance}
use Rattle.model.proofs.Cells.{cells, entries, by_place}
use Rattle.model.specs.declared.Version.{Version}
use Rattle.model.specs.declared.Event.{Event}
use Rattle.model.specs.declared.Message.{Message}
use Rattle.model.specs.declared.Outcome.TheVariants.{Unfit, Full, Exhausted, AnotherDue}

-- On a sound table with sound books every event, accepted or refused, leaves a sound table: all clauses, all kinds. [V12]
pub stays_sound : (s : Setting) (e : Event) (t : List Version) → unsound s t ≡ false → unsound s (after (step_of s) e t) ≡ false
stays_sound s e t h = rw (step_is s e t h) (bare_keeps s e t h)

-- Every outcome 0 leaves a sound table, whatever was offered. [V12]
pub done_sound : (s : Setting) (e : Event) (t : List Version) → is_done (step_of s e t).out ≡ true
    → sound_table (line s) s.rows (after (step_of s) e t) ≡ true
unfolding step
done_sound s e t h = go (unsound s t) refl h
  where
    go : (b : Bool) → unsound s t ≡ b → is_done (step_of s e t).out ≡ true → sound_table (line s) s.rows (after (step_of s) e t) ≡ true
    go true q d = clash (rw q at d)
    go false q d =
        says_table (line s) s.rows (after (step_of s) e t) (sane_of s (after (step_of s) e t) (stays_sound s e t q)).table

-- A refusal has no messages and changes nothing. [O1]
pub refusal_sends_nothing : (s : Setting) (e : Event) (t : List Version) → is_done (step_of s e t).out ≡ false → (step_of s e t).sent ≡ []
refusal_sends_nothing s e t h = (modest_step s e t).nothing_sent h

pub refusal_changes_nothing : (s : Setting) (e : Event) (t : List Version) → is_done (step_of s e t).out ≡ false → after (step_of s) e t ≡ t
refusal_changes_nothing s e t h = rw ((modest_step s e t).nothing_done h)

-- An event sends at most 63 messages.
pub at_most_63 : (s : Setting) (e : Event) (t : List Version) → length (step_of s e t).sent ≤ 63
at_most_63 s e t = (modest_step s e t).few

-- A message is only about its event's line. [A3.7]
pub messages_of_the_line : (s : Setting) (e : Event) (t : List Version)
    → All (λ (m : Message). line s m.id.tn.0 ≡ line s e.tn.0) (step_of s e t).sent
messages_of_the_line s e t = (fine-step s e t).about

-- A step touches only rows of its line. [A3.2]
pub rows_of_other_lines : (s : Setting) (e : Event) (t : List Version) (l : ℕ) → (line s e.tn.0 ≡ l → ⊥)
    → rows_of (line s) l (after (step_of s) e t) ≡ rows_of (line s) l t
rows_of_other_lines = other_rows

-- Demand 3, in full: any number of allowed exchanges, all its premises, outcome 1 in front of the rules included. [H4]
pub demand3 : Demand3
demand3 = reordering

-- Its premises can be met, with both of its cases: two answers for one version are exchanged, then an answer with a create of another
-- number. Both orders are computed, and demand 3 says of them that they agree. [H4]
pub demand3_instance : Instance
demand3_instance = an_instance

pub demand3_there : Same (line (asks12 0 256)) (step_of (asks12 0 256)) places in_order waiting_table
demand3_there = demand3 (asks12 0 256) places in_order waiting_table demand3_instance.premises demand3_instance.may

-- P1 to P8. [H5]
pub p1_to_p8 : all_pass examples ≡ true
p1_to_p8 = worked_examples

-- The step program's listing. [Z1]
pub step_listing : passes listing ≡ true
step_listing = the_listing

-- The three slips, each with what happens instead. [L1, L2, L3]
pub slips_refused : all_pass slips ≡ true
slips_refused = slips_shut_out

-- A concurrence that is accepted leaves both due dates equal: where a create finds a worked version and is done, that version is in the
-- table after it, and both of its due dates are the event's. Nothing is said of the events after it: kinds 3 and 4 may part the dates
-- again. [A4.1]
pub concurrence_agrees : (s : Setting) (e : Event) (t : List Version) (v : Version) → is_create e.kind ≡ true
    → worked_one (rows_of (line s) (line s e.tn.0) t) ≡ some v → is_done (step_of s e t).out ≡ true
    → holds (find v.id (after (step_of s) e t)) (λ (w : Version). eqb w.new.due e.due && eqb w.old.due e.due) ≡ true
concurrence_agrees = concurs

-- Where 18 holds, 9, 14 and 13 do not: it stands right after 9, and its place among these three decides nothing. [A4.2]
pub another_due-alone : (g : Given) → refuses g AnotherDue ≡ true
    → (refuses g Unfit ≡ false) × (refuses g Exhausted ≡ false) × (refuses g Full ≡ false)
another_due-alone = alone

-- One line under two codes: what an event may name, what is judged per line, whose owner counts, what is unsound, computed on five tables.
-- [A3.1 to A3.5, A3.7]
pub lines_shown : all_pass twins ≡ true
lines_shown = twins_computed

-- Within one provider one create suffices: none concurs where the create or the version is of the type. [A14.1]
pub within_never_concurs : (e : Event) (v : Version) → well_formed e ≡ true → is_create e.kind ≡ true → sound_version v ≡ true
    → (is_within e || v.within) ≡ true → fits e v ≡ false
within_never_concurs = never_concurs

-- A create of the type is done for the line's current provider alone. [A14.11]
pub within_by_the_current : (s : Setting) (e : Event) (t : List Version) → is_within e ≡ true → is_done (step_of s e t).out ≡ true
    → e.sender ≡ current_for s.books e (rows_of (line s) (line s e.tn.0) t)
within_by_the_current = owned

-- On a sound version of the type a cancel acts at once, 4 is refused with 6 and 13 with 7 (or with 6), and an activation waits for nobody:
-- of a version of the type only the new side has created. [A14.2, A14.4, A14.6, A14.12]
pub within_cancels_at_once : (e : Event) (v : Version) → sound_version v ≡ true → v.within ≡ true → (cancelled e v).status ≡ canceled
within_cancels_at_once = cancels_at_once

pub within_no_old_side : (e : Event) (v : Version) → sound_version v ≡ true → v.within ≡ true → eqb e.kind kind.old_modifies ≡ true
    → lacks_standing e v ≡ true
within_no_old_side = no_old_side

pub within_no_window : (e : Event) (v : Version) → sound_version v ≡ true → v.within ≡ true → eqb e.kind kind.window_ran_out ≡ true
    → wrong_status e v ≡ true
within_no_window = no_window

pub within_ready : (e : Event) (v : Version) → sound_version v ≡ true → v.within ≡ true → eqb e.kind kind.activate ≡ true
    → unready e v ≡ false
within_ready = ready_alone

-- Moves inside one provider, on twelve tables: who may, what is told once, what is refused, what is malformed and what is unsound.
-- [A14.1 to A14.8, A14.10 to A14.12]
pub within_shown : all_pass insides ≡ true
within_shown = insides_computed

-- The due dates of A4, on four tables: 18 for either side, in conflict alike, by the date that the row has now; 8, 12 and 9 before it; a
-- modify that parts the dates again. [A4.1, A4.2]
pub due_dates_shown : all_pass due_dates ≡ true
due_dates_shown = dates_shown

-- Whom a broadcast asks: with 5, 9 and 10 it waits for those of class selected, with 14 for those of them that stood in the failed set.
-- [A8.2]
pub asked_by_class : (bk : Books) (e : Event) (v : Version) (p : ℕ) → 1 ≤ p → p ≤ 63
    → member (opened (selected_for bk v.id.tn) e v).cast.waiting p
    ≡ (is_selected (class_of bk (code_of v.id.tn) p) && (not (resends e) || member v.cast.failed p))
asked_by_class = asked

-- And exactly these Local SMSs get a message of its event. [A8.2, A8.3]
pub told_by_class : (bk : Books) (e : Event) (v : Version) (others : List Version) (p : ℕ) → 1 ≤ p → p ≤ 63
    → any (to_local_sms p) (broadcasts bk e v others).sent
    ≡ (is_selected (class_of bk (code_of v.id.tn) p) && (not (resends e) || member v.cast.failed p))
told_by_class = told

-- The five classes of A8, for the two codes of a pair and for a code in none: each class, a filter on one code of the pair, filters and no
-- Local SMS. [A8.1]
pub classes_shown : (shown 303555 ≡ 0 ∷ 0 ∷ 4 ∷ 2 ∷ 1 ∷ []) × (shown 303556 ≡ 0 ∷ 0 ∷ 4 ∷ 2 ∷ 1 ∷ [])
    × (shown 720123 ≡ 0 ∷ 3 ∷ 0 ∷ 2 ∷ 1 ∷ [])
classes_shown = classes

-- The grid's table has an entry for each status, kind and standing. [G2]
pub grid_entries_lem : length cells ≡ grid_entries
grid_entries_lem = entries

-- The grid's rule over all entries of its table: status s, place j among the kinds, standing w. [H6]
pub grid_rule_lem : (s j w : ℕ) → s ≤ last_status → j < grid_kinds → w < 3 → get_or cells ((s * grid_kinds + j) * 3 + w) 0
    ≡ grid_rule s (kind_at j) w
grid_rule_lem = by_place
