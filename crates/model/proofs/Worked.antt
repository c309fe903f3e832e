-- The worked examples of document 01: P1 to P8 as one table with one statement, the step program's listing, its slips, the due dates of
-- request A4, the tables of A3 and A14 (Twins, Within), and an instance of demand 3. After each event everything is compared: the outcome,
-- every field of every message, every field of every row. [H5, Z1]
-- Assumes nothing.
use mathlib.Core.Path.{◌≡◌, refl}
use Prim.Native.Nat.{ℕ}
use native.Mathlib.Omega.{arith}
use mathlib.Core.Bool.{true, false}
use mathlib.Core.List.{List, [], ◌∷◌, ◌++◌, map}
use Rattle.systems.specs.Set.{member, mask_of, meet, count as size}
use Rattle.model.specs.Answers.{again, moved, heard, asked_again, answers as answered}
use Rattle.model.specs.Basics.{every, none, with}
use Rattle.model.specs.Books.{owner_of, partner_of, filters, sound_marks, sound_codes, sound_filters, sound_splits, sound_books, line_in}
use Rattle.model.specs.Broadcast.{asked_for, opened, broadcasts}
use Rattle.model.specs.Changes.{new_modified, old_modified, cancelled, acknowledged, own_cancel, resolved, window_turned, window_marked}
use Rattle.model.specs.Changes.{window_spent, window_runs}
use Rattle.model.specs.Closing.{close_to, closed, retired, retires, closing_told, settled, settles, settling_told}
use Rattle.model.specs.Creates.{current_for, fresh_version, fits, concurred, creates, new_absent, old_absent, no_broadcast}
use Rattle.model.specs.Record.{kind_fits, fits_bits, well_formed}
use Rattle.model.specs.Refusals.{early, busy_with, busy, unawaited, not_current, unfit, another_due, exhausted, full}
use Rattle.model.specs.Retries.{octal, with_octal, used, with_used}
use Rattle.model.specs.Selection.{skipped, class_of, selected_for}
use Rattle.model.specs.Sound.{pending, conflict, sending, failure, partial_failure, active, old, activate, disconnect, yes, no}
use Rattle.model.specs.Sound.{retries_in_range, cast_in_range, in_range, new_whole, old_whole, sides_needed, cause_fits, apart, sets_apart}
use Rattle.model.specs.Sound.{retries_fit, sound_version, one_each, sound_lines, sound_table, none_twice, sound_line}
use Rattle.model.specs.Standing.{standing_of, grid_rule, unready}
use Rattle.model.specs.Exchange.{Exchangeable, answers, lines, May, reorder, Premises}
use Rattle.model.specs.Step.{line, manages, accepted, rule, unsound, step}
use Rattle.model.specs.Table.{order}
use Rattle.model.specs.Tray.{members, creation, attributes}
use Rattle.model.specs.declared.Event.{Event}
use Rattle.model.specs.declared.Version.{Version}
use Rattle.model.specs.declared.NewSide.{NewSide}
use Rattle.model.specs.declared.OldSide.{OldSide}
use Rattle.model.proofs.Stages.{Stage, Example, passes, all_pass}
use Rattle.model.proofs.Twins.{twins}
use Rattle.model.proofs.Within.{insides}
use Rattle.model.proofs.Stages.{nobody, only, both, everybody, filter, setting, asks12, asks_nobody, event, tn, lrn, new_side}
use Rattle.model.proofs.Stages.{old_side, activation, success, failing, silence, ending, resend, purge}
use Rattle.model.proofs.Stages.{row_for, row, new_by, old_by, single, agreed_on, cast, sends, closes, earlier, canceled_one, live_one}
use Rattle.model.proofs.Stages.{message, created_for, created_to, attributes_to, status_to, downloads_to, done, refused, given}

-- Provider 2 creates at 10, from provider 1, which concurs at 20.
abbrev agreed : List Stage
agreed =
    done (new_side 2 1 10) (created_to 1 (1 ∷ 2 ∷ [])) (single 1 10 2 1 ∷ [])
    ∷ done (old_side 1 2 20) (attributes_to 1 (1 ∷ 2 ∷ [])) (agreed_on 1 20 2 1 ∷ [])
    ∷ []

-- Then 2 activates at 100, and 1 and 2 are asked.
abbrev asked : List Stage
asked = agreed ++ done (activation 2 1 100) (downloads_to activate 1 (1 ∷ 2 ∷ [])) (sends 1 100 2 1 nobody both nobody ∷ []) ∷ []

-- Provider 3 takes the number over from 2, up to the activation: 1 and 2 are asked, and the earlier live version stays.
abbrev taken_over : List Stage
taken_over =
    done (new_side 3 2 10) (created_to 2 (2 ∷ 3 ∷ [])) (live_one ∷ single 2 10 3 2 ∷ [])
    ∷ done (old_side 2 3 20) (attributes_to 2 (2 ∷ 3 ∷ [])) (live_one ∷ agreed_on 2 20 3 2 ∷ [])
    ∷ done (activation 3 2 100) (downloads_to activate 2 (1 ∷ 2 ∷ [])) (live_one ∷ sends 2 100 3 2 nobody both nobody ∷ [])
    ∷ []

-- the earlier live version once it is old, with the closing version's stamp
abbrev old_one : ℕ → Version
old_one t = row 1 old t false earlier (old_absent 1) true (cast 0 0 both nobody nobody)

-- the version of P5 at t, after n retries of system 1
abbrev retried : ℕ → ℕ → Version
retried t n =
    row 1 sending t false (new_by 2) (old_by 1) false
    (record {
      purpose = activate;
      start = 100;
      confirmed = nobody;
      waiting = both;
      failed = nobody;
      retries = record
          { low = n; mid = 0; high = 0 };
    })

-- the version of provider 2 after the resend of time 200: system 1 stays confirmed, system 2 is asked again
abbrev resent : Version
resent = row 1 sending 200 true (new_by 2) (old_by 1) false (cast activate 200 (only 1) (only 2) nobody)

-- ---- the table

pub examples : List Example
examples =
    -- P1 Time equal to the largest stamp: done; one less: 8.
    given (asks12 0 256) []
    (done (new_side 2 1 10) (created_to 1 (1 ∷ 2 ∷ [])) (single 1 10 2 1 ∷ [])
    ∷ refused (old_side 1 2 9) 8 (single 1 10 2 1 ∷ [])
    ∷ done (old_side 1 2 10) (attributes_to 1 (1 ∷ 2 ∷ [])) (agreed_on 1 10 2 1 ∷ [])
    ∷ []
    )
    -- Of two versions the older has the largest stamp.
    ∷ given (asks12 0 256) (canceled_one 1 12 ∷ canceled_one 2 5 ∷ [])
    (refused (new_side 2 1 11) 8 (canceled_one 1 12 ∷ canceled_one 2 5 ∷ [])
    ∷ done (new_side 2 1 12) (created_to 3 (1 ∷ 2 ∷ [])) (canceled_one 1 12 ∷ canceled_one 2 5 ∷ single 3 12 2 1 ∷ [])
    ∷ []
    )
    -- Of a reply the broadcast's start.
    ∷ given (asks12 0 256) []
    (asked
    ++ refused (success 1 1 99) 8 (sends 1 100 2 1 nobody both nobody ∷ [])
    ∷ done (success 1 1 100) [] (sends 1 100 2 1 (only 1) (only 2) nobody ∷ [])
    ∷ []
    )
    -- P2 Nobody selected: active at once, two messages.
    ∷ given asks_nobody []
    (agreed ++ done (activation 2 1 100) (status_to 1 active nobody (1 ∷ 2 ∷ [])) (closes 1 active 100 true 2 1 nobody nobody ∷ []) ∷ [])
    -- P3 Asked 1 and 2: both fail, failed, earlier live stays;
    ∷ given (asks12 0 256) (live_one ∷ [])
    (taken_over
    ++ done (failing 1 2 101) [] (live_one ∷ sends 2 101 3 2 nobody (only 2) (only 1) ∷ [])
    ∷ done (failing 2 2 102) (status_to 2 failure both (2 ∷ 3 ∷ [])) (live_one ∷ closes 2 failure 102 false 3 2 nobody both ∷ [])
    ∷ []
    )
    -- one fails, partial-failure.
    ∷ given (asks12 0 256) (live_one ∷ [])
    (taken_over
    ++ done (failing 1 2 101) [] (live_one ∷ sends 2 101 3 2 nobody (only 2) (only 1) ∷ [])
    ∷ done (success 2 2 102) (status_to 2 partial_failure (only 1) (2 ∷ 3 ∷ []))
    (old_one 102 ∷ closes 2 partial_failure 102 true 3 2 (only 2) (only 1) ∷ [])
    ∷ []
    )
    -- P4 A second reply, before or after closing: 11.
    ∷ given (asks12 0 256) []
    (asked
    ++ done (success 1 1 101) [] (sends 1 101 2 1 (only 1) (only 2) nobody ∷ [])
    ∷ refused (success 1 1 102) 11 (sends 1 101 2 1 (only 1) (only 2) nobody ∷ [])
    ∷ done (success 2 1 103) (status_to 1 active nobody (1 ∷ 2 ∷ [])) (closes 1 active 103 true 2 1 both nobody ∷ [])
    ∷ refused (success 2 1 104) 11 (closes 1 active 103 true 2 1 both nobody ∷ [])
    ∷ []
    )
    -- P5 R = 2: two silences ask again, the third fails it.
    ∷ given (asks12 2 256) []
    (asked
    ++ done (silence 1 1 101) (downloads_to activate 1 (1 ∷ [])) (retried 101 1 ∷ [])
    ∷ done (silence 1 1 102) (downloads_to activate 1 (1 ∷ [])) (retried 102 2 ∷ [])
    ∷ done (silence 1 1 103) [] (sends 1 103 2 1 nobody (only 2) (only 1) ∷ [])
    ∷ []
    )
    -- P6 Filter on one code of a pair: asked;
    ∷ given (setting (filter 3 303555 ∷ []) (record { one = 303555; other = 303556 } ∷ []) 0 256) []
    (agreed
    ++ done (activation 2 1 100) (downloads_to activate 1 (1 ∷ 2 ∷ 3 ∷ [])) (sends 1 100 2 1 nobody everybody nobody ∷ [])
    ∷ []
    )
    -- on both: skipped.
    ∷ given (setting (filter 3 303555 ∷ filter 3 303556 ∷ []) (record { one = 303555; other = 303556 } ∷ []) 0 256) [] asked
    -- No pair, one filter: skipped.
    ∷ given (asks12 0 256) [] asked
    -- P7 Full table, purge of the newest, canceled: 10 (also before its stamp); of an older canceled one: the next fresh create is done.
    ∷ given (asks12 0 2) (canceled_one 1 5 ∷ canceled_one 2 5 ∷ [])
    (refused (purge 2 10) 10 (canceled_one 1 5 ∷ canceled_one 2 5 ∷ [])
    ∷ refused (purge 2 4) 10 (canceled_one 1 5 ∷ canceled_one 2 5 ∷ [])
    ∷ done (purge 1 10) [] (canceled_one 2 5 ∷ [])
    ∷ done (new_side 2 1 10) (created_to 3 (1 ∷ 2 ∷ [])) (canceled_one 2 5 ∷ single 3 10 2 1 ∷ [])
    ∷ []
    )
    -- P8 Full table: fresh create 13, concurrence 0;
    ∷ given (asks12 0 1) []
    (done (new_side 2 1 10) (created_to 1 (1 ∷ 2 ∷ [])) (single 1 10 2 1 ∷ [])
    ∷ refused (event 1 2 1 0 3035550101 lrn 0 10 100) 13 (single 1 10 2 1 ∷ [])
    ∷ done (old_side 1 2 20) (attributes_to 1 (1 ∷ 2 ∷ [])) (agreed_on 1 20 2 1 ∷ [])
    ∷ []
    )
    -- newest is 65,535 as well: 14.
    ∷ given (asks12 0 1) (canceled_one 65535 5 ∷ []) (refused (new_side 2 1 10) 14 (canceled_one 65535 5 ∷ []) ∷ [])
    ∷ []

-- The step program: its input, each event's outcome and messages, and the version after each, whose failed set is empty at the end.
pub listing : Example
listing =
    given (asks12 0 256) []
    (agreed
    ++ refused (activation 2 1 99) 8 (agreed_on 1 20 2 1 ∷ [])
    ∷ done (activation 2 1 100) (downloads_to activate 1 (1 ∷ 2 ∷ [])) (sends 1 100 2 1 nobody both nobody ∷ [])
    ∷ done (success 1 1 105) [] (sends 1 105 2 1 (only 1) (only 2) nobody ∷ [])
    ∷ done (silence 2 1 110) (status_to 1 partial_failure (only 2) (1 ∷ 2 ∷ []))
    (closes 1 partial_failure 110 true 2 1 (only 1) (only 2) ∷ [])
    ∷ refused (success 2 1 120) 11 (closes 1 partial_failure 110 true 2 1 (only 1) (only 2) ∷ [])
    ∷ done (resend 1 200) (downloads_to activate 1 (2 ∷ [])) (resent ∷ [])
    ∷ done (success 2 1 205) (status_to 1 active nobody (1 ∷ 2 ∷ [])) (closes 1 active 205 true 2 1 both nobody ∷ [])
    ∷ []
    )

-- the slips that document 01 shuts out
pub slips : List Example
slips =
    -- L1 The closing keeps the largest arrival as its stamp: a disconnect before it is too early.
    given (asks12 0 256) []
    (asked
    ++ done (success 1 1 105) [] (sends 1 105 2 1 (only 1) (only 2) nobody ∷ [])
    ∷ done (success 2 1 103) (status_to 1 active nobody (1 ∷ 2 ∷ [])) (closes 1 active 105 true 2 1 both nobody ∷ [])
    ∷ refused (ending 2 1 104) 8 (closes 1 active 105 true 2 1 both nobody ∷ [])
    ∷ done (ending 2 1 105) (downloads_to disconnect 1 (1 ∷ 2 ∷ []))
    (row 1 sending 105 true (new_by 2) (old_by 1) false (cast disconnect 105 nobody both nobody) ∷ [])
    ∷ []
    )
    -- L2 A resend counts the systems that confirmed before: the system that failed fails again, and the version stays in partial-failure.
    ∷ given (asks12 0 256) []
    (asked
    ++ done (success 1 1 105) [] (sends 1 105 2 1 (only 1) (only 2) nobody ∷ [])
    ∷ done (failing 2 1 110) (status_to 1 partial_failure (only 2) (1 ∷ 2 ∷ []))
    (closes 1 partial_failure 110 true 2 1 (only 1) (only 2) ∷ [])
    ∷ done (resend 1 200) (downloads_to activate 1 (2 ∷ [])) (resent ∷ [])
    ∷ done (failing 2 1 205) (status_to 1 partial_failure (only 2) (1 ∷ 2 ∷ []))
    (closes 1 partial_failure 205 true 2 1 (only 1) (only 2) ∷ [])
    ∷ []
    )
    -- L3 While an activation is sending, the earlier live version stays.
    ∷ given (asks12 0 256) (live_one ∷ []) taken_over
    ∷ []

-- ---- due dates have to agree [A4.1, A4.2]

-- creates of 2 and 1, and a modify by 2, at t with due date d
abbrev new_due : ℕ → ℕ → Event
new_due d t = event 1 2 1 0 tn lrn 0 t d

abbrev old_due : ℕ → ℕ → Event
old_due d t = event 2 1 2 1 tn 0 0 t d

abbrev postponed : ℕ → ℕ → Event
postponed d t = event 3 2 0 0 tn lrn 1 t d

abbrev new_on : ℕ → NewSide
new_on d = record { provider = 2; created = true; lrn = record { 0 = lrn }; due = d }

abbrev old_on : ℕ → OldSide
old_on d = record { provider = 1; created = true; authorization = yes; cause = 0; due = d }

-- provider 1 says no, with cause 50, and then provider 2 concurs in conflict
abbrev objection : Event
objection = record {
  kind = 2;
  sender = 1;
  other = 2;
  mark = no;
  cause = 50;
  tn = record { 0 = tn };
  lrn = record { 0 = 0 };
  version = 0;
  time = 10;
  due = 100;
  within = 0;
}

abbrev objected : NewSide → ℕ → Version
objected new t =
    row 1 conflict t false new (record { provider = 1; created = true; authorization = no; cause = 50; due = 100 }) false no_broadcast

pub due_dates : List Example
due_dates =
    -- A second later or a second earlier: 18. Too early as well: 8. One that does not fit: 9. With the same date: done.
    given (asks12 0 256) []
    (done (new_side 2 1 10) (created_to 1 (1 ∷ 2 ∷ [])) (single 1 10 2 1 ∷ [])
    ∷ refused (old_due 101 20) 18 (single 1 10 2 1 ∷ [])
    ∷ refused (old_due 99 20) 18 (single 1 10 2 1 ∷ [])
    ∷ refused (old_due 101 9) 8 (single 1 10 2 1 ∷ [])
    ∷ refused (event 2 1 3 1 tn 0 0 20 101) 9 (single 1 10 2 1 ∷ [])
    ∷ done (old_due 100 20) (attributes_to 1 (1 ∷ 2 ∷ [])) (agreed_on 1 20 2 1 ∷ [])
    -- A modify may part the dates again.
    ∷ done (postponed 101 30) (attributes_to 1 (1 ∷ 2 ∷ [])) (row 1 pending 30 false (new_on 101) (old_by 1) false no_broadcast ∷ [])
    ∷ []
    )
    -- The first's date is the one that stands in the row now.
    ∷ given (asks12 0 256) []
    (done (new_side 2 1 10) (created_to 1 (1 ∷ 2 ∷ [])) (single 1 10 2 1 ∷ [])
    ∷ done (postponed 101 15) (attributes_to 1 (1 ∷ 2 ∷ [])) (row 1 pending 15 false (new_on 101) (old_absent 1) false no_broadcast ∷ [])
    ∷ refused (old_due 100 20) 18 (row 1 pending 15 false (new_on 101) (old_absent 1) false no_broadcast ∷ [])
    ∷ done (old_due 101 20) (attributes_to 1 (1 ∷ 2 ∷ [])) (row 1 pending 20 false (new_on 101) (old_on 101) false no_broadcast ∷ [])
    ∷ []
    )
    -- Its old side is not the current provider as well: 12.
    ∷ given (asks12 0 256) (live_one ∷ single 2 10 3 1 ∷ [])
    (refused (event 2 1 3 1 tn 0 0 20 101) 12 (live_one ∷ single 2 10 3 1 ∷ []) ∷ [])
    -- In conflict alike, and for the new side.
    ∷ given (asks12 0 256) []
    (done objection (map (message false creation 1 conflict nobody 0) (1 ∷ 2 ∷ [])) (objected (new_absent 2) 10 ∷ [])
    ∷ refused (new_due 101 20) 18 (objected (new_absent 2) 10 ∷ [])
    ∷ done (new_due 100 20) (map (message false attributes 1 conflict nobody lrn) (1 ∷ 2 ∷ [])) (objected (new_on 100) 20 ∷ [])
    ∷ []
    )
    ∷ []

-- ---- an instance of demand 3, with both of its cases

-- Systems 1 and 2 are asked.
abbrev pub waiting_table : List Version
waiting_table = sends 1 100 2 1 nobody both nobody ∷ []

-- 1 replies at 105, 2 fails at 103, and provider 2 creates for another number.
abbrev other : ℕ
other = 3035550101

abbrev elsewhere : Event
elsewhere = event 1 2 1 0 other lrn 0 110 100

abbrev pub in_order : List Event
in_order = success 1 1 105 ∷ failing 2 1 103 ∷ elsewhere ∷ []

-- The two answers are exchanged, then the first of them with the create.
abbrev pub places : List ℕ
places = 0 ∷ 1 ∷ []

abbrev created : Version
created = row_for other 1 pending 110 false (new_by 2) (old_absent 1) false no_broadcast

-- the version closed: with the largest arrival as its stamp
abbrev settled_one : Version
settled_one = closes 1 partial_failure 105 true 2 1 (only 1) (only 2)

-- In either order each event is done, the table after them is the same, and so is what each system is told.
pub exchanged : List Example
exchanged =
    given (asks12 0 256) waiting_table
    (done (success 1 1 105) [] (sends 1 105 2 1 (only 1) (only 2) nobody ∷ [])
    ∷ done (failing 2 1 103) (status_to 1 partial_failure (only 2) (1 ∷ 2 ∷ [])) (settled_one ∷ [])
    ∷ done elsewhere (created_for other 1 (1 ∷ 2 ∷ [])) (settled_one ∷ created ∷ [])
    ∷ []
    )
    ∷ given (asks12 0 256) waiting_table
    (done (failing 2 1 103) [] (sends 1 103 2 1 nobody (only 1) (only 2) ∷ [])
    ∷ done elsewhere (created_for other 1 (1 ∷ 2 ∷ [])) (sends 1 103 2 1 nobody (only 1) (only 2) ∷ created ∷ [])
    ∷ done (success 1 1 105) (status_to 1 partial_failure (only 2) (1 ∷ 2 ∷ [])) (settled_one ∷ created ∷ [])
    ∷ []
    )
    ∷ []

-- The premises hold, each exchange may be made, and the examples have the two orders.
pub record Instance : Type 0 where
  pub premises : Premises (asks12 0 256) in_order waiting_table
  pub may : May (Exchangeable (line (asks12 0 256))) places in_order
  pub orders : map (λ (x : Example). map (λ (y : Stage). y.event) x.stages) exchanged ≡ in_order ∷ reorder places in_order ∷ []
  pub passed : all_pass exchanged ≡ true

-- ---- the statements

computed : (all_pass examples ≡ true) × (passes listing ≡ true) × (all_pass slips ≡ true) × (all_pass due_dates ≡ true)
    × (all_pass twins ≡ true) × (all_pass insides ≡ true)
unfolding accepted acknowledged again another_due answered apart asked_again asked_for broadcasts busy busy_with cancelled cast_in_range
    cause_fits
    class_of close_to closed closing_told concurred creates current_for early every exhausted filters fits fits_bits fresh_version full
    grid_rule
    heard in_range kind_fits line_in manages members moved new_modified new_whole none_twice not_current octal old_modified old_whole
    one_each opened
    order own_cancel owner_of partner_of resolved retired retires retries_fit retries_in_range rule selected_for sets_apart settled settles
    settling_told sides_needed skipped sound_books sound_codes sound_filters sound_line sound_lines sound_marks sound_splits sound_table
    sound_version
    standing_of step unawaited unfit unready unsound used well_formed window_marked window_runs window_spent window_turned with_octal
    with_used
    member mask_of meet size examples listing slips due_dates twins insides
computed = (refl, refl, refl, refl, refl, refl)

pub worked_examples : all_pass examples ≡ true
worked_examples = computed.0

pub the_listing : passes listing ≡ true
the_listing = computed.1

pub slips_shut_out : all_pass slips ≡ true
slips_shut_out = computed.2

pub dates_shown : all_pass due_dates ≡ true
dates_shown = computed.3

pub twins_computed : all_pass twins ≡ true
twins_computed = computed.4

pub insides_computed : all_pass insides ≡ true
insides_computed = computed.5

pub an_instance : Instance
unfolding accepted acknowledged again another_due answered apart asked_again asked_for broadcasts busy busy_with cancelled cast_in_range
    cause_fits
    class_of close_to closed closing_told concurred creates current_for early every exhausted filters fits fits_bits fresh_version full
    grid_rule
    heard in_range kind_fits line_in manages members moved new_modified new_whole none_twice not_current octal old_modified old_whole
    one_each opened
    order own_cancel owner_of partner_of resolved retired retires retries_fit retries_in_range rule selected_for sets_apart settled settles
    settling_told sides_needed skipped sound_books sound_codes sound_filters sound_line sound_lines sound_marks sound_splits sound_table
    sound_version
    standing_of step unawaited unfit unready unsound used well_formed window_marked window_runs window_spent window_turned with_octal
    with_used
    member mask_of meet size exchanged
an_instance = record {
  premises = record { sound = refl; free = omega arith; formed = with refl (with refl (with refl none)) };
  may = (
    answers (record { first = refl; second = refl; lines = refl; versions = refl; systems = λ q. absurd (omega arith) }),
    (lines (λ q. absurd (omega arith)), tt),
  );
  orders = refl;
  passed = refl;
}
