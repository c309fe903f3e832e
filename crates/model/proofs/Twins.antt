-- Worked tables: one line under the two codes of a split pair, event by event. Worked computes every outcome, message and row.
-- [A3.1 to A3.7]
-- Assumes nothing.
use Prim.Native.Nat.{ℕ}
use mathlib.Core.Bool.{true, false}
use mathlib.Core.List.{List, [], ◌∷◌, map}
use Rattle.model.specs.Creates.{old_absent, no_broadcast}
use Rattle.model.specs.Sound.{pending, sending, active, old, activate}
use Rattle.model.specs.Step.{Setting}
use Rattle.model.specs.Tray.{status, attributes, download}
use Rattle.model.proofs.Stages.{Example, nobody, only, both, everybody, filter, event, tn, lrn, new_side, success}
use Rattle.model.proofs.Stages.{row_for, row, new_by, old_by, single, agreed_on, cast, sends, closes, canceled_one}
use Rattle.model.proofs.Stages.{message_for, created_for, created_to, attributes_to, status_to, downloads_to, done, refused, given}
use Rattle.model.specs.declared.Version.{Version}

-- providers 1 to 3 with Local SMSs; 303555 is owned by 1, its partner 303556 by the given one; 3 filters both, so 1 and 2 are asked
abbrev paired : ℕ → Setting
paired owner = record {
  books = record {
    marks = record { present = everybody; local = everybody };
    codes = record { code = 303555; owner = 1 } ∷ record { code = 303556; owner = owner } ∷ [];
    filters = filter 3 303555 ∷ filter 3 303556 ∷ [];
    splits = record { one = 303556; other = 303555 } ∷ [];
  };
  most = 0;
  rows = 256;
  places = 64;
}

-- the line's other name
abbrev twin : ℕ
twin = 3035560100

-- version 2, created under the other name by provider 3, from 2, who has the live version 1
abbrev second : ℕ → Version
second t = row_for twin 2 pending t false (new_by 3) (old_absent 2) false no_broadcast

abbrev joined : ℕ → Version
joined t = row_for twin 2 pending t false (new_by 3) (old_by 2) false no_broadcast

abbrev asking : ℕ → ℕ → ℕ → Version
asking t confirmed waiting = row_for twin 2 sending t false (new_by 3) (old_by 2) false (cast activate 130 confirmed waiting nobody)

abbrev first : Version
first = closes 1 active 102 true 2 1 both nobody

abbrev former : Version
former = row 1 old 132 false (new_by 2) (old_by 1) false (cast 0 0 both nobody nobody)

abbrev taken : Version
taken = row_for twin 2 active 132 true (new_by 3) (old_by 2) false (cast activate 0 both nobody nobody)

unfoldable pub twins : List Example
twins =
    -- Created under one name: concurrence, activation and a reply under the other find the version, which keeps its name in row and
    -- messages.
    given (paired 1) []
    (done (new_side 2 1 10) (created_to 1 (1 ∷ 2 ∷ [])) (single 1 10 2 1 ∷ [])
    ∷ done (event 2 1 2 1 twin 0 0 20 100) (attributes_to 1 (1 ∷ 2 ∷ [])) (agreed_on 1 20 2 1 ∷ [])
    ∷ done (event 5 2 0 0 twin 0 1 100 0) (downloads_to activate 1 (1 ∷ 2 ∷ [])) (sends 1 100 2 1 nobody both nobody ∷ [])
    ∷ done (event 11 1 0 1 twin 0 1 101 0) [] (sends 1 101 2 1 (only 1) (only 2) nobody ∷ [])
    ∷ done (success 2 1 102) (status_to 1 active nobody (1 ∷ 2 ∷ [])) (first ∷ [])
    -- The live version's new provider is current, whatever name the create uses; its number is above the line's newest, its row has the
    -- event's name.
    ∷ refused (event 1 3 1 0 twin lrn 0 110 100) 12 (first ∷ [])
    ∷ done (event 1 3 2 0 twin lrn 0 110 100) (created_for twin 2 (2 ∷ 3 ∷ [])) (first ∷ second 110 ∷ [])
    ∷ refused (event 1 3 2 0 tn lrn 0 115 100) 9 (first ∷ second 110 ∷ [])
    ∷ done (event 2 2 3 1 tn 0 0 120 100) (map (message_for twin false attributes 2 pending nobody lrn) (2 ∷ 3 ∷ []))
    (first ∷ joined 120 ∷ [])
    -- The other name's stamp counts, and its sending version.
    ∷ refused (event 10 2 0 0 tn 0 1 119 0) 8 (first ∷ joined 120 ∷ [])
    ∷ done (event 5 3 0 0 tn 0 2 130 0) (map (message_for twin true (download activate) 2 sending nobody lrn) (1 ∷ 2 ∷ []))
    (first ∷ asking 130 nobody both ∷ [])
    ∷ refused (event 10 2 0 0 tn 0 1 131 0) 10 (first ∷ asking 130 nobody both ∷ [])
    ∷ done (success 1 2 131) [] (first ∷ asking 131 (only 1) (only 2) ∷ [])
    -- The close turns the live version under the other name old, and tells nobody of it.
    ∷ done (event 11 2 0 1 twin 0 2 132 0) (map (message_for twin false status 2 active nobody 0) (2 ∷ 3 ∷ [])) (former ∷ taken ∷ [])
    -- The newest of the line may not be purged; that of one name may.
    ∷ done (event 15 0 0 0 twin 0 1 140 0) [] (taken ∷ [])
    ∷ refused (event 5 3 0 0 tn 0 1 150 0) 5 (taken ∷ [])
    ∷ []
    )
    -- With no live version the owner is that of the code in the event.
    ∷ given (paired 3) []
    (refused (event 1 2 1 0 twin lrn 0 10 100) 12 []
    ∷ done (event 1 2 1 0 tn lrn 0 10 100) (created_to 1 (1 ∷ 2 ∷ [])) (single 1 10 2 1 ∷ [])
    ∷ refused (event 2 1 2 1 twin 0 0 20 100) 12 (single 1 10 2 1 ∷ [])
    ∷ []
    )
    -- A number twice in the line, or two worked versions of it: unsound. Without that the two names may have rows.
    ∷ given (paired 1) (canceled_one 1 5 ∷ row_for twin 1 pending 5 false (new_by 2) (old_absent 1) false no_broadcast ∷ [])
    (refused (new_side 2 1 10) 1 (canceled_one 1 5 ∷ row_for twin 1 pending 5 false (new_by 2) (old_absent 1) false no_broadcast ∷ []) ∷ [])
    ∷ given (paired 1) (single 1 5 2 1 ∷ row_for twin 2 pending 5 false (new_by 2) (old_absent 1) false no_broadcast ∷ [])
    (refused (new_side 2 1 10) 1 (single 1 5 2 1 ∷ row_for twin 2 pending 5 false (new_by 2) (old_absent 1) false no_broadcast ∷ []) ∷ [])
    ∷ given (paired 1) (canceled_one 2 5 ∷ row_for twin 1 pending 5 false (new_by 2) (old_absent 1) false no_broadcast ∷ [])
    (done (event 2 1 2 1 tn 0 0 20 100) (map (message_for twin false attributes 1 pending nobody lrn) (1 ∷ 2 ∷ []))
    (canceled_one 2 5 ∷ row_for twin 1 pending 20 false (new_by 2) (old_by 1) false no_broadcast ∷ []) ∷ [])
    ∷ []
