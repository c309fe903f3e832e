-- Creates: the current provider, a fresh version, concurrence.
-- Assumes nothing.
use Rattle.std.specs.Prelude.{ℕ, suc, Bool, true, false, cond, not, ◌&&◌, List, [], ◌∷◌, eqb}
use Rattle.std.proofs.Math.Option.{Option, none, some}
use Rattle.model.specs.Kinds as kind
use Rattle.model.specs.Numbers.{code_of}
use Rattle.model.specs.Books.{Books, owner_of}
use Rattle.model.specs.Table.{put, add}
use Rattle.model.specs.Versions.{restated}
use Rattle.model.specs.Retries.{no_retries}
use Rattle.model.specs.Sound.{pending, conflict, cancel_pending, no}
use Rattle.model.specs.Standing.{nobody}
use Rattle.model.specs.Record.{is_within}
use Rattle.model.specs.Given.{Result, accept, newest, live_one, worked_one}
use Rattle.model.specs.Tray.{no_lrn, created_told, restated_told}
use Rattle.model.specs.declared.NewSide.{NewSide}
use Rattle.model.specs.declared.OldSide.{OldSide}
use Rattle.model.specs.declared.Broadcast.{Broadcast}
use Rattle.model.specs.declared.Event.{Event}
use Rattle.model.specs.declared.Version.{Version}

-- the two providers that a create names
abbrev pub by_new : Event → Bool
by_new e = eqb e.kind kind.new_creates

abbrev pub new_in : Event → ℕ
new_in e = cond (by_new e) e.sender e.other

abbrev pub old_in : Event → ℕ
old_in e = cond (by_new e) e.other e.sender

-- The current provider is the live version's new provider, else the code's owner. [C1]
abbrev pub current_or : ℕ → Option Version → ℕ
current_or owner none = owner
current_or owner (some v) = v.new.provider

unfoldable pub current_for : Books → Event → List Version → ℕ
current_for bk e r = current_or (owner_of bk (code_of e.tn)) (live_one r)

-- ---- the values of a side

abbrev pub new_from : Event → ℕ → NewSide
new_from e p = record { provider = p; created = true; lrn = e.lrn; due = e.due }

abbrev pub old_from : Event → ℕ → OldSide
old_from e p = record { provider = p; created = true; authorization = e.mark; cause = e.cause; due = e.due }

abbrev pub new_absent : ℕ → NewSide
new_absent p = record { provider = p; created = false; lrn = no_lrn; due = 0 }

abbrev pub old_absent : ℕ → OldSide
old_absent p = record { provider = p; created = false; authorization = 0; cause = 0; due = 0 }

-- the side that creates takes the event's values, the other stays
abbrev pub new_joined : Event → NewSide → NewSide
new_joined e s = cond (by_new e) (new_from e s.provider) s

abbrev pub old_joined : Event → OldSide → OldSide
old_joined e s = cond (by_new e) s (old_from e s.provider)

-- Conflict if the version's authorization is "no", else as given. [C4]
abbrev pub status_by : OldSide → ℕ → ℕ
status_by s else = cond (eqb s.authorization no) conflict else

-- ---- a fresh version [C2, A14.1]

abbrev pub no_broadcast : Broadcast
no_broadcast = record { purpose = 0; start = 0; confirmed = 0; waiting = 0; failed = 0; retries = no_retries }

-- otherwise empty, with a number
abbrev pub fresh_numbered : Event → ℕ → Version
fresh_numbered e n = record {
  id = record { tn = e.tn; number = n };
  status = status_by (old_joined e (old_absent (old_in e))) pending;
  stamp = e.time;
  live = false;
  new = new_joined e (new_absent (new_in e));
  old = old_joined e (old_absent (old_in e));
  canceller = nobody;
  window = false;
  within = is_within e;
  cast = no_broadcast;
}

-- numbered one above the newest, or 1
unfoldable pub fresh_version : Event → List Version → Version
fresh_version e r = fresh_numbered e (suc (newest r))

-- ---- concurrence [C3]

-- a worked version not in cancel-pending, with the same two providers and this side not yet created
unfoldable pub fits : Event → Version → Bool
fits e v =
    not (eqb v.status cancel_pending) && eqb v.new.provider (new_in e) && eqb v.old.provider (old_in e)
    && not (cond (by_new e) v.new.created v.old.created)

-- The due date of the first: of the side that has created, as it stands in the row now. [A4.1]
abbrev pub first_due : Event → Version → ℕ
first_due e v = cond (by_new e) v.old.due v.new.due

abbrev pub agrees : Event → Version → Bool
agrees e v = eqb e.due (first_due e v)

unfoldable pub concurred : Event → Version → Version
concurred e v =
    restated v (status_by (old_joined e v.old) v.status) e.time (new_joined e v.new) (old_joined e v.old) v.canceller
    v.window

-- ---- what a create does

abbrev pub create_on : Event → List Version → Option Version → Result
create_on e r none = accept (created_told (fresh_version e r)) (add (fresh_version e r) ∷ [])
create_on e r (some v) = accept (restated_told v (concurred e v)) (put (concurred e v) ∷ [])

unfoldable pub creates : Event → List Version → Result
creates e r = create_on e r (worked_one r)
