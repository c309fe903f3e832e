-- Modifies, cancel, resolve and window: what they make of a version. Each sets the stamp to the event's time. [R3]
-- Assumes nothing.
use Rattle.std.specs.Prelude.{ℕ, Bool, true, cond, ◌&&◌, ◌||◌, [], ◌∷◌, eqb}
use Rattle.model.specs.Kinds as kind
use Rattle.model.specs.Table.{put}
use Rattle.model.specs.Versions.{restated, rerouted, reauthorized}
use Rattle.model.specs.Sound.{pending, conflict, cancel_pending, canceled, yes, no}
use Rattle.model.specs.Standing.{as_new, standing_of, nobody, canceller_as}
use Rattle.model.specs.Given.{Result, accept}
use Rattle.model.specs.Tray.{status_told, restated_told, window_told}
use Rattle.model.specs.declared.Event.{Event}
use Rattle.model.specs.declared.Version.{Version}

-- ---- modifies

-- 3 replaces LRN and due. [M1]
unfoldable pub new_modified : Event → Version → Version
new_modified e v = restated v v.status e.time (rerouted v.new e.lrn e.due) v.old v.canceller v.window

-- 4 replaces its three values; "no" makes conflict, "yes" pending. [M2]
unfoldable pub old_modified : Event → Version → Version
old_modified e v =
    restated v (cond (eqb e.mark no) conflict pending) e.time v.new (reauthorized v.old e.mark e.cause e.due)
    v.canceller v.window

abbrev pub modified : Event → Version → Version
modified e v = cond (eqb e.kind kind.new_modifies) (new_modified e v) (old_modified e v)

abbrev pub modifies : Event → Version → Result
modifies e v = accept (restated_told v (modified e v)) (put (modified e v) ∷ [])

-- ---- another status, with its canceller and window marks

abbrev pub turned : Event → Version → ℕ → ℕ → Bool → Version
turned e v status canceller window = restated v status e.time v.new v.old canceller window

abbrev pub turns : Version → Result
turns w = accept (status_told w) (put w ∷ [])

-- One side created: canceled. Both: cancel-pending, canceller marked. [K1]
unfoldable pub cancelled : Event → Version → Version
cancelled e v =
    cond (v.new.created && v.old.created) (turned e v cancel_pending (canceller_as (standing_of e v)) v.window)
    (turned e v canceled v.canceller v.window)

-- 7 by the other side: canceled. [K2]
unfoldable pub acknowledged : Event → Version → Version
acknowledged e v = turned e v canceled nobody v.window

-- 7 by the canceller: 11. [K2]
unfoldable pub own_cancel : Event → Version → Bool
own_cancel e v = eqb v.canceller (canceller_as (standing_of e v))

-- Resolve: pending, authorization yes, cause 0. [K3]
unfoldable pub resolved : Event → Version → Version
resolved e v = restated v pending e.time v.new (reauthorized v.old yes 0 v.old.due) v.canceller v.window

-- ---- window

-- Pending, new side absent: canceled. [K4] Cancel-pending: canceled if the new side cancelled; otherwise conflict. [K5]
unfoldable pub window_turned : Event → Version → Version
window_turned e v =
    cond (eqb v.status cancel_pending) (turned e v (cond (eqb v.canceller (canceller_as as_new)) canceled conflict) nobody v.window)
    (turned e v canceled v.canceller v.window)

-- old side absent and unmarked: marked [K4]
unfoldable pub window_marked : Event → Version → Version
window_marked e v = turned e v v.status v.canceller true

-- the window is the old side's: pending, and the new side has created
abbrev pub awaits_old : Version → Bool
awaits_old v = eqb v.status pending && v.new.created

-- otherwise 11 [K4]
unfoldable pub window_spent : Version → Bool
window_spent v = awaits_old v && (v.old.created || v.window)

abbrev pub window_marks : Event → Version → Result
window_marks e v = accept (window_told (window_marked e v)) (put (window_marked e v) ∷ [])

unfoldable pub window_runs : Event → Version → Result
window_runs e v = cond (awaits_old v) (window_marks e v) (turns (window_turned e v))
