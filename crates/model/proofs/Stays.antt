-- What no rule changes: a version that a rule leaves keeps its name, and until the close of a broadcast it is live as before.
-- Assumes nothing.
use mathlib.Core.Path.{◌≡◌, refl}
use Prim.Native.Nat.{ℕ}
use mathlib.Core.Bool.{Bool, ◌&&◌}
use lib.Dec.{eqb}
use Rattle.model.specs.Sound.{cancel_pending}
use Rattle.model.specs.Versions.{changed}
use Rattle.model.specs.Creates.{concurred}
use Rattle.model.specs.Changes.{new_modified, old_modified, modified, cancelled, acknowledged, resolved, window_marked, window_turned}
use Rattle.model.specs.Broadcast.{opened}
use Rattle.model.specs.Answers.{heard}
use Rattle.model.proofs.Lists.{either}
use Rattle.model.specs.declared.NewSide.{NewSide}
use Rattle.model.specs.declared.OldSide.{OldSide}
use Rattle.model.specs.declared.Broadcast.{Broadcast}
use Rattle.model.specs.declared.Event.{Event}
use Rattle.model.specs.declared.Version.{Version}

pub record Stays (v w : Version) : Type 0 where
  pub name : w.id ≡ v.id
  pub live : w.live ≡ v.live

-- the one law
stays : {v : Version} {status stamp : ℕ} {new : NewSide} {old : OldSide} {canceller : ℕ} {window : Bool} {cast : Broadcast}
    → Stays v (changed v status stamp v.live new old canceller window cast)
stays = record { name = refl; live = refl }

-- ---- of each rule

pub concurred_stays : (e : Event) (v : Version) → Stays v (concurred e v)
unfolding concurred
concurred_stays e v = stays

pub new_modified_stays : (e : Event) (v : Version) → Stays v (new_modified e v)
unfolding new_modified
new_modified_stays e v = stays

pub old_modified_stays : (e : Event) (v : Version) → Stays v (old_modified e v)
unfolding old_modified
old_modified_stays e v = stays

pub modified_stays : (e : Event) (v : Version) → Stays v (modified e v)
modified_stays e v = either (Stays v) (eqb e.kind 3) (new_modified_stays e v) (old_modified_stays e v)

pub cancelled_stays : (e : Event) (v : Version) → Stays v (cancelled e v)
unfolding cancelled
cancelled_stays e v = either (Stays v) (v.new.created && v.old.created) stays stays

pub acknowledged_stays : (e : Event) (v : Version) → Stays v (acknowledged e v)
unfolding acknowledged
acknowledged_stays e v = stays

pub resolved_stays : (e : Event) (v : Version) → Stays v (resolved e v)
unfolding resolved
resolved_stays e v = stays

pub window_marked_stays : (e : Event) (v : Version) → Stays v (window_marked e v)
unfolding window_marked
window_marked_stays e v = stays

pub window_turned_stays : (e : Event) (v : Version) → Stays v (window_turned e v)
unfolding window_turned
window_turned_stays e v = either (Stays v) (eqb v.status cancel_pending) stays stays

pub opened_stays : (s : ℕ) (e : Event) (v : Version) → Stays v (opened s e v)
unfolding opened
opened_stays s e v = stays

pub heard_stays : (most : ℕ) (e : Event) (v : Version) → Stays v (heard most e v)
unfolding heard
heard_stays most e v = stays
