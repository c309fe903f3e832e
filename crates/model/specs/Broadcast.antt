-- Broadcast, second part: kinds 5, 9, 10 and 14 start one.
-- Assumes nothing.
use Rattle.std.specs.Prelude.{ℕ, Bool, cond, List, ◌∷◌, ◌++◌, eqb}
use Rattle.systems.specs.Set.{meet}
use Rattle.model.specs.Kinds as kind
use Rattle.model.specs.Books.{Books}
use Rattle.model.specs.Selection.{selected_for}
use Rattle.model.specs.Retries.{no_retries}
use Rattle.model.specs.Table.{put}
use Rattle.model.specs.Versions.{recast, rerouted}
use Rattle.model.specs.Sound.{sending, activate, modify, disconnect}
use Rattle.model.specs.Given.{Result, accept}
use Rattle.model.specs.Tray.{downloads}
use Rattle.model.specs.Closing.{settled, settles, settling_told}
use Rattle.model.specs.declared.NewSide.{NewSide}
use Rattle.model.specs.declared.Event.{Event}
use Rattle.model.specs.declared.Version.{Version}

abbrev pub resends : Event → Bool
resends e = eqb e.kind kind.resend

-- 5, 9, 10 take purpose activate, modify, disconnect; 14 keeps the purpose. [D2, D3]
abbrev pub purpose_for : Event → Version → ℕ
purpose_for e v = cond (resends e) v.cast.purpose
    (cond (eqb e.kind kind.activate) activate (cond (eqb e.kind kind.modify_active) modify disconnect))

-- 5, 9, 10 ask all selected systems; 14 asks those failed that are selected now. [D2, D3]
unfoldable pub asked_for : ℕ → Event → Version → ℕ
asked_for selected e v = cond (resends e) (meet v.cast.failed selected) selected

-- 9 replaces the LRN at once. [D1]
abbrev pub new_for : Event → Version → NewSide
new_for e v = cond (eqb e.kind kind.modify_active) (rerouted v.new e.lrn v.new.due) v.new

-- The status becomes sending, the start the event's time; 5, 9, 10 clear confirmed and failed, 14 keeps confirmed, and who is not asked
-- leaves the failed set; retries start at 0. [D1, D2, D3, D4]
unfoldable pub opened : ℕ → Event → Version → Version
opened selected e v = recast v sending e.time v.live (new_for e v) (record {
  purpose = purpose_for e v;
  start = e.time;
  confirmed = cond (resends e) v.cast.confirmed 0;
  waiting = asked_for selected e v;
  failed = 0;
  retries = no_retries;
})

-- With nobody to ask it closes at once. [D4]
abbrev pub broadcast_of : Version → List Version → Result
broadcast_of w others = accept (downloads w ++ settling_told w) (put (settled w) ∷ settles w others)

unfoldable pub broadcasts : Books → Event → Version → List Version → Result
broadcasts bk e v others = broadcast_of (opened (selected_for bk v.id.tn) e v) others
