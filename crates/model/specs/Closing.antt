-- The close of a broadcast.
-- Assumes nothing.
use Rattle.std.specs.Prelude.{ℕ, Bool, false, cond, not, ◌&&◌, List, [], map, eqb}
use Rattle.model.specs.Basics.{keep}
use Rattle.model.specs.Table.{Change, put}
use Rattle.model.specs.Versions.{recast, repurposed}
use Rattle.model.specs.Sound.{failure, partial_failure, active, old, activate, disconnect, is_live, live}
use Rattle.model.specs.Tray.{no_lrn, to_soas, told_at_close}
use Rattle.model.specs.Tray as tray
use Rattle.model.specs.declared.Broadcast.{Broadcast}
use Rattle.model.specs.declared.Version.{Version}
use Rattle.model.specs.declared.Message.{Message}

-- When waiting is empty the broadcast closes. [W3]
abbrev pub open? : Version → Bool
open? v = not (eqb v.cast.waiting 0)

-- one of three: for failed empty, for both non-empty, for only confirmed empty [W3]
abbrev pub of_three : Bool → Bool → ℕ → ℕ → ℕ → ℕ
of_three none_failed none_confirmed confirmed both failed = cond none_failed confirmed (cond none_confirmed failed both)

-- Activate gives active, partial-failure, failed; modify always active; disconnect old, old, active. [W3]
abbrev pub close_by : Bool → Bool → Bool → Bool → ℕ
close_by none_failed none_confirmed act dis =
    cond act (of_three none_failed none_confirmed active partial_failure failure)
    (cond dis (of_three none_failed none_confirmed old old active) active)

unfoldable pub close_to : Broadcast → ℕ
close_to c = close_by (eqb c.failed 0) (eqb c.confirmed 0) (eqb c.purpose activate) (eqb c.purpose disconnect)

-- The start is cleared; turning old clears live and purpose; the rest stays. [W3, U2]
unfoldable pub closed : Version → Version
closed v =
    recast v (close_to v.cast) v.stamp (is_live (close_to v.cast)) v.new
    (repurposed v.cast (cond (eqb (close_to v.cast) old) 0 v.cast.purpose) 0)

-- Any other live version becomes old with the closing version's stamp. [W4]
unfoldable pub retired : ℕ → Version → Version
retired stamp v = recast v old stamp false v.new (repurposed v.cast 0 v.cast.start)

-- On the first two of activate. [W4]
abbrev pub takes_over : Version → Bool
takes_over v = eqb v.cast.purpose activate && (closed v).live

abbrev pub retiring : Version → Version → Change
retiring v w = put (retired v.stamp w)

unfoldable pub retires : Version → List Version → List Change
retires v others = cond (takes_over v) (map (retiring v) (keep live others)) []

-- The failed set stands in closing messages. [Y2, Y6]
unfoldable pub closing_told : Version → List Message
closing_told v = to_soas (closed v) tray.status v.cast.failed no_lrn (told_at_close v)

-- ---- a version whose broadcast stays open, or closes with what that brings

unfoldable pub settled : Version → Version
settled v = cond (open? v) v (closed v)

unfoldable pub settles : Version → List Version → List Change
settles v others = cond (open? v) [] (retires v others)

unfoldable pub settling_told : Version → List Message
settling_told v = cond (open? v) [] (closing_told v)
