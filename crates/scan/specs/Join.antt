-- What a version must be to come next in a table. [T2, V11]
-- Assumes nothing.
use Rattle.std.specs.Prelude.{ℕ, ◌/◌, ◌≡◌, Bool, true, false, not, ◌&&◌, ◌||◌, List, [], ◌∷◌, eqb, ltb, Option, None, Some}
use Rattle.model.specs.declared.Version.{Version}
use Rattle.model.specs.Sound.{live, sends, worked}
use Rattle.row.specs.Layout.{key_of}

-- the last version's place in the order, and whether a version of its number is live, sending, worked
pub record Group : Type 0 where
  pub last : ℕ
  pub live : Bool
  pub sends : Bool
  pub worked : Bool

abbrev pub start : Group
start = record { last = 0; live = false; sends = false; worked = false }

-- the version is of the last one's number
abbrev pub same : ℕ → Version → Bool
same k v = eqb v.id.tn.0 (k / 65536)

-- it has what a version of its number had before it, and must not
abbrev pub second : Bool → Bool → Bool → Bool
second s had has = s && had && has

-- what the versions of its number have now
abbrev pub either : Bool → Bool → Bool → Bool
either s had has = s && had || has

-- strictly rising; of one number at most one live, one sending, one worked
unfoldable pub follows : Group → Version → Bool
follows g v =
    ltb g.last (key_of v.id) && not (second (same g.last v) g.live (live v))
    && not (second (same g.last v) g.sends (sends v)) && not (second (same g.last v) g.worked (worked v))

unfoldable pub next : Group → Version → Group
next g v = record {
  last = key_of v.id;
  live = either (same g.last v) g.live (live v);
  sends = either (same g.last v) g.sends (sends v);
  worked = either (same g.last v) g.worked (worked v);
}

abbrev pub join_if : Bool → Option Group → Option Group → Option Group
join_if true a b = a
join_if false a b = b

unfoldable pub join_of : Group → Version → Option Group
join_of g v = join_if (follows g v) (Some (next g v)) None

-- each version may follow the ones before it
abbrev pub Chain : Group → List Version → Type 0
Chain g [] = Unit {0}
Chain g (v ∷ vs) = (follows g v ≡ true) × Chain (next g v) vs
