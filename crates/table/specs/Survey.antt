-- What the versions of one line have together, and of which the rules speak. [R2, Q1, C1, C2, W4]
-- Assumes nothing.
use Rattle.std.specs.Prelude.{ℕ, ◌<◌, ◌≡◌, Bool, cond, ◌||◌, List, [], ◌∷◌, ◌++◌, eqb, ltb, length, get_or, Option, Some, None}
use Rattle.std.proofs.Math.Option.{none, some}
use Rattle.std.proofs.Math.Option as model
use Rattle.model.specs.declared.Version.{Version}
use Rattle.model.specs.Basics.{any, keep, first, largest}
use Rattle.model.specs.Table.{rows_of}
use Rattle.model.specs.Given.{with_number, besides}
use Rattle.model.specs.Sound.{live, sends, worked}
use Rattle.row.specs.Layout.{unpack}
use Rattle.scan.specs.Sound.{itself}
use Rattle.table.specs.declared.survey.Pass.{Pass}
use Rattle.table.specs.declared.survey.Placed.{Placed}
use Rattle.table.specs.declared.survey.Facts.{Facts}

-- ---- a version that was seen

-- what stands at a place of a list
abbrev pub version_at : List Version → ℕ → Version
version_at t i = get_or t i (unpack [])

-- a version at its place
abbrev pub at_place : ℕ → Version → Placed
at_place i v = record { at = i; version = v }

-- the version that was seen
abbrev pub the_one : Option Placed → model.Option Version
the_one None = none
the_one (Some p) = some p.version

-- and as a list
abbrev pub list_of : model.Option Version → List Version
list_of none = []
list_of (some v) = v ∷ []

-- it stands where it was seen
abbrev pub Stands : List Version → Option Placed → Type 0
Stands t None = Unit {0}
Stands t (Some p) = (p.at < length t) × (version_at t p.at ≡ p.version)

-- a version was found, at its place
pub record Found (t : List Version) (s : Option Placed) (o : model.Option Version) : Type 0 where
  pub is : the_one s ≡ o
  pub stands : Stands t s

-- the version at a place, or nobody where the place is none of n
abbrev pub seen_at : List Version → ℕ → ℕ → Option Placed
seen_at t n i = cond (ltb i n) (Some (at_place i (version_at t i))) None

-- ---- the rows of a line

-- of the two TNs the larger one's rows, where they differ
abbrev pub rows_beyond : ℕ → ℕ → List Version → List Version
rows_beyond low high t = cond (ltb low high) (rows_of itself high t) []

-- the rows under either of two TNs
abbrev pub rows_under : ℕ → ℕ → List Version → List Version
rows_under low high t = keep (λ (v : Version). eqb v.id.tn.0 low || eqb v.id.tn.0 high) t

-- ---- what the rules ask

-- the facts of the versions r, which stand in the table t, with the version numbered k and the others
pub record Summed (t r : List Version) (k : ℕ) (f : Facts) : Type 0 where
  pub newest : f.newest ≡ largest (λ (v : Version). v.id.number) r
  pub stamp : f.stamp ≡ largest (λ (v : Version). v.stamp) r
  pub sending : f.sends ≡ any sends r
  pub blocked : f.blocked ≡ any sends (besides k r)
  pub former : Found t f.former (first live (besides k r))
  pub live : Found t f.live (first live r)
  pub worked : Found t f.worked (first worked r)
  pub asked : Found t f.asked (with_number k r)

-- the facts that a pass has, where n rows are used
abbrev pub facts_at : List Version → ℕ → Pass → Facts
facts_at t n p = record {
  newest = p.newest;
  stamp = p.stamp;
  sends = p.sends;
  blocked = p.blocked;
  former = seen_at t n p.former;
  live = seen_at t n p.live;
  worked = seen_at t n p.worked;
  asked = seen_at t n p.asked;
}

-- the pass p, gone on over the versions l before those that it has seen, is q
abbrev pub Adds : List Version → ℕ → ℕ → List Version → Pass → Pass → Type 0
Adds t n k l p q = (r : List Version) → Summed t r k (facts_at t n p) → Summed t (l ++ r) k (facts_at t n q)

-- the same as a create asks for them, or any other event that names the number k
pub record Surveyed (t r : List Version) (k : ℕ) (create : Bool) (f : Facts) : Type 0 where
  pub newest : f.newest ≡ largest (λ (v : Version). v.id.number) r
  pub stamp : f.stamp ≡ largest (λ (v : Version). v.stamp) r
  pub sending : f.sends ≡ any sends r
  pub blocked : f.blocked ≡ any sends (besides k r)
  pub former : Found t f.former (cond create none (first live (besides k r)))
  pub live : Found t f.live (cond create (first live r) none)
  pub worked : Found t f.worked (cond create (first worked r) none)
  pub asked : Found t f.asked (cond create none (with_number k r))
