-- What the rules are told of books and table, and what is promised of their verdict.
-- Assumes nothing.
use Rattle.std.specs.Prelude.{◌≡◌, ℕ, ◌+◌, ◌<◌, Bool, true, false, cond, List, ◌∷◌, length, Option, Some, None}
use Rattle.std.proofs.Math.Option.{none, some}
use Rattle.model.specs.Basics.{keep}
use Rattle.model.specs.Numbers.{code_of}
use Rattle.model.specs.Books.{Books, owner_of}
use Rattle.model.specs.Table.{put, find}
use Rattle.model.specs.Sound.{live}
use Rattle.model.specs.Record.{is_create, is_broadcast}
use Rattle.model.specs.Given.{Given, Result, with_number, besides, newest, worked_one}
use Rattle.model.specs.Selection.{selected_for}
use Rattle.model.specs.Closing.{open?, takes_over, settled, settles}
use Rattle.model.specs.Creates.{creates}
use Rattle.model.specs.Step.{manages, rule}
use Rattle.model.specs.Refusals.{absent}
use Rattle.model.proofs.SoundRows.{Row}
use Rattle.table.specs.Survey.{Surveyed, Stands, the_one, list_of, version_at}
use Rattle.table.specs.declared.survey.Facts.{Facts}
use Rattle.table.specs.declared.survey.Placed.{Placed}
use Rattle.verdict.specs.Verdict.{changes_of, result_of}
use Rattle.verdict.specs.declared.Rows.{Rows}
use Rattle.verdict.specs.declared.Rows.TheVariants.{Nothing, Put, PutTwo, Add, Strike}
use Rattle.verdict.specs.declared.Mail.TheVariants.{Silence}
use Rattle.verdict.specs.declared.Verdict.{Verdict}
use Rattle.rules.specs.declared.Known.{Known}
use Rattle.model.specs.declared.Id.{Id}
use Rattle.model.specs.declared.Event.{Event}
use Rattle.model.specs.declared.Version.{Version}
use Rattle.model.specs.declared.Outcome.{Outcome}

-- ---- places

-- at place i of t stands a version of the name k
abbrev pub Holds : List Version → ℕ → Id → Type 0
Holds t i k = (i < length t) × ((version_at t i).id ≡ k)

-- each version that is put stands over the one of its name, and one that is added is new and has a free row
abbrev pub Sits : List Version → Bool → Rows → Type 0
Sits t free Nothing = Unit {0}
Sits t free (Put v i) = Holds t i v.id
Sits t free (PutTwo v i w j) = Holds t i v.id × Holds t j w.id
Sits t free (Add v) = (free ≡ true) × (find v.id t ≡ none)
Sits t free (Strike i k) = Holds t i k

-- of the other versions just the one that was seen is live, and it stands in t
pub record Lives (t : List Version) (s : Option Placed) (rest : List Version) : Type 0 where
  pub only : keep live rest ≡ list_of (the_one s)
  pub stands : Stands t s

-- ---- the verdict

-- it is the model's result, at the places of the table t
pub record Says (x : Result) (t : List Version) (free : Bool) (v : Verdict) : Type 0 where
  pub is : result_of v ≡ x
  pub sits : Sits t free v.rows

-- a result that changes the row of the name k at place i
abbrev pub Puts : Result → ℕ → Id → Verdict → Type 0
Puts x i k v = (t : List Version) (free : Bool) → Holds t i k → Says x t free v

-- one that may change the live one of the other versions too
abbrev pub Settles : (List Version → Result) → ℕ → Id → Option Placed → Verdict → Type 0
Settles x i k lives v = (t rest : List Version) (free : Bool) → Holds t i k → Lives t lives rest → Says (x rest) t free v

-- one that adds a version of the name k
abbrev pub Adds : Result → Id → Verdict → Type 0
Adds x k v = (t : List Version) (free : Bool) → free ≡ true → find k t ≡ none → Says x t free v

-- ---- what it is told

-- the live version that the close of w makes old, if any
abbrev pub replaced_by : Version → Option Placed → Option Placed
replaced_by w lives = cond (open? w) None (cond (takes_over w) lives None)

-- w settles at place i: it stays open, or closes with what that brings
abbrev pub Settled : ℕ → Version → Option Placed → Rows → Type 0
Settled i w lives r = (t rest : List Version) (free : Bool) → Holds t i w.id → Lives t lives rest
    → (changes_of r ≡ put (settled w) ∷ settles w rest) × Sits t free r

-- any kind but creates and answers, for v at place i; a broadcast asks the selected
abbrev pub Manages : ℕ → ℕ → Event → Version → Option Placed → Verdict → Type 0
Manages selected i e v lives r =
    (bk : Books) → (is_broadcast e.kind ≡ true → selected ≡ selected_for bk v.id.tn) → Settles (manages bk e v) i v.id lives r

-- a create, where `last` is the newest number of its rows and `worked` their worked version
abbrev pub Creates : Event → ℕ → Option Placed → Verdict → Type 0
Creates e last worked v =
    (t rows : List Version) (free : Bool) → last ≡ newest rows → the_one worked ≡ worked_one rows → Stands t worked
    → (the_one worked ≡ none → (free ≡ true) × (find (record { tn = e.tn; number = last + 1 }) t ≡ none)) → Says (creates e rows) t free v

-- the version that was seen is sound
abbrev pub Kept : Option Placed → Type 0
Kept None = Unit {0}
Kept (Some p) = Row p.version

-- what the model's rule is given
abbrev pub given_by : Books → Known → Event → List Version → Given
given_by bk k e r = record { books = bk; most = k.most; free = k.free; event = e; rows = r }

-- the values are those of these books and of these rows of the table t
pub record Facing (bk : Books) (r t : List Version) (e : Event) (k : Known) (f : Facts) : Type 0 where
  pub absent : k.absent ≡ absent bk e
  pub owner : is_create e.kind ≡ true → k.owner ≡ owner_of bk (code_of e.tn)
  pub selected : is_broadcast e.kind ≡ true → (v : Version) → with_number e.version r ≡ some v
      → k.selected ≡ selected_for bk v.id.tn
  pub survey : Surveyed t r e.version (is_create e.kind) f
  pub lives : is_create e.kind ≡ false → Lives t f.former (besides e.version r)
  pub fresh : (n : ℕ) → newest r < n → find (record { tn = e.tn; number = n }) t ≡ none

-- the verdict says the model's rule, whatever books and rows the values are of
abbrev pub Decides : Event → Known → Facts → Verdict → Type 0
Decides e k f v = (bk : Books) (r t : List Version) → Facing bk r t e k f → Says (rule (given_by bk k e r)) t k.free v

-- a refusal: nothing changes, and nobody is told
abbrev pub refused_by : Outcome → Verdict
refused_by o = record { out = o; rows = Nothing; mail = Silence }
