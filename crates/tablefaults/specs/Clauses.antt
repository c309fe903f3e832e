-- Where a table is unsound: document 01's clauses under the numbers of docs/FAULTS.md, asked of one row after the other.
-- Assumes nothing.
use Rattle.std.specs.Prelude.{ℕ, ◌*◌, ◌/◌, ◌%◌, ◌^◌, ◌≡◌, Bool, cond, not, ◌&&◌, List, [], ◌∷◌, eqb, ltb, leb, length}
use Rattle.std.specs.Prelude.{Option, Some, None}
use Rattle.faults.specs.declared.Found.{Found}
use Rattle.faults.specs.declared.Fault.{Fault}
use Rattle.faults.specs.Faults.{Clause, alone, beside, once, first_broken, before, nearest, broken, first_fault}
use Rattle.model.specs.declared.Broadcast.{Broadcast}
use Rattle.model.specs.declared.Version.{Version}
use Rattle.model.specs.Numbers.{ten_digits, is_provider, is_set, is_time, is_number}
use Rattle.model.specs.Sound.{retries_in_range, providers_fit, new_whole, old_whole, one_created, sides_needed, cause_fits, canceller_fits}
use Rattle.model.specs.Sound.{is_status}
use Rattle.model.specs.Sound.{is_purpose, is_canceller}
use Rattle.model.specs.Sound.{sets_apart, retries_fit, start_fits, waiting_fits, purpose_fits, live_fits, live_confirmed, live, sends}
use Rattle.model.specs.Sound.{worked}
use Rattle.model.specs.Sound.{within_fits, most_rows}
use Rattle.words.specs.declared.Words.{Words}
use Rattle.words.specs.Size.{ROW}
use Rattle.words.specs.Codec.{words_in, is_blank}
use Rattle.row.specs.Layout.{key_of, version_of, spareless}
use Rattle.rows.specs.Place.{row_at}

-- ---- a version by itself

-- every value in its range [V1]
abbrev pub sets_in_range : Broadcast → Bool
sets_in_range c = is_set c.confirmed && is_set c.waiting && is_set c.failed

-- (two bits hold no purpose above 3, and 32 no start beyond the last second: of a row's bytes only the retries can break it)
abbrev pub rest_in_range : Broadcast → Bool
rest_in_range c = is_purpose c.purpose && ltb c.start (2 ^ 32) && retries_in_range c.retries

abbrev pub range_clauses : Version → List Clause
range_clauses v =
    alone 5 (ten_digits v.id.tn.0)
    ∷ alone 6 (is_number v.id.number)
    ∷ alone 7 (is_status v.status)
    ∷ alone 8 (is_time v.stamp)
    ∷ alone 9 (is_provider v.new.provider)
    ∷ alone 10 (is_provider v.old.provider)
    ∷ alone 11 (is_canceller v.canceller)
    ∷ alone 12 (sets_in_range v.cast)
    ∷ alone 13 (rest_in_range v.cast)
    ∷ []

-- what the two sides have [V1 to V5, A14.7]
abbrev pub side_clauses : Version → List Clause
side_clauses v =
    alone 14 (providers_fit v)
    ∷ alone 15 (new_whole v.new)
    ∷ alone 16 (old_whole v.old)
    ∷ alone 17 (one_created v)
    ∷ alone 18 (sides_needed v)
    ∷ alone 19 (cause_fits v.old)
    ∷ alone 20 (canceller_fits v)
    ∷ []

-- what its broadcast has [V6 to V10]
abbrev pub cast_clauses : Version → List Clause
cast_clauses v =
    alone 21 (sets_apart v.cast)
    ∷ alone 22 (retries_fit v.cast)
    ∷ alone 23 (start_fits v)
    ∷ alone 24 (waiting_fits v)
    ∷ alone 25 (purpose_fits v)
    ∷ alone 26 (live_fits v)
    ∷ alone 27 (live_confirmed v)
    ∷ []

-- what the version type asks [A14.8]
abbrev pub type_clauses : Version → List Clause
type_clauses v = alone 37 (within_fits v) ∷ []

-- ---- a row among those before it

abbrev pub words_at : List ℕ → ℕ → Words
words_at t i = words_in (row_at t i)

abbrev pub version_at : List ℕ → ℕ → Version
version_at t i = version_of (words_at t i)

abbrev pub key_at : List ℕ → ℕ → ℕ
key_at t i = key_of (version_at t i).id

-- row j is free
abbrev pub free_at : List ℕ → ℕ → Bool
free_at t j = is_blank (words_at t j)

-- used rows first, free rows all zero; spare bits zero [T2, T3]
abbrev pub form_clauses : List ℕ → ℕ → Words → List Clause
form_clauses t i w = beside 3 (not (before (free_at t) i)) i ∷ alone 4 (spareless w) ∷ []

-- v is not above row j
abbrev pub sinks : List ℕ → Version → ℕ → Bool
sinks t v j = leb (key_of v.id) (key_at t j)

-- what is answered of a version is what p says
abbrev pub Tests : (Version → Bool → Type 0) → (Version → Bool) → Type 0
Tests post p = (v : Version) (b : Bool) → post v b → b ≡ p v

-- two versions of one TN that both have what it has at most once
abbrev pub share : (Version → Bool) → Version → Version → Bool
share p u v = eqb u.id.tn.0 v.id.tn.0 && p u && p v

-- the nearest row before row i that shares it with v, told from 1
abbrev pub sharer : (Version → Bool) → List ℕ → ℕ → Version → ℕ
sharer p t i v = nearest (λ (j : ℕ). share p (version_at t j) v) i

-- strictly rising; per TN at most one live, one sending, one worked version [T2, V11]
abbrev pub beside_clauses : List ℕ → ℕ → Version → List Clause
beside_clauses t i v =
    beside 28 (not (before (sinks t v) i)) i
    ∷ once 29 (sharer live t i v)
    ∷ once 30 (sharer sends t i v)
    ∷ once 31 (sharer worked t i v)
    ∷ []

-- ---- a table

-- what row i breaks: a free row nothing
unfoldable pub row_found : List ℕ → ℕ → Option Found
row_found t i =
    cond (free_at t i) None
    (first_broken (form_clauses t i (words_at t i))
    (first_broken (range_clauses (version_at t i))
    (first_broken (side_clauses (version_at t i))
    (first_broken (cast_clauses (version_at t i))
    (first_broken (beside_clauses t i (version_at t i))
    (first_broken (type_clauses (version_at t i)) None))))))

-- at most 4,096 whole rows [T1], and then row after row
unfoldable pub table_fault : List ℕ → Option Fault
table_fault t =
    cond (eqb (length t % ROW) 0)
    (cond (leb (length t) (most_rows * ROW)) (first_fault (row_found t) (length t / ROW) 0) (Some (broken 2)))
    (Some (broken 1))
