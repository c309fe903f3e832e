-- Where provider list and books are unsound: document 01's clauses under the numbers of docs/FAULTS.md, asked of one place after the other.
-- A place of the books is a number, and 0 is a free one.
-- Assumes nothing.
use Rattle.std.specs.Prelude.{Option, Some, None}
use Rattle.std.specs.Prelude.{ℕ, zero, suc, ◌/◌, ◌%◌, ◌^◌, Bool, cond, not, ◌&&◌, ◌||◌, List, [], ◌∷◌, map, eqb, ltb, leb, length, get_or}
use Rattle.systems.specs.Set.{member}
use Rattle.model.specs.Basics.{among}
use Rattle.model.specs.Numbers.{is_code, is_provider, last_provider}
use Rattle.model.specs.declared.Marks.{Marks}
use Rattle.faults.specs.declared.Found.{Found}
use Rattle.faults.specs.declared.Fault.{Fault}
use Rattle.faults.specs.Faults.{Clause, alone, beside, once, first_broken, nearest, broken, first_fault, or_else}
use Rattle.providers.specs.Providers.{listed, entry_of, marks_in}
use Rattle.bookfaults.specs.declared.lists.Listing.{Listing}
use Rattle.bookfaults.specs.declared.lists.Listing.TheVariants.{Codes, Filters, Pairs}
use Rattle.books.specs.Packed.{book_bytes, row_places, split_places, head_of, code_place, filter_place, split_place}

-- ---- the provider list [B1]

-- byte i: 0 absent, 1 present, 3 present and runs a Local SMS
abbrev pub mark_found : List ℕ → ℕ → Option Found
mark_found p i = first_broken (alone 2 (among (get_or p i 0) (0 ∷ 1 ∷ 3 ∷ [])) ∷ []) None

unfoldable pub providers_fault : List ℕ → Option Fault
providers_fault p = cond (leb (length p) last_provider) (first_fault (mark_found p) (length p) 0) (Some (broken 1))

-- ---- places of the books: place i is x, and the one before it is `last`

-- not the first place, and what is said of it and the one before it
abbrev pub later : ℕ → Bool → Bool
later i b = ltb 0 i && b

-- a provider that is present
abbrev pub here : Marks → ℕ → Bool
here m p = is_provider p && member m.present p

-- a code and its owner [B2]
abbrev pub code_clauses : Marks → ℕ → ℕ → ℕ → List Clause
code_clauses m i last x =
    beside 5 (not (later i (eqb last 0))) i
    ∷ alone 6 (is_code (x / 64))
    ∷ alone 7 (here m (x % 64))
    ∷ beside 8 (not (later i (leb (x / 64) (last / 64)))) i
    ∷ []

-- a provider and a code that it filters; by provider and then code is by place [B3]
abbrev pub filter_clauses : Marks → ℕ → ℕ → ℕ → List Clause
filter_clauses m i last x =
    beside 9 (not (later i (eqb last 0))) i
    ∷ alone 10 (here m (x / 2 ^ 20))
    ∷ alone 11 (is_code (x % 2 ^ 20))
    ∷ beside 12 (not (later i (leb x last))) i
    ∷ []

-- the code is one of the pair's
abbrev pub in_pair : ℕ → ℕ → Bool
in_pair x c = eqb (x / 2 ^ 32) c || eqb (x % 2 ^ 32) c

-- a code of pair u is one of pair x's
abbrev pub meets : ℕ → ℕ → Bool
meets u x = in_pair x (u / 2 ^ 32) || in_pair x (u % 2 ^ 32)

-- two codes of a split; `other` is the nearest pair before with one of them, told from 1 [B4]
abbrev pub pair_clauses : ℕ → ℕ → ℕ → ℕ → List Clause
pair_clauses other i last x =
    beside 13 (not (later i (eqb last 0))) i
    ∷ alone 14 (is_code (x / 2 ^ 32) && is_code (x % 2 ^ 32))
    ∷ alone 15 (not (eqb (x / 2 ^ 32) (x % 2 ^ 32)))
    ∷ once 16 other
    ∷ []

-- ---- the three lists

-- the places of a list
abbrev pub place_in : Listing → List ℕ → ℕ → ℕ
place_in Codes = code_place
place_in Filters = filter_place
place_in Pairs = split_place

abbrev pub places_of : Listing → ℕ
places_of Codes = row_places
places_of Filters = row_places
places_of Pairs = split_places

-- the place before place i, or 0
abbrev pub last_at : (ℕ → ℕ) → ℕ → ℕ
last_at w zero = 0
last_at w (suc j) = w j

abbrev pub met_by : (ℕ → ℕ) → ℕ → ℕ → ℕ
met_by w i x = nearest (λ (j : ℕ). meets (w j) x) i

abbrev pub clauses_in : Listing → Marks → (ℕ → ℕ) → ℕ → List Clause
clauses_in Codes m w i = code_clauses m i (last_at w i) (w i)
clauses_in Filters m w i = filter_clauses m i (last_at w i) (w i)
clauses_in Pairs m w i = pair_clauses (met_by w i (w i)) i (last_at w i) (w i)

-- what place i breaks: a free place nothing
unfoldable pub place_found : Listing → Marks → (ℕ → ℕ) → ℕ → Option Found
place_found l m w i = cond (eqb (w i) 0) None (first_broken (clauses_in l m w i) None)

unfoldable pub list_fault : Listing → Marks → List ℕ → Option Fault
list_fault l m bs = first_fault (place_found l m (place_in l bs)) (places_of l) 0

-- ---- provider list and books

-- the length and the head of the books, and then list after list
unfoldable pub bytes_fault : Marks → List ℕ → Option Fault
bytes_fault m bs =
    cond (eqb (length bs) book_bytes)
    (cond (eqb (head_of bs) 0) (or_else (list_fault Codes m bs) (or_else (list_fault Filters m bs) (list_fault Pairs m bs)))
    (Some (broken 4)))
    (Some (broken 3))

unfoldable pub books_fault : List ℕ → List ℕ → Option Fault
books_fault p bs = or_else (providers_fault p) (bytes_fault (marks_in (listed (map entry_of p))) bs)
