-- The books as bytes (docs/LAYOUTS.md), and the books that they are.
-- Assumes nothing.
use Rattle.std.specs.Prelude.{ℕ, zero, suc, ◌+◌, ◌*◌, ◌/◌, ◌%◌, ◌^◌, Bool, true, cond, ◌&&◌, List, [], ◌∷◌, map, eqb, length}
use Rattle.octets.specs.Octets.{be}
use Rattle.model.specs.Books.{Owned, Filter, Split, Books, sound_books}
use Rattle.model.specs.declared.Marks.{Marks}

-- ---- sizes and offsets

abbrev pub book_bytes : ℕ
book_bytes = 8712

-- codes, and filters: as many places each
abbrev pub row_places : ℕ
row_places = 1024

abbrev pub codes_at : ℕ
codes_at = 8

abbrev pub filters_at : ℕ
filters_at = 4104

abbrev pub splits_at : ℕ
splits_at = 8200

abbrev pub split_places : ℕ
split_places = 64

-- ---- places

-- place i of a list of places of the given size
abbrev pub place_of : ℕ → ℕ → List ℕ → ℕ → ℕ
place_of size at bs i = be size bs (at + size * i)

-- the first eight bytes
abbrev pub head_of : List ℕ → ℕ
head_of bs = be 8 bs 0

abbrev pub code_place : List ℕ → ℕ → ℕ
code_place = place_of 4 codes_at

abbrev pub filter_place : List ℕ → ℕ → ℕ
filter_place = place_of 4 filters_at

abbrev pub split_place : List ℕ → ℕ → ℕ
split_place = place_of 8 splits_at

-- a code's place: code * 64 + owner
abbrev pub owned_of : ℕ → Owned
owned_of w = record { code = w / 64; owner = w % 64 }

-- a filter's place: provider * 2 ^ 20 + code
abbrev pub filter_of : ℕ → Filter
filter_of w = record { provider = w / 2 ^ 20; code = w % 2 ^ 20 }

-- a pair's place: two codes of four bytes
abbrev pub split_of : ℕ → Split
split_of w = record { one = w / 2 ^ 32; other = w % 2 ^ 32 }

-- ---- used and free places, of m places from place i on

-- the used ones: those before the first that is zero
unfoldable pub used_from : (ℕ → ℕ) → ℕ → ℕ → List ℕ
used_from w zero i = []
used_from w (suc m) i = cond (eqb (w i) 0) [] (w i ∷ used_from w m (suc i))

-- all are free
unfoldable pub free_from : (ℕ → ℕ) → ℕ → ℕ → Bool
free_from w zero i = true
free_from w (suc m) i = eqb (w i) 0 && free_from w m (suc i)

-- used ones first, and then free ones
unfoldable pub packed_from : (ℕ → ℕ) → ℕ → ℕ → Bool
packed_from w zero i = true
packed_from w (suc m) i = cond (eqb (w i) 0) (free_from w m (suc i)) (packed_from w m (suc i))

-- ---- the books

abbrev pub codes_of : List ℕ → List Owned
codes_of bs = map owned_of (used_from (code_place bs) row_places 0)

abbrev pub filters_of : List ℕ → List Filter
filters_of bs = map filter_of (used_from (filter_place bs) row_places 0)

abbrev pub splits_of : List ℕ → List Split
splits_of bs = map split_of (used_from (split_place bs) split_places 0)

abbrev pub decode_books : Marks → List ℕ → Books
decode_books m bs = record { marks = m; codes = codes_of bs; filters = filters_of bs; splits = splits_of bs }

-- Sound bytes: the books' length, a head of zero, each list's used places first and its free ones zero, and sound books. [B1, B2, B3, B4]
unfoldable pub sound_bytes : Marks → List ℕ → Bool
sound_bytes m bs =
    eqb (length bs) book_bytes && eqb (head_of bs) 0
    && packed_from (code_place bs) row_places 0 && packed_from (filter_place bs) row_places 0 && packed_from (split_place bs) split_places 0
    && sound_books (decode_books m bs)
