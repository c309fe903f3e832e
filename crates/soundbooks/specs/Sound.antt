-- Sound books, place by place: what the pass over each list tests, and that this is soundness.
-- Assumes nothing.
use Rattle.std.specs.Prelude.{ℕ, ◌/◌, ◌%◌, ◌^◌, ◌≡◌, Bool, not, ◌&&◌, cond, List, map, eqb, Option, None, Some}
use Rattle.model.specs.Numbers.{is_code}
use Rattle.model.specs.Books.{unsplit}
use Rattle.model.specs.declared.Marks.{Marks}
use Rattle.books.specs.Packed.{split_of, sound_bytes}
use Rattle.places.specs.Good.{good_row}
use Rattle.soundbooks.specs.Scan.{Test}

-- ---- the tests

-- a filter's place or a code's, by the one before it
abbrev pub row_test : Bool → Marks → Test
row_test filters m last x xs = good_row filters m last x

-- what is answered of a place behind another is what the test says
abbrev pub RowsBy : (ℕ → ℕ → Bool → Type 0) → Bool → Marks → Type 0
RowsBy post f m = (last x : ℕ) (b : Bool) → post last x b → b ≡ good_row f m last x

-- neither code stands in one of the pairs
abbrev pub apart_from : ℕ → ℕ → List ℕ → Bool
apart_from a b xs = unsplit a (map split_of xs) && unsplit b (map split_of xs)

-- two codes that stand in no pair behind [B4]
abbrev pub good_split : ℕ → List ℕ → Bool
good_split x xs =
    (not (eqb (x / 2 ^ 32) (x % 2 ^ 32)) && apart_from (x / 2 ^ 32) (x % 2 ^ 32) xs) && (is_code (x / 2 ^ 32) && is_code (x % 2 ^ 32))

abbrev pub split_test : Test
split_test last x xs = good_split x xs

-- ---- the tests are what soundness asks

-- ---- with a provider list

-- the marks of a list that is sound, where the bytes are sound books with them
abbrev pub kept_by : Option Marks → List ℕ → Option Marks
kept_by None b = None
kept_by (Some m) b = cond (sound_bytes m b) (Some m) None
