-- What sound bytes give a caller.
-- Assumes nothing.
use Prim.Native.Nat.{ℕ}
use mathlib.Core.Path.{◌≡◌}
use mathlib.Core.Bool.{true, ◌&&◌}
use mathlib.Core.List.{List}
use borrow.Author.Tests.{eqb-true}
use lib.Dec.{eqb}
use lib.ListN.{length}
use Rattle.octets.proofs.Fields.{and_l, and_r}
use Rattle.model.specs.Books.{sound_marks, sound_codes, sound_filters, sound_splits, sound_books}
use Rattle.model.specs.declared.Marks.{Marks}
use Rattle.books.specs.Packed.{book_bytes, row_places, split_places, head_of, code_place, filter_place, split_place, codes_of, filters_of}
use Rattle.books.specs.Packed.{splits_of, packed_from, decode_books, sound_bytes}

module _ (m : Marks) (bs : List ℕ) (e : sound_bytes m bs ≡ true) where
  -- they have the books' length
  pub sound_length : length bs ≡ book_bytes
  unfolding sound_bytes
  sound_length =
      eqb-true (length bs) book_bytes
      (and_l (eqb (length bs) book_bytes) (eqb (head_of bs) 0)
      (and_l (eqb (length bs) book_bytes && eqb (head_of bs) 0) (packed_from (code_place bs) row_places 0)
      (and_l (eqb (length bs) book_bytes && eqb (head_of bs) 0 && packed_from (code_place bs) row_places 0)
      (packed_from (filter_place bs) row_places 0)
      (and_l (eqb (length bs) book_bytes && eqb (head_of bs) 0 && packed_from (code_place bs) row_places 0 && packed_from (filter_place bs)
      row_places 0) (packed_from (split_place bs) split_places 0)
      (and_l
      (eqb (length bs) book_bytes && eqb (head_of bs) 0 && packed_from (code_place bs) row_places 0 && packed_from (filter_place bs)
      row_places 0
      && packed_from (split_place bs) split_places 0)
      (sound_books (decode_books m bs)) e)))))

  -- they are sound books
  pub sound_books_lem : sound_books (decode_books m bs) ≡ true
  unfolding sound_bytes
  sound_books_lem =
      and_r
      (eqb (length bs) book_bytes && eqb (head_of bs) 0 && packed_from (code_place bs) row_places 0 && packed_from (filter_place bs)
      row_places 0
      && packed_from (split_place bs) split_places 0)
      (sound_books (decode_books m bs)) e

  pub sound_marks_lem : sound_marks m ≡ true
  unfolding sound_books
  sound_marks_lem =
      and_l (sound_marks m) (sound_codes m (codes_of bs))
      (and_l (sound_marks m && sound_codes m (codes_of bs)) (sound_filters m (filters_of bs))
      (and_l (sound_marks m && sound_codes m (codes_of bs) && sound_filters m (filters_of bs)) (sound_splits (splits_of bs))
      sound_books_lem))

  pub sound_filters_lem : sound_filters m (filters_of bs) ≡ true
  unfolding sound_books
  sound_filters_lem =
      and_r (sound_marks m && sound_codes m (codes_of bs)) (sound_filters m (filters_of bs))
      (and_l (sound_marks m && sound_codes m (codes_of bs) && sound_filters m (filters_of bs)) (sound_splits (splits_of bs))
      sound_books_lem)

  pub sound_splits_lem : sound_splits (splits_of bs) ≡ true
  unfolding sound_books
  sound_splits_lem =
      and_r (sound_marks m && sound_codes m (codes_of bs) && sound_filters m (filters_of bs)) (sound_splits (splits_of bs)) sound_books_lem
