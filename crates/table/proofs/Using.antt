-- Which rows of a sound table are used.
-- Assumes nothing.
use mathlib.Core.Path.{◌≡◌, refl, sym, ap, ◌∙◌}
use mathlib.Core.Bool.{Bool, true, false}
use mathlib.Core.List.{List, [], map, ◌++◌}
use Prim.Native.Nat.{ℕ, ◌+◌, ◌-◌, ◌≤◌, ◌<◌}
use native.Mathlib.Omega.{arith}
use Rattle.model.proofs.Lists.{clash}
use lib.ListN.{length, get_or, replicate, length-map, get_or-replicate, get_or-append}
use lib.Dec.{ltb}
use lib.Seq.{get_or-append-add}
use borrow.Author.Tests.{ltb-true, ltb-false}
use Rattle.model.specs.declared.Version.{Version}
use Rattle.words.specs.Codec.{words_in, is_blank, blank}
use Rattle.row.specs.Layout.{pack, unpack}
use Rattle.row.proofs.Packs.{blank_free, pack-used}
use Rattle.rows.specs.Place.{row_at}
use Rattle.rows.specs.Table.{pieces_of, decode, cells}
use Rattle.scan.specs.Sound.{SoundTable, rows_in}
use Rattle.table.specs.Survey.{version_at}
use Rattle.rows.proofs.Lists.{get_d_map}
use Rattle.rows.proofs.Sounds.{sound_at}
use Rattle.scan.proofs.Meant.{table_good}
use Rattle.rows.proofs.Tables.{rows_encode, rows_at}

module _ (t : List ℕ) (n : ℕ) (s : SoundTable t n) where
  row_cell : (i : ℕ) → i < rows_in t → row_at t i ≡ get_or (cells (decode t) (rows_in t)) i []
  row_cell i l =
      let g = table_good (rows_in t) (decode t) s.sound in
      sym (rows_at t i l)
      ∙ ap (λ (x : List ℕ). get_or (pieces_of x) i []) s.is
      ∙ ap (λ (bs : List (List ℕ)). get_or bs i []) (rows_encode (decode t) (rows_in t) g.room)

  -- one before the count is used
  pub row_used : (i : ℕ) → i < n → is_blank (words_in (row_at t i)) ≡ false
  unfolding cells
  row_used i l =
      let g = table_good (rows_in t) (decode t) s.sound in
      let k : i < length (decode t) = omega (arith, s.count) in
      let v : Version = version_at (decode t) i in
      ap (λ (b : List ℕ). is_blank (words_in b))
      (row_cell i (omega (arith, s.room))
      ∙ get_or-append (map pack (decode t)) (replicate (rows_in t - length (decode t)) blank) [] i (simp length-map k)
      ∙ get_d_map pack (decode t) i (unpack []) [] k)
      ∙ pack-used v (sound_at (decode t) i (unpack []) g.sound k)

  -- and the others are free
  pub row_free : (i : ℕ) → n ≤ i → i < rows_in t → is_blank (words_in (row_at t i)) ≡ true
  unfolding cells
  row_free i h l =
      let c : length (map pack (decode t)) ≡ n = length-map (decode t) pack ∙ s.count in
      let e : i ≡ length (map pack (decode t)) + (i - n) = omega arith in
      ap (λ (b : List ℕ). is_blank (words_in b))
      (row_cell i l
      ∙ ap (λ (k : ℕ). get_or (map pack (decode t) ++ replicate (rows_in t - length (decode t)) blank) k []) e
      ∙ get_or-append-add (map pack (decode t)) (replicate (rows_in t - length (decode t)) blank) (i - n) []
      ∙ get_or-replicate (rows_in t - length (decode t)) (i - n) blank [] (omega (arith, s.count)))
      ∙ blank_free

  -- the other way round
  pub free_from_lem : (i : ℕ) → is_blank (words_in (row_at t i)) ≡ true → n ≤ i
  free_from_lem i e = go (ltb i n) refl
    where
      go : (b : Bool) → ltb i n ≡ b → n ≤ i
      go true q = clash (sym (row_used i (ltb-true i n q)) ∙ e)
      go false q = ltb-false i n q

  pub used_before : (i : ℕ) → i < rows_in t → is_blank (words_in (row_at t i)) ≡ false → i < n
  used_before i l e = go (ltb i n) refl
    where
      go : (b : Bool) → ltb i n ≡ b → i < n
      go true q = ltb-true i n q
      go false q = clash (sym e ∙ row_free i (ltb-false i n q) l)
