-- What a table says: the versions of its used rows; and the bytes of a list of versions. [T1, T2]
-- Assumes nothing.
use Rattle.std.specs.Prelude.{ℕ, suc, ◌-◌, ◌/◌, Bool, true, false, List, [], ◌∷◌, ◌++◌, map, length, take, drop, replicate}
use Rattle.model.specs.declared.Version.{Version}
use Rattle.words.specs.Size.{ROW}
use Rattle.words.specs.Codec.{words_in, is_blank, blank}
use Rattle.row.specs.Layout.{pack, unpack}
use Rattle.rows.specs.Chunks.{chunks, joined}

-- the whole rows of a table, as bytes
unfoldable pub pieces_of : List ℕ → List (List ℕ)
pieces_of t = chunks ROW (length t / ROW) t

abbrev pub used_if : Bool → List Version → List Version
used_if true vs = []
used_if false vs = vs

-- the used rows: those before the first free one
unfoldable pub used : List (List ℕ) → List Version
used [] = []
used (b ∷ bs) = used_if (is_blank (words_in b)) (unpack b ∷ used bs)

-- what a table says
unfoldable pub decode : List ℕ → List Version
decode t = used (pieces_of t)

-- the rows of a table of n rows that says vs: its versions, and then free rows
unfoldable pub cells : List Version → ℕ → List (List ℕ)
cells vs n = map pack vs ++ replicate (n - length vs) blank

-- the table of n rows that says vs
unfoldable pub encode : List Version → ℕ → List ℕ
encode vs n = joined (cells vs n)

-- v put in before place i; what stands at place i taken out
abbrev pub insert_at : List Version → ℕ → Version → List Version
insert_at vs i v = take i vs ++ (v ∷ drop i vs)

abbrev pub remove_at : List Version → ℕ → List Version
remove_at vs i = take i vs ++ drop (suc i) vs
