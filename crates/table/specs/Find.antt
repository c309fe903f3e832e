-- The keys of the used rows, and the place of a key among them. [T2]
-- Assumes nothing.
use Rattle.std.specs.Prelude.{ℕ, zero, suc, ◌/◌, ◌<◌, Bool, true, false, List, [], ◌∷◌, map, ltb, length, get_or}
use Rattle.model.specs.declared.Version.{Version}
use Rattle.words.specs.Size.{ROW}
use Rattle.words.specs.Codec.{words_in}
use Rattle.row.specs.Layout.{key_of}
use Rattle.rows.specs.Place.{row_at}
use Rattle.rows.specs.Chunks.{chunks}

abbrev pub key_in : List ℕ → ℕ
key_in b = (words_in b).head / 16384

unfoldable pub key_at : List ℕ → ℕ → ℕ
key_at t i = key_in (row_at t i)

-- the keys of the first n rows
unfoldable pub keys_of : ℕ → List ℕ → List ℕ
keys_of n t = map key_in (chunks ROW n t)

unfoldable pub Rises : List ℕ → Type 0
Rises xs = (p q : ℕ) → p < q → q < length xs → get_or xs p 0 < get_or xs q 0

abbrev pub past : Bool → ℕ → ℕ
past true n = suc n
past false n = zero

-- the place of the first number that is at least k, or the length
unfoldable pub lower_of : ℕ → List ℕ → ℕ
lower_of k [] = zero
lower_of k (x ∷ xs) = past (ltb x k) (lower_of k xs)

abbrev pub key_for : Version → ℕ
key_for v = key_of v.id

abbrev pub keys : List Version → List ℕ
keys vs = map key_for vs

-- where the key k is among versions, or would be
unfoldable pub place_in : ℕ → List Version → ℕ
place_in k vs = lower_of k (keys vs)
