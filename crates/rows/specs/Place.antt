-- A table's bytes by the row's place: what reading, storing, putting in and taking out do to them. [T1, U1]
-- Assumes nothing.
use Rattle.std.specs.Prelude.{ℕ, ◌+◌, ◌*◌, List, ◌++◌, take, drop}
use Rattle.std.proofs.Math.Seq.{slice}
use Rattle.words.specs.Size.{ROW}
use Rattle.words.specs.Codec.{blank}

-- the bytes of row i
unfoldable pub row_at : List ℕ → ℕ → List ℕ
row_at t i = take ROW (drop (i * ROW) t)

-- the bytes b in the place of row i
unfoldable pub put_row : List ℕ → ℕ → List ℕ → List ℕ
put_row t i b = take (i * ROW) t ++ (b ++ drop (i * ROW + ROW) t)

-- the bytes from a to e one row further on; the row at a is as it was, and the row at e is lost
unfoldable pub moved_down : List ℕ → ℕ → ℕ → List ℕ
moved_down t a e = take (a + ROW) t ++ (slice a e t ++ drop (e + ROW) t)

-- the bytes from a + ROW to e + ROW one row further up; the row at a is lost, and the row at e is as it was
unfoldable pub moved_up : List ℕ → ℕ → ℕ → List ℕ
moved_up t a e = take a t ++ (slice (a + ROW) (e + ROW) t ++ drop e t)

-- the bytes b before row i, rows i to n - 1 one further on, row n lost
unfoldable pub ins_row : List ℕ → ℕ → ℕ → List ℕ → List ℕ
ins_row t i n b = take (i * ROW) t ++ (b ++ (slice (i * ROW) (n * ROW) t ++ drop (n * ROW + ROW) t))

-- row i lost, rows i + 1 to n one further up, row n free
unfoldable pub del_row : List ℕ → ℕ → ℕ → List ℕ
del_row t i n = take (i * ROW) t ++ (slice (i * ROW + ROW) (n * ROW + ROW) t ++ (blank ++ drop (n * ROW + ROW) t))
