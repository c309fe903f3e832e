-- The laws of `specs/Place.antt`: the two moves, each followed by a store. Assumes nothing.
use mathlib.Core.Path.{◌≡◌}
use mathlib.Core.List.{List}
use Prim.Native.Nat.{ℕ, ◌+◌, ◌*◌, ◌≤◌}
use native.Mathlib.Omega.{arith}
use lib.ListN.{length}
use Rattle.words.specs.Size.{ROW}
use Rattle.words.specs.Codec.{blank}
use Rattle.rows.specs.Place.{put_row, ins_row, del_row, moved_down, moved_up}
use Rattle.rows.proofs.Moves.{put_down, put_up}

pub ins_law : (t : List ℕ) (i n : ℕ) (b : List ℕ) → i ≤ n → n * ROW + ROW ≤ length t
    → put_row (moved_down t (i * ROW) (n * ROW)) i b ≡ ins_row t i n b
unfolding put_row moved_down ins_row
ins_law t i n b l h = put_down ROW t (i * ROW) (n * ROW) b (omega arith)

pub del_law : (t : List ℕ) (i n : ℕ) → i ≤ n → n * ROW + ROW ≤ length t → put_row (moved_up t (i * ROW) (n * ROW)) n blank ≡ del_row t i n
unfolding put_row moved_up del_row
del_law t i n l h = put_up ROW t (i * ROW) (n * ROW) blank (omega arith) h
