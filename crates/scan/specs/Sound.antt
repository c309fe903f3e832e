-- When a table is sound: a definition that goes row by row over the bytes, and what it means. [T1, T2, V1 to V11]
-- Assumes nothing.
use Rattle.std.specs.Prelude.{ℕ, ◌+◌, ◌*◌, ◌/◌, ◌%◌, ◌≤◌, ◌≡◌, Bool, true, false, ◌&&◌, List, [], ◌∷◌, eqb, leb, length, Option, None, Some}
use Rattle.model.specs.Sound.{sound_version, sound_table, most_rows}
use Rattle.words.specs.declared.Words.{Words}
use Rattle.words.specs.Size.{ROW}
use Rattle.words.specs.Codec.{words_in, is_blank}
use Rattle.row.specs.Layout.{version_of, spareless}
use Rattle.scan.specs.Join.{Group, start, join_if, join_of}
use Rattle.rows.specs.Table.{pieces_of, decode, encode}

-- what the rows so far say: unsound; all used, so many, the last of this group; or some used and then free ones
pub data Scan : Type 0 where
  Bad : Scan
  Open : ℕ → Group → Scan
  Ended : ℕ → Scan

abbrev pub pick : Bool → Scan → Scan → Scan
pick true a b = a
pick false a b = b

-- the words are a sound version's, which may follow
unfoldable pub admit_of : Group → Words → Option Group
admit_of g w = join_if (spareless w && sound_version (version_of w)) (join_of g (version_of w)) None

abbrev pub open_by : ℕ → Option Group → Scan
open_by n None = Bad
open_by n (Some g) = Open (n + 1) g

-- one row more: used rows first, free rows all zero
unfoldable pub scan_row : Scan → Words → Scan
scan_row Bad w = Bad
scan_row (Open n g) w = pick (is_blank w) (Ended n) (open_by n (admit_of g w))
scan_row (Ended n) w = pick (is_blank w) (Ended n) Bad

unfoldable pub scan_rows : Scan → List (List ℕ) → Scan
scan_rows s [] = s
scan_rows s (b ∷ bs) = scan_rows (scan_row s (words_in b)) bs

-- whole rows, not too many, each in order [T1]
unfoldable pub scan_of : List ℕ → Scan
scan_of t = pick (eqb (length t % ROW) 0) (pick (leb (length t) (most_rows * ROW)) (scan_rows (Open 0 start) (pieces_of t)) Bad) Bad

abbrev pub said_by : Scan → Option ℕ
said_by Bad = None
said_by (Open n g) = Some n
said_by (Ended n) = Some n

-- the used rows of a sound table, or none where it is unsound
unfoldable pub soundness_of : List ℕ → Option ℕ
soundness_of t = said_by (scan_of t)

-- the rows of a table
abbrev pub rows_in : List ℕ → ℕ
rows_in t = length t / ROW

-- each number by itself: the line of a TN is that TN
abbrev pub itself : ℕ → ℕ
itself n = n

-- t is a sound table with n used rows: it is the bytes of what it says, and what it says is sound
pub record SoundTable (t : List ℕ) (n : ℕ) : Type 0 where
  pub whole : length t ≡ rows_in t * ROW
  pub few : rows_in t ≤ most_rows
  pub is : t ≡ encode (decode t) (rows_in t)
  pub sound : sound_table itself (rows_in t) (decode t) ≡ true
  pub count : length (decode t) ≡ n
  pub room : n ≤ rows_in t
