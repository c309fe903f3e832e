-- When a table is sound with these books: each row and each TN by itself, and each line. [A3.5]
-- Assumes nothing.
use Rattle.std.specs.Prelude.{ℕ, Bool, cond, List, Option, None, Some}
use Rattle.model.specs.Books.{line_in}
use Rattle.model.specs.Sound.{sound_lines}
use Rattle.books.specs.Packed.{splits_of}
use Rattle.rows.specs.Table.{decode}
use Rattle.scan.specs.Sound.{soundness_of}

-- what the scan says, where the lines are sound
abbrev pub lined : Bool → Option ℕ → Option ℕ
lined ok None = None
lined ok (Some n) = cond ok (Some n) None

-- the lines of the split list of these books
abbrev pub line_by : List ℕ → ℕ → ℕ
line_by b = line_in (splits_of b)

-- sound, with so many used rows, or unsound
unfoldable pub soundness_in : List ℕ → List ℕ → Option ℕ
soundness_in b t = lined (sound_lines (line_by b) (decode t)) (soundness_of t)
