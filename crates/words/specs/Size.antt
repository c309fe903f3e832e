-- The size of a row in bytes, as `src/` has it. [T1]
-- Assumes nothing.
use Rattle.std.specs.Prelude.{ℕ}

abbrev pub ROW : ℕ
ROW = 80
