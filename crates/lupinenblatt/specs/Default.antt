-- The R of the calls without R.
-- Assumes nothing.
use Rattle.std.specs.Prelude.{ℕ}

-- Calls without R use 3. [A9.1]
abbrev pub default_retries : ℕ
default_retries = 3
