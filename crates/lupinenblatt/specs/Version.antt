-- The library's version, which a caller holds against its header's.
-- Assumes nothing.
use Rattle.std.specs.Prelude.{ℕ, ◌+◌, ◌*◌}

-- 0.7.0: major, minor, patch
abbrev pub version : ℕ
version = 1000000 * 0 + 1000 * 7 + 0
