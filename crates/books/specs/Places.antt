-- Laws of used places: what place i leaves to the next, for n places in all.
-- Assumes nothing.
use Rattle.std.specs.Prelude.{ℕ, ◌-◌, List}
use Rattle.books.specs.Packed.{used_from}

-- the used places from place i on, of n in all
abbrev pub rest_of : (ℕ → ℕ) → ℕ → ℕ → List ℕ
rest_of w n i = used_from w (n - i) i
