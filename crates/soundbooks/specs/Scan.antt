-- One pass over a list's places: each used one is tested by the one before it and those behind it, and behind the last all are free.
-- Assumes nothing.
use Rattle.std.specs.Prelude.{ℕ, zero, suc, Bool, true, cond, ◌&&◌, List, [], ◌∷◌, eqb}
use Rattle.books.specs.Packed.{used_from, free_from}

-- a test of a place by the one before it, itself, and those behind it
abbrev pub Test : Type 0
Test = ℕ → ℕ → List ℕ → Bool

-- every used place passes, the first after `last`
abbrev pub chain : Test → ℕ → List ℕ → Bool
chain good last [] = true
chain good last (x ∷ xs) = good last x xs && chain good x xs

-- the pass, over m places from i on
unfoldable pub scan : Test → (ℕ → ℕ) → ℕ → ℕ → ℕ → Bool
scan good w zero i last = true
scan good w (suc m) i last =
    cond (eqb (w i) 0) (free_from w m (suc i)) (good last (w i) (used_from w m (suc i)) && scan good w m (suc i) (w i))
