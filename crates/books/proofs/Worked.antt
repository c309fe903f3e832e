-- The examples of docs/LAYOUTS.md, as one theorem: a code's place, a filter's and a pair's.
-- Assumes nothing.
use mathlib.Core.Path.{◌≡◌, refl}
use mathlib.Core.List.{[], ◌∷◌}
use Rattle.octets.specs.Octets.{be}
use Rattle.books.specs.Packed.{owned_of, filter_of, split_of}

pub record Layout : Type 0 where
  pub code : owned_of (be 4 (1 ∷ 40 ∷ 112 ∷ 193 ∷ []) 0) ≡ record { code = 303555; owner = 1 }
  pub filter : filter_of (be 4 (0 ∷ 52 ∷ 161 ∷ 195 ∷ []) 0) ≡ record { provider = 3; code = 303555 }
  pub pair : split_of (be 8 (0 ∷ 4 ∷ 161 ∷ 195 ∷ 0 ∷ 4 ∷ 161 ∷ 196 ∷ []) 0) ≡ record { one = 303555; other = 303556 }

pub layout : Layout
unfolding be
layout = record { code = refl; filter = refl; pair = refl }
