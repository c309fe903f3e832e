-- `books::owner` meets its contract. The loop's invariant: the codes that are left decide.
-- Assumes nothing.
use mathlib.Core.Path.{◌≡◌}
use Rattle.books.specs.Packed.{code_place, row_places}
use Rattle.books.specs.Places.{rest_of}
use Rattle.books.specs.Search.{owner_by}
use Rattle.books.proofs.owner.Given as goal

abbrev pub invariant-loop-i : goal.invariant-loop-i
invariant-loop-i l =
    owner_by l.code (rest_of (code_place l.books) row_places 0) ≡ owner_by l.code (rest_of (code_place l.books) row_places l.i)
