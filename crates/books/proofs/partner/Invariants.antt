-- `books::partner` meets its contract. The loop's invariant: the pairs that are left decide.
-- Assumes nothing.
use mathlib.Core.Path.{◌≡◌}
use Rattle.books.specs.Packed.{split_place, split_places}
use Rattle.books.specs.Places.{rest_of}
use Rattle.books.specs.Search.{partner_by}
use Rattle.books.proofs.partner.Given as goal

abbrev pub invariant-loop-i : goal.invariant-loop-i
invariant-loop-i l = partner_by l.code (rest_of (split_place l.books) split_places 0)
    ≡ partner_by l.code (rest_of (split_place l.books) split_places l.i)
