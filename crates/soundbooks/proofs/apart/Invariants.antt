-- `soundbooks::apart` meets its contract. The loop's invariant: the pairs that are left decide.
-- Assumes nothing.
use mathlib.Core.Path.{◌≡◌}
use Rattle.books.specs.Packed.{split_place, split_places}
use Rattle.books.specs.Places.{rest_of}
use Rattle.soundbooks.specs.Sound.{apart_from}
use Rattle.soundbooks.proofs.apart.Given as goal

abbrev pub invariant-loop-k : goal.invariant-loop-k
invariant-loop-k l = apart_from l.one l.other (rest_of (split_place l.books) split_places l.i) ≡ apart_from l.one l.other
    (rest_of (split_place l.books) split_places l.k)
