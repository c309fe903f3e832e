-- `blanks::free` meets its contract.
-- Assumes nothing.
use Prim.Native.Nat.{◌-◌, ◌≤◌}
use mathlib.Core.Path.{◌≡◌}
use Rattle.books.specs.Packed.{place_of, free_from}
use Rattle.places.proofs.blanks.free.Given as goal

abbrev pub invariant-loop-k : goal.invariant-loop-k
invariant-loop-k l =
    (l.k ≤ l.n) × (free_from (place_of 8 l.at l.books) (l.n - l.i) l.i ≡ free_from (place_of 8 l.at l.books) (l.n - l.k) l.k)

abbrev pub decreases-loop-k : goal.decreases-loop-k
decreases-loop-k l = l.n - l.k
