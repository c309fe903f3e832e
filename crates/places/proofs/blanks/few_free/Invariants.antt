-- `blanks::few_free` meets its contract. The loop's invariant: what is left to be tested decides.
-- Assumes nothing.
use Prim.Native.Nat.{◌-◌}
use mathlib.Core.Path.{◌≡◌}
use Rattle.books.specs.Packed.{place_of, free_from}
use Rattle.places.proofs.blanks.few_free.Given as goal

abbrev pub invariant-loop-k : goal.invariant-loop-k
invariant-loop-k l = free_from (place_of 8 l.at l.books) (l.n - l.i) l.i ≡ free_from (place_of 8 l.at l.books) (l.n - l.k) l.k
