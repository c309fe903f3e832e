-- `selection::one_pass` meets its contract: each goal is answered by the law of its turn (proofs/Turns).
-- Assumes nothing.
use Prim.Native.Nat.{◌+◌, ◌-◌, ◌≤◌, ◌<◌}
use Rattle.books.specs.Packed.{row_places}
use Rattle.selection.proofs.Turns.{Served, Seeks}
use Rattle.selection.proofs.one_pass.Given as goal

abbrev pub invariant-filters : goal.invariant-filters
invariant-filters l = (l.looks < l.i + l.provider) × Seeks l.marks l.books l.code l.provider l.until l.i l.wanted

abbrev pub decreases-filters : goal.decreases-filters
decreases-filters l = row_places - l.i

abbrev pub invariant-providers : goal.invariant-providers
invariant-providers l = (l.looks ≤ l.i + l.provider) × Served l.marks l.books l.code l.provider l.selected l.i

abbrev pub decreases-providers : goal.decreases-providers
decreases-providers l = 63 - l.provider
