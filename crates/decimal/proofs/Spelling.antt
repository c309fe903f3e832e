-- The digits of a text from place i on.
-- Assumes nothing.
use Rattle.std.proofs.Common.{◌≡◌, ℕ, ◌+◌, ◌<◌, ◌≤◌, List, length, drop, ap}
use Rattle.std.specs.Prelude.{Some, option_and_then, slice_index}
use native.Mathlib.Numerals.{add-one}
use Rattle.std.proofs.Math.Seq.{drop-cons}
use lib.ListN.{drop_of_length-le}
use Rattle.decimal.specs.Decimal.{longer_by, spelled_from}

pub spells_next : (text : List ℕ) (n i : ℕ) → i < length text →
    spelled_from n (drop i text) ≡ option_and_then (λ m. spelled_from m (drop (i + 1) text)) (longer_by n (slice_index text i))
unfolding spelled_from
spells_next text n i h = rw (add-one i) (ap (spelled_from n) (drop-cons text i 0 h))

pub spells_all : (text : List ℕ) (n i : ℕ) → length text ≤ i → spelled_from n (drop i text) ≡ Some n
unfolding spelled_from
spells_all text n i h = ap (spelled_from n) (drop_of_length-le text h)
