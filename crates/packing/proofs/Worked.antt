-- Worked records, computed: the two examples of docs/LAYOUTS, both ways, and malformed ones.
-- Assumes nothing.
use mathlib.Core.Path.{◌≡◌, refl}
use mathlib.Core.Bool.{false}
use mathlib.Core.List.{List, [], ◌∷◌}
use Prim.Native.Nat.{ℕ}
use Rattle.octets.specs.Octets.{be, digits}
use Rattle.model.specs.declared.Event.{Event}
use Rattle.std.specs.Prelude.{Ok}
use Rattle.model.specs.Record.{malformed, kind_fits, fits_bits, well_formed}
use Rattle.packing.specs.Layout.{event_of, bytes_of, read_fields, read_event}

-- new side creates: sender 2, other 1, TN 3035550100, LRN 3035550000, due 100, time 10
abbrev created : Event
created = event_of (1 ∷ 2 ∷ 1 ∷ 0 ∷ 0 ∷ 3035550100 ∷ 3035550000 ∷ 0 ∷ 10 ∷ 100 ∷ [])

abbrev bytes : List ℕ
bytes = 1 ∷ 8 ∷ 16 ∷ 0 ∷ 180 ∷ 238 ∷ 209 ∷ 148 ∷ 45 ∷ 59 ∷ 180 ∷ 76 ∷ 0 ∷ 0 ∷ 0 ∷ 0 ∷ 0 ∷ 2 ∷ 128 ∷ 0 ∷ 0 ∷ 25 ∷ 0 ∷ 0 ∷ []

create_reads : read_event bytes ≡ Ok created
unfolding read_event read_fields well_formed fits_bits kind_fits be
create_reads = refl

create_writes : bytes_of created ≡ bytes
unfolding bytes_of digits
create_writes = refl

-- the same within one provider, sender and other 1
abbrev inside : Event
inside = event_of (1 ∷ 1 ∷ 1 ∷ 0 ∷ 0 ∷ 3035550100 ∷ 3035550000 ∷ 0 ∷ 10 ∷ 100 ∷ 1 ∷ [])

abbrev inside_bytes : List ℕ
inside_bytes = 1 ∷ 4 ∷ 16 ∷ 0 ∷ 180 ∷ 238 ∷ 209 ∷ 148 ∷ 45 ∷ 59 ∷ 180 ∷ 76 ∷ 0 ∷ 0 ∷ 0 ∷ 0 ∷ 0 ∷ 2 ∷ 128 ∷ 0 ∷ 0 ∷ 25 ∷ 32 ∷ 0 ∷ []

inside_reads : read_event inside_bytes ≡ Ok inside
unfolding read_event read_fields well_formed fits_bits kind_fits be
inside_reads = refl

inside_writes : bytes_of inside ≡ inside_bytes
unfolding bytes_of digits
inside_writes = refl

-- the last spare bit is set
spare_bit : read_event (1 ∷ 8 ∷ 16 ∷ 0 ∷ 180 ∷ 238 ∷ 209 ∷ 148 ∷ 45 ∷ 59 ∷ 180 ∷ 76 ∷ 0 ∷ 0 ∷ 0 ∷ 0 ∷ 0 ∷ 2 ∷ 128 ∷ 0 ∷ 0 ∷ 25 ∷ 0 ∷ 1 ∷ [])
    ≡ malformed
unfolding read_event read_fields well_formed fits_bits kind_fits be
spare_bit = refl

-- the version type with two providers
type_bit : read_event (1 ∷ 8 ∷ 16 ∷ 0 ∷ 180 ∷ 238 ∷ 209 ∷ 148 ∷ 45 ∷ 59 ∷ 180 ∷ 76 ∷ 0 ∷ 0 ∷ 0 ∷ 0 ∷ 0 ∷ 2 ∷ 128 ∷ 0 ∷ 0 ∷ 25 ∷ 32 ∷ 0 ∷ [])
    ≡ malformed
unfolding read_event read_fields well_formed fits_bits kind_fits be
type_bit = refl

-- a TN whose fourth digit is 1
fourth_digit : well_formed (event_of (1 ∷ 2 ∷ 1 ∷ 0 ∷ 0 ∷ 3031550100 ∷ 3035550000 ∷ 0 ∷ 10 ∷ 100 ∷ [])) ≡ false
unfolding well_formed fits_bits kind_fits
fourth_digit = refl

-- a create of a provider from itself, without the type
one_side : well_formed (event_of (1 ∷ 2 ∷ 2 ∷ 0 ∷ 0 ∷ 3035550100 ∷ 3035550000 ∷ 0 ∷ 10 ∷ 100 ∷ [])) ≡ false
unfolding well_formed fits_bits kind_fits
one_side = refl
