-- The event record: 24 bytes, a number of 192 bits, cut into twelve fields. What its kind asks of the fields stands in the model's Record.
-- Assumes nothing.
use Rattle.std.specs.Prelude.{◌≡◌, Bool, cond, ◌&&◌, List, [], ◌∷◌, ◌++◌, ℕ, length, get_or, eqb, ⊤, Result, Ok, Err}
use Rattle.octets.specs.Octets.{be, digits}
use Rattle.octets.specs.Fields.{cut, join}
use Rattle.model.specs.declared.Event.{Event}
use Rattle.model.specs.declared.Malformed.{Malformed}
use Rattle.model.specs.Record.{Reading, malformed, well_formed}

-- Packed most significant bit first: kind 8 bits, sender 6, other 6, authorization or result 2, cause 8, TN 34, LRN 34, version 16, time
-- 32, due 32, the version type 1, spare 13. [E1, A14.5]
abbrev pub widths : List ℕ
widths = 8 ∷ 6 ∷ 6 ∷ 2 ∷ 8 ∷ 34 ∷ 34 ∷ 16 ∷ 32 ∷ 32 ∷ 1 ∷ 13 ∷ []

-- the eleven fields in the paper's order
abbrev pub eleven_of : Event → List ℕ
eleven_of e =
    e.kind ∷ e.sender ∷ e.other ∷ e.mark ∷ e.cause ∷ e.tn.0 ∷ e.lrn.0 ∷ e.version ∷ e.time ∷ e.due ∷ e.within ∷ []

-- and the spare bits, zero
abbrev pub fields_of : Event → List ℕ
fields_of e = eleven_of e ++ (0 ∷ [])

-- the event with these fields
abbrev pub event_of : List ℕ → Event
event_of fs =
    record {
      kind = get_or fs 0 0;
      sender = get_or fs 1 0;
      other = get_or fs 2 0;
      mark = get_or fs 3 0;
      cause = get_or fs 4 0;
      tn = record { 0 = get_or fs 5 0 };
      lrn = record { 0 = get_or fs 6 0 };
      version = get_or fs 7 0;
      time = get_or fs 8 0;
      due = get_or fs 9 0;
      within = get_or fs 10 0;
    }

-- a record's bytes [E1]
abbrev pub RECORD : ℕ
RECORD = 24

-- the record of an event [E1]
unfoldable pub bytes_of : Event → List ℕ
bytes_of e = digits RECORD (join widths (fields_of e))

-- what fields and spare bits read as: spare bits that are not zero are malformed [E1, E5]
unfoldable pub read_fields : List ℕ → Reading
read_fields fs = cond (eqb (get_or fs 11 0) 0 && well_formed (event_of fs)) (Ok (event_of fs)) malformed

-- what bytes read as: 24 of them, and well formed, or malformed [E1, E5, O9]
unfoldable pub read_event : List ℕ → Reading
read_event xs = cond (eqb (length xs) RECORD) (read_fields (cut widths (be RECORD xs 0))) malformed

-- Writing malformed fields, or to another length, returns 2 and writes nothing. [E5]
abbrev pub writable : Event → List ℕ → Bool
writable e xs = eqb (length xs) RECORD && well_formed e

-- the number that tells of a write: 0 done, 2 malformed
abbrev pub told : Result ⊤ Malformed → ℕ
told (Ok u) = 0
told (Err m) = 2

-- what a write of an event to the bytes xs leaves there, and says, as its number
pub record Written (e : Event) (xs ys : List ℕ) (r : ℕ) : Type 0 where
  pub after : ys ≡ cond (writable e xs) (bytes_of e) xs
  pub said : r ≡ cond (writable e xs) 0 2
