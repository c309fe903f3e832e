-- What the calls for C promise, on numbers and lists of them.
-- Assumes nothing.
use Rattle.std.specs.Prelude.{◌≡◌, cond, List, [], ◌∷◌, ℕ, ◌<◌, length, eqb, Ok, Err}
use Rattle.model.specs.declared.Event.{Event}
use Rattle.model.specs.Record.{Reading}
use Rattle.fields.specs.declared.Numbers.{Numbers}
use Rattle.packing.specs.Layout.{eleven_of, event_of}

-- the event with these fields, whatever numbers they are [E1]
abbrev pub event : ℕ → ℕ → ℕ → ℕ → ℕ → ℕ → ℕ → ℕ → ℕ → ℕ → ℕ → Event
event kind sender other mark cause tn lrn version time due within =
    event_of (kind ∷ sender ∷ other ∷ mark ∷ cause ∷ tn ∷ lrn ∷ version ∷ time ∷ due ∷ within ∷ [])

abbrev pub event_in : Numbers → Event
event_in n = event n.kind n.sender n.other n.mark n.cause n.tn n.lrn n.version n.time n.due n.within

-- the places for a record's fields
abbrev pub FIELDS : ℕ
FIELDS = 11

-- what a reading leaves in the places xs: the eleven fields where there are eleven places, or what was there [F4]
unfoldable pub handed_to : Reading → List ℕ → List ℕ
handed_to (Ok e) xs = cond (eqb (length xs) FIELDS) (eleven_of e) xs
handed_to (Err m) xs = xs

-- and what it says: 0 done, 2 malformed or not eleven places
unfoldable pub handed_number : Reading → List ℕ → ℕ
handed_number (Ok e) xs = cond (eqb (length xs) FIELDS) 0 2
handed_number (Err m) xs = 2

pub record Handed (r : Reading) (xs ys : List ℕ) (n : ℕ) : Type 0 where
  pub after : ys ≡ handed_to r xs
  pub said : n ≡ handed_number r xs

-- the numbers fit the types of an event's fields
pub record Narrow (n : Numbers) : Type 0 where
  pub kind_fits : n.kind < 256
  pub sender_fits : n.sender < 256
  pub other_fits : n.other < 256
  pub mark_fits : n.mark < 256
  pub cause_fits : n.cause < 256
  pub version_fits : n.version < 65536
  pub time_fits : n.time < 4294967296
  pub due_fits : n.due < 4294967296
  pub within_fits : n.within < 256
