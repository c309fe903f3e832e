-- What a rule sees, and what it answers.
-- Word endings, in all rules: modified is the version after, modifies what the rule answers or changes, ..Told the messages.
-- Assumes nothing.
use Rattle.std.specs.Prelude.{ℕ, Bool, cond, not, List, [], eqb}
use Rattle.std.proofs.Math.Option.{Option}
use Rattle.model.specs.Basics.{first, keep, largest}
use Rattle.model.specs.Books.{Books}
use Rattle.model.specs.Table.{Change}
use Rattle.model.specs.Outcomes.{is_done}
use Rattle.model.specs.Sound.{numbered, live, worked}
use Rattle.model.specs.declared.Id.{Id}
use Rattle.model.specs.declared.Event.{Event}
use Rattle.model.specs.declared.Version.{Version}
use Rattle.model.specs.declared.Message.{Message}
use Rattle.model.specs.declared.Outcome.{Outcome}
use Rattle.model.specs.declared.Outcome.TheVariants.{Done}

-- the books, R, whether there is a free row, the event, and the rows of its line
pub record Given : Type 0 where
  pub books : Books
  pub most : ℕ
  pub free : Bool
  pub event : Event
  pub rows : List Version

-- of the rows of a line the version of that number, and the others
abbrev pub with_number : ℕ → List Version → Option Version
with_number n r = first (numbered n) r

abbrev pub other_than : ℕ → Id → Bool
other_than n k = not (eqb k.number n)

abbrev pub besides : ℕ → List Version → List Version
besides n r = keep (λ (v : Version). other_than n v.id) r

-- the version that the event names, by line and number, if it is in the table [A3.2, A3.3]
abbrev pub found : Given → Option Version
found g = with_number g.event.version g.rows

-- the other versions of the line
abbrev pub rest : Given → List Version
rest g = besides g.event.version g.rows

abbrev pub newest : List Version → ℕ
newest r = largest (λ (v : Version). v.id.number) r

abbrev pub last_stamp : List Version → ℕ
last_stamp r = largest (λ (v : Version). v.stamp) r

abbrev pub live_one : List Version → Option Version
live_one r = first live r

abbrev pub worked_one : List Version → Option Version
worked_one r = first worked r

-- the outcome, the messages in their order, and the changes of the table
pub record Result : Type 0 where
  pub out : Outcome
  pub sent : List Message
  pub does : List Change

-- A refusal gives its number, no messages, and changes nothing. [O1]
abbrev pub refuse : Outcome → Result
refuse o = record { out = o; sent = []; does = [] }

abbrev pub accept : List Message → List Change → Result
accept ms cs = record { out = Done; sent = ms; does = cs }

-- the refusal o, or where there is none, r
abbrev pub unless : Outcome → Result → Result
unless o r = cond (is_done o) r (refuse o)
