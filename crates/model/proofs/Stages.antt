-- An example: what is given, and after each event what must have come out: the outcome, every field of every message in their order, and
-- every field of every row of the table. The words in which the worked examples are told.
-- Assumes nothing.
use Prim.Native.Nat.{ℕ, ◌^◌}
use mathlib.Core.Bool.{Bool, true, false, ◌&&◌}
use mathlib.Core.List.{List, [], ◌∷◌, map}
use lib.Dec.{eqb}
use Rattle.model.specs.Basics.{iff, all}
use Rattle.model.specs.Books.{Filter, Split}
use Rattle.model.specs.Creates.{old_absent, no_broadcast}
use Rattle.model.specs.Retries.{no_retries}
use Rattle.model.specs.Sound.{pending, sending, active, canceled, activate, yes}
use Rattle.model.specs.Step.{Setting, Step, step_of, after}
use Rattle.model.specs.Tray.{creation, status, attributes, download}
use Rattle.model.specs.Outcomes.{number_of}
use Rattle.model.specs.Given.{Result}
use Rattle.model.specs.declared.Id.{Id}
use Rattle.model.specs.declared.NewSide.{NewSide}
use Rattle.model.specs.declared.OldSide.{OldSide}
use Rattle.model.specs.declared.Retries.{Retries}
use Rattle.model.specs.declared.Broadcast.{Broadcast}
use Rattle.model.specs.declared.Event.{Event}
use Rattle.model.specs.declared.Message.{Message}
use Rattle.model.specs.declared.Version.{Version}

-- an event, its outcome and messages in their order, and the table after it
pub record Stage : Type 0 where
  pub event : Event
  pub out : ℕ
  pub sent : List Message
  pub rows : List Version

pub record Example : Type 0 where
  pub setting : Setting
  pub table : List Version
  pub stages : List Stage

-- ---- the comparison, field by field

abbrev pub same_id : Id → Id → Bool
same_id a b = eqb a.tn.0 b.tn.0 && eqb a.number b.number

abbrev pub same_new : NewSide → NewSide → Bool
same_new a b = eqb a.provider b.provider && iff a.created b.created && eqb a.lrn.0 b.lrn.0 && eqb a.due b.due

abbrev pub same_old : OldSide → OldSide → Bool
same_old a b =
    eqb a.provider b.provider && iff a.created b.created && eqb a.authorization b.authorization
    && eqb a.cause b.cause && eqb a.due b.due

abbrev pub same_retries : Retries → Retries → Bool
same_retries a b = eqb a.low b.low && eqb a.mid b.mid && eqb a.high b.high

abbrev pub same_cast : Broadcast → Broadcast → Bool
same_cast a b =
    eqb a.purpose b.purpose && eqb a.start b.start && eqb a.confirmed b.confirmed && eqb a.waiting b.waiting
    && eqb a.failed b.failed && same_retries a.retries b.retries

abbrev pub same_row : Version → Version → Bool
same_row a b =
    same_id a.id b.id && eqb a.status b.status && eqb a.stamp b.stamp && iff a.live b.live
    && same_new a.new b.new
    && same_old a.old b.old && eqb a.canceller b.canceller && iff a.window b.window && iff a.within b.within
    && same_cast a.cast b.cast

abbrev pub same_message : Message → Message → Bool
same_message a b =
    iff a.local b.local && eqb a.provider b.provider && eqb a.sort b.sort && same_id a.id b.id
    && eqb a.status b.status && eqb a.failed b.failed && eqb a.lrn.0 b.lrn.0

-- as many, and each like the other at its place
abbrev pub alike : {A : Type 0} → (A → A → Bool) → List A → List A → Bool
alike like [] [] = true
alike like [] (y ∷ ys) = false
alike like (x ∷ xs) [] = false
alike like (x ∷ xs) (y ∷ ys) = like x y && alike like xs ys

-- what the step answers is the stage's, and so is the table that it leaves
abbrev pub meets : Result → List Version → Stage → Bool
meets r t x = eqb (number_of r.out) x.out && alike same_message r.sent x.sent && alike same_row t x.rows

abbrev pub runs : Step → List Version → List Stage → Bool
runs does t [] = true
runs does t (x ∷ xs) = meets (does x.event t) (after does x.event t) x && runs does (after does x.event t) xs

abbrev pub passes : Example → Bool
passes x = runs (step_of x.setting) x.table x.stages

abbrev pub all_pass : List Example → Bool
all_pass l = all passes l

-- ---- sets of providers: nobody, one, 1 and 2, 1 to 3

abbrev pub nobody : ℕ
nobody = 0

abbrev pub only : ℕ → ℕ
only p = 2 ^ p

abbrev pub both : ℕ
both = 6

abbrev pub everybody : ℕ
everybody = 14

-- ---- providers 1 to 3 with Local SMSs, code 303555 owned by 1, a tray of 64

abbrev pub filter : ℕ → ℕ → Filter
filter p c = record { provider = p; code = c }

abbrev pub setting : List Filter → List Split → ℕ → ℕ → Setting
setting fs ss most rows = record {
  books = record {
    marks = record { present = everybody; local = everybody };
    codes = record { code = 303555; owner = 1 } ∷ [];
    filters = fs;
    splits = ss;
  };
  most = most;
  rows = rows;
  places = 64;
}

-- provider 3 filters the code, so 1 and 2 are asked
abbrev pub asks12 : ℕ → ℕ → Setting
asks12 most rows = setting (filter 3 303555 ∷ []) [] most rows

-- everybody filters it
abbrev pub asks_nobody : Setting
asks_nobody = setting (filter 1 303555 ∷ filter 2 303555 ∷ filter 3 303555 ∷ []) [] 0 256

-- ---- the events, of TN 3035550100 where nothing else is said

abbrev pub event_as : ℕ → ℕ → ℕ → ℕ → ℕ → ℕ → ℕ → ℕ → ℕ → ℕ → Event
event_as within kind sender other mark tn lrn version time due = record {
  kind = kind;
  sender = sender;
  other = other;
  mark = mark;
  cause = 0;
  tn = record { 0 = tn };
  lrn = record { 0 = lrn };
  version = version;
  time = time;
  due = due;
  within = within;
}

abbrev pub event : ℕ → ℕ → ℕ → ℕ → ℕ → ℕ → ℕ → ℕ → ℕ → Event
event = event_as 0

abbrev pub tn : ℕ
tn = 3035550100

abbrev pub lrn : ℕ
lrn = 3035550000

-- new side creates, from the old provider
abbrev pub new_side : ℕ → ℕ → ℕ → Event
new_side p q t = event 1 p q 0 tn lrn 0 t 100

-- old side creates, yes
abbrev pub old_side : ℕ → ℕ → ℕ → Event
old_side p q t = event 2 p q 1 tn 0 0 t 100

abbrev pub activation : ℕ → ℕ → ℕ → Event
activation p n t = event 5 p 0 0 tn 0 n t 0

abbrev pub success : ℕ → ℕ → ℕ → Event
success p n t = event 11 p 0 1 tn 0 n t 0

abbrev pub failing : ℕ → ℕ → ℕ → Event
failing p n t = event 11 p 0 2 tn 0 n t 0

abbrev pub silence : ℕ → ℕ → ℕ → Event
silence p n t = event 12 0 p 0 tn 0 n t 0

abbrev pub ending : ℕ → ℕ → ℕ → Event
ending p n t = event 10 p 0 0 tn 0 n t 0

abbrev pub resend : ℕ → ℕ → Event
resend n t = event 14 0 0 0 tn 0 n t 0

abbrev pub purge : ℕ → ℕ → Event
purge n t = event 15 0 0 0 tn 0 n t 0

-- ---- rows, to start with or to come out: type, TN, number, status, stamp, whether live, the sides, whether the window ran out, the
-- broadcast

abbrev pub row_as : Bool → ℕ → ℕ → ℕ → ℕ → Bool → NewSide → OldSide → Bool → Broadcast → Version
row_as within number n status stamp live new old window cast = record {
  id = record { tn = record { 0 = number }; number = n };
  status = status;
  stamp = stamp;
  live = live;
  new = new;
  old = old;
  canceller = 0;
  window = window;
  within = within;
  cast = cast;
}

abbrev pub row_for : ℕ → ℕ → ℕ → ℕ → Bool → NewSide → OldSide → Bool → Broadcast → Version
row_for = row_as false

abbrev pub row : ℕ → ℕ → ℕ → Bool → NewSide → OldSide → Bool → Broadcast → Version
row = row_for tn

-- the sides as they create in the events above
abbrev pub new_by : ℕ → NewSide
new_by p = record { provider = p; created = true; lrn = record { 0 = lrn }; due = 100 }

abbrev pub old_by : ℕ → OldSide
old_by q = record { provider = q; created = true; authorization = yes; cause = 0; due = 100 }

-- provider p has created at t, from q
abbrev pub single : ℕ → ℕ → ℕ → ℕ → Version
single n t p q = row n pending t false (new_by p) (old_absent q) false no_broadcast

-- provider q has concurred at t
abbrev pub agreed_on : ℕ → ℕ → ℕ → ℕ → Version
agreed_on n t p q = row n pending t false (new_by p) (old_by q) false no_broadcast

-- a broadcast of a purpose, from its start on (0: closed), with the sets confirmed, waiting and failed, and nobody asked again
abbrev pub cast : ℕ → ℕ → ℕ → ℕ → ℕ → Broadcast
cast purpose start confirmed waiting failed =
    record { purpose = purpose; start = start; confirmed = confirmed; waiting = waiting; failed = failed; retries = no_retries }

-- the version of provider p, from q, while its activation of time 100 is sending, or once it is closed
abbrev pub sends : ℕ → ℕ → ℕ → ℕ → ℕ → ℕ → ℕ → Version
sends n t p q confirmed waiting failed = row n sending t false (new_by p) (old_by q) false (cast activate 100 confirmed waiting failed)

abbrev pub closes : ℕ → ℕ → ℕ → Bool → ℕ → ℕ → ℕ → ℕ → Version
closes n s t live p q confirmed failed = row n s t live (new_by p) (old_by q) false (cast activate 0 confirmed nobody failed)

-- the new side of rows that an example starts with: provider 2, with an LRN and a due date of its own
abbrev pub earlier : NewSide
earlier = record { provider = 2; created = true; lrn = record { 0 = 3035559999 }; due = 9 }

abbrev pub canceled_one : ℕ → ℕ → Version
canceled_one n t = row n canceled t false earlier (old_absent 1) true no_broadcast

-- an earlier live version of provider 2, whose window ran out
abbrev pub live_one : Version
live_one = row 1 active 5 true earlier (old_absent 1) true (cast activate 0 both nobody nobody)

-- ---- messages: TN, sort, version, status after the event, failed set and LRN, to the SOA of each, or to the Local SMS of each

abbrev pub message_for : ℕ → Bool → ℕ → ℕ → ℕ → ℕ → ℕ → ℕ → Message
message_for number local sort n s failed routing p = record {
  local = local;
  provider = p;
  sort = sort;
  id = record { tn = record { 0 = number }; number = n };
  status = s;
  failed = failed;
  lrn = record { 0 = routing };
}

abbrev pub message : Bool → ℕ → ℕ → ℕ → ℕ → ℕ → ℕ → Message
message = message_for tn

abbrev pub created_for : ℕ → ℕ → List ℕ → List Message
created_for number n ps = map (message_for number false creation n pending nobody 0) ps

abbrev pub created_to : ℕ → List ℕ → List Message
created_to = created_for tn

abbrev pub attributes_to : ℕ → List ℕ → List Message
attributes_to n ps = map (message false attributes n pending nobody lrn) ps

-- a closing's, with those that failed
abbrev pub status_to : ℕ → ℕ → ℕ → List ℕ → List Message
status_to n s failed ps = map (message false status n s failed 0) ps

abbrev pub downloads_to : ℕ → ℕ → List ℕ → List Message
downloads_to purpose n ps = map (message true (download purpose) n sending nobody lrn) ps

-- ---- stages

abbrev pub done : Event → List Message → List Version → Stage
done e sent rows = record { event = e; out = 0; sent = sent; rows = rows }

abbrev pub refused : Event → ℕ → List Version → Stage
refused e n rows = record { event = e; out = n; sent = []; rows = rows }

abbrev pub given : Setting → List Version → List Stage → Example
given s t l = record { setting = s; table = t; stages = l }
