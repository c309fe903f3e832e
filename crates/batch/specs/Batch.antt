-- Many event records on one table: what repeated steps leave.
-- Assumes nothing.
use Rattle.std.specs.Prelude.{◌≡◌, ℕ, suc, ◌+◌, ◌*◌, ◌/◌, ◌%◌, cond, ◌&&◌, List, [], ◌∷◌, ◌++◌, eqb, leb, length, take, drop, set}
use Rattle.std.specs.Prelude.{Option, Some}
use Rattle.model.specs.Books.{sound_retries}
use Rattle.packing.specs.Layout.{RECORD}
use Rattle.model.specs.Outcomes.{number_of}
use Rattle.model.specs.Given.{Result}
use Rattle.model.specs.Step.{PLACES}
use Rattle.model.specs.declared.Marks.{Marks}
use Rattle.rows.specs.Chunks.{chunks}
use Rattle.scan.specs.Sound.{SoundTable}
use Rattle.tray.specs.Tray.{message_size, places_in, put_all}
use Rattle.engine.specs.Event.{table_after}
use Rattle.checks.specs.Checks.{soundness_lent}
use Rattle.engine.specs.Step.{formed, result_in}
use Rattle.batch.specs.declared.Ran.{Ran}

abbrev pub records_in : List ℕ → List (List ℕ)
records_in es = chunks RECORD (length es / RECORD) es

-- the table, the tray and the outcome slice, how many events are done and how many messages are told
pub record Stand : Type 0 where
  pub table : List ℕ
  pub tray : List ℕ
  pub outs : List ℕ
  pub events : ℕ
  pub messages : ℕ

-- the tray behind the messages that are told
abbrev pub behind : Stand → List ℕ
behind s = drop (message_size * s.messages) s.tray

-- after an event's result: its messages behind the others, its outcome and its count in two bytes
abbrev pub after : Result → Stand → Stand
after x s = record {
  table = table_after x s.table;
  tray = take (message_size * s.messages) s.tray ++ put_all (behind s) 0 x.sent;
  outs = set (set s.outs (2 * s.events) (number_of x.out)) (2 * s.events + 1) (length x.sent);
  events = suc s.events;
  messages = s.messages + length x.sent;
}

module _ (l : Option Marks) (b : List ℕ) (most : ℕ) where
  -- the step of a record on what stands, with the tray behind the messages
  abbrev pub result_at : List ℕ → Stand → Result
  result_at e s = result_in l b most e s.table (behind s)

  -- one step after the other, up to an event for which fewer than 64 places are left
  unfoldable pub steps : List (List ℕ) → Stand → Stand
  steps [] s = s
  steps (e ∷ es) s = cond (leb PLACES (places_in (behind s))) (steps es (after (result_at e s) s)) s

abbrev pub begin : List ℕ → List ℕ → List ℕ → Stand
begin t y o = record { table = t; tray = y; outs = o; events = 0; messages = 0 }

-- Outcome 1: the table or the books are unsound, R is above 7, the tray has fewer than 64 places, or the outcome slice fewer than two bytes
-- an event; otherwise 2: the records are not whole.
unfoldable pub refusal : Option Marks → List ℕ → ℕ → List ℕ → List ℕ → List ℕ → List ℕ → ℕ
refusal l b most es t y o =
    cond (formed l b t && sound_retries most && leb PLACES (places_in y) && leb (2 * (length es / RECORD)) (length o))
    (cond (eqb (length es % RECORD) 0) 0 2) 1

-- what a run leaves
unfoldable pub leaves : Option Marks → List ℕ → ℕ → List ℕ → List ℕ → List ℕ → List ℕ → Stand
leaves l b most es t y o = cond (eqb (refusal l b most es t y o) 0) (steps l b most (records_in es) (begin t y o)) (begin t y o)

-- the answer of a run that is refused
abbrev pub refused_with : ℕ → Ran
refused_with n = record { outcome = n; events = 0; messages = 0 }

-- the answer, and the slices after it
pub record Went (n : ℕ) (s : Stand) (after tray_after outs_after : List ℕ) (r : Ran) : Type 0 where
  pub said : r.outcome ≡ n
  pub done : r.events ≡ s.events
  pub told : r.messages ≡ s.messages
  pub left : after ≡ s.table
  pub laid : tray_after ≡ s.tray
  pub noted : outs_after ≡ s.outs

-- A run with this provider list, these books, this R and these events: what it answers, and what the three slices hold after it.
abbrev pub RunOn : Option Marks → List ℕ → ℕ → List ℕ → (table tray outs after tray_after outs_after : List ℕ) → Ran → Type 0
RunOn l b most es t y o after tray_after outs_after r =
    Went (refusal l b most es t y o) (leaves l b most es t y o) after tray_after outs_after r

-- one event more, and the table is sound again
pub record Turned (l : Option Marks) (b : List ℕ) (x : Result) (s u : Stand) (used : ℕ) : Type 0 where
  pub is : u ≡ after x s
  pub sound : SoundTable u.table used
  pub scanned : soundness_lent l b u.table ≡ Some used
