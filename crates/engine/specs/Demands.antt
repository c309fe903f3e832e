-- Demand 3 over bytes: a list of event records on one table, with fixed provider list, books, R and tray. Each step is the one that the
-- call promises. [H4]
-- Assumes nothing.
use Rattle.std.specs.Prelude.{◌≡◌, ℕ, ◌+◌, ◌≤◌, Bool, true, false, List, [], ◌∷◌, ◌++◌, map, length, Ok, Err, Some}
use Rattle.model.specs.Books.{most_retries}
use Rattle.model.specs.Step.{PLACES}
use Rattle.octets.specs.Octets.{Bytes, be}
use Rattle.octets.specs.Fields.{cut}
use Rattle.model.specs.Basics.{All}
use Rattle.model.specs.Outcomes.{number_of}
use Rattle.model.specs.Exchange.{Exchangeable, May, reorder, mail_of}
use Rattle.packing.specs.Layout.{widths, event_of, read_event, RECORD}
use Rattle.providers.specs.Providers.{listed, entry_of}
use Rattle.scan.specs.Sound.{rows_in}
use Rattle.lines.specs.Lines.{line_by}
use Rattle.checks.specs.Checks.{soundness_lent}
use Rattle.tray.specs.Tray.{places_in}
use Rattle.engine.specs.Event.{table_after}
use Rattle.engine.specs.Step.{result_of}
use Rattle.model.specs.declared.Event.{Event}
use Rattle.model.specs.declared.Message.{Message}
use Rattle.model.specs.Record.{Reading}

abbrev pub is_record : Reading → Bool
is_record (Ok e) = true
is_record (Err m) = false

-- the fields that stand in a record's bytes
abbrev pub fields_in : List ℕ → Event
fields_in e = event_of (cut widths (be RECORD e 0))

module _ (p b : List ℕ) (most : ℕ) (y : List ℕ) where
  -- the table after one record
  abbrev pub table_by : List ℕ → List ℕ → List ℕ
  table_by e t = table_after (result_of p b most e t y) t

  -- and after all of them, each record's outcome number, and all messages in their order
  abbrev pub table_at_end : List (List ℕ) → List ℕ → List ℕ
  table_at_end [] t = t
  table_at_end (e ∷ es) t = table_at_end es (table_by e t)

  abbrev pub numbers_in : List (List ℕ) → List ℕ → List ℕ
  numbers_in [] t = []
  numbers_in (e ∷ es) t = number_of (result_of p b most e t y).out ∷ numbers_in es (table_by e t)

  abbrev pub messages_in : List (List ℕ) → List ℕ → List Message
  messages_in [] t = []
  messages_in (e ∷ es) t = (result_of p b most e t y).sent ++ messages_in es (table_by e t)

  -- Well-formed records, R of 0 to 7, a tray of 64, and a table that is sound with provider list and books, with as many free rows as
  -- records.
  pub record Lent (es : List (List ℕ)) (t : List ℕ) (used : ℕ) : Type 0 where
    pub bytes : Bytes t
    pub table : soundness_lent (listed (map entry_of p)) b t ≡ Some used
    pub free : used + length es ≤ rows_in t
    pub formed : All (λ (e : List ℕ). is_record (read_event e) ≡ true) es
    pub retries : most ≤ most_retries
    pub places : PLACES ≤ places_in y

  -- the same final bytes, the same outcome for each record, and for each system and line the same messages in the same order
  pub record SameBytes (ns : List ℕ) (es : List (List ℕ)) (t : List ℕ) : Type 0 where
    pub tables : table_at_end (reorder ns es) t ≡ table_at_end es t
    pub outs : numbers_in (reorder ns es) t ≡ reorder ns (numbers_in es t)
    pub mail : (local : Bool) (s n : ℕ)
        → mail_of (line_by b) local s n (messages_in (reorder ns es) t) ≡ mail_of (line_by b) local s n (messages_in es t)

-- two records whose fields may be exchanged, with the lines of these books
abbrev pub Exchanged : List ℕ → List ℕ → List ℕ → Type 0
Exchanged b e f = Exchangeable (line_by b) (fields_in e) (fields_in f)

abbrev pub ByteDemand3 : Type 0
ByteDemand3 =
    (p b : List ℕ) (most : ℕ) (y : List ℕ) (ns : List ℕ) (es : List (List ℕ)) (t : List ℕ) (used : ℕ) → Lent p b most y es t used
    → May (Exchanged b) ns es → SameBytes p b most y ns es t
