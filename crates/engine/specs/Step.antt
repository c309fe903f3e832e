-- One step over bytes: what the call answers, whatever the bytes are. [O1, O2, O9]
-- Assumes nothing.
use Rattle.std.specs.Prelude.{ℕ, Bool, cond, List, map, Option, is_some}
use Rattle.model.specs.Given.{Result, refuse}
use Rattle.model.specs.Step.{Setting, step}
use Rattle.packing.specs.Layout.{read_event}
use Rattle.providers.specs.Providers.{listed, entry_of, marks_in}
use Rattle.books.specs.Packed.{decode_books}
use Rattle.rows.specs.Table.{decode}
use Rattle.scan.specs.Sound.{rows_in}
use Rattle.checks.specs.Checks.{soundness_lent}
use Rattle.tray.specs.Tray.{places_in}
use Rattle.model.specs.declared.Marks.{Marks}
use Rattle.model.specs.declared.Outcome.TheVariants as outcome
use Rattle.outcomes.specs.declared.Answer.{Answer}
use Rattle.engine.specs.Event.{Did}

abbrev pub setting_of : Marks → List ℕ → ℕ → List ℕ → List ℕ → Setting
setting_of m b most t y = record { books = decode_books m b; most = most; rows = rows_in t; places = places_in y }

abbrev pub is_table : Option ℕ → Bool
is_table s = is_some s

-- the bytes are a provider list, books, and a table that is sound with them
abbrev pub formed : Option Marks → List ℕ → List ℕ → Bool
formed l b t = is_table (soundness_lent l b t)

-- document 01's step of what the bytes say; where they say nothing, outcome 1
unfoldable pub result_in : Option Marks → List ℕ → ℕ → List ℕ → List ℕ → List ℕ → Result
result_in l b most e t y =
    cond (formed l b t) (step (setting_of (marks_in l) b most t y) (read_event e) (decode t)) (refuse outcome.Unsound)

-- the same with the provider list as bytes
abbrev pub result_of : List ℕ → List ℕ → ℕ → List ℕ → List ℕ → List ℕ → Result
result_of p = result_in (listed (map entry_of p))

-- A step with this provider list, these books, this R and this event: what it answers, and what table and tray hold after it.
abbrev pub Stepped : Option Marks → List ℕ → ℕ → List ℕ → (table tray after tray_after : List ℕ) → Answer → Type 0
Stepped l b most e t y after tray_after a = Did (result_in l b most e t y) t y after tray_after a
