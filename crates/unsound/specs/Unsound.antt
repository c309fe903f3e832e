-- Where a table is unsound: in its rows, in what it is lent with, or in its lines, which are of the books.
-- Assumes nothing.
use Rattle.std.specs.Prelude.{ℕ, cond, List, eqb}
use Rattle.std.specs.Prelude.{Option, Some}
use Rattle.faults.specs.declared.Fault.{Fault}
use Rattle.faults.specs.Faults.{broken, or_else, told}
use Rattle.checks.specs.Checks.{checked_books}
use Rattle.rows.specs.Table.{decode}
use Rattle.lines.specs.Lines.{line_by}
use Rattle.tablefaults.specs.Clauses.{table_fault}
use Rattle.bookfaults.specs.Clauses.{books_fault}
use Rattle.linefaults.specs.Clauses.{line_fault}

-- 32 where provider list or books are unsound; otherwise the lines' fault, if they have one
abbrev pub fault_beyond : List ℕ → List ℕ → List ℕ → Option Fault
fault_beyond t p b = cond (eqb (checked_books p b) 0) (line_fault (line_by b) (decode t)) (Some (broken 32))

-- what C is told of provider list and books
abbrev pub fault_of_books : List ℕ → List ℕ → Fault
fault_of_books p b = told (books_fault p b)

-- and of a table: the rows' own fault; where they have none, that of what they are lent with or of the lines
unfoldable pub fault_in : List ℕ → List ℕ → List ℕ → Fault
fault_in t p b = told (or_else (table_fault t) (fault_beyond t p b))
