-- Where the lines of a sound table are unsound: the clauses on the rows of one line under the numbers of docs/FAULTS.md, asked of one row
-- after the other. [A3.5]
-- Assumes nothing.
use Rattle.std.specs.Prelude.{Option, None}
use Rattle.std.specs.Prelude.{ℕ, Bool, cond, ◌&&◌, ◌||◌, List, [], ◌∷◌, eqb, length}
use Rattle.faults.specs.declared.Found.{Found}
use Rattle.faults.specs.declared.Fault.{Fault}
use Rattle.faults.specs.Faults.{Clause, once, first_broken, nearest, first_fault}
use Rattle.model.specs.declared.Version.{Version}
use Rattle.model.specs.Sound.{live, sends, worked}
use Rattle.table.specs.Survey.{version_at}

-- what two versions of a line must not be, by the number of the clause: both live, both sending, both worked, or of one version number
abbrev pub collide : ℕ → Version → Version → Bool
collide n u v =
    cond (eqb n 33) (live u && live v)
    (cond (eqb n 34) (sends u && sends v) (cond (eqb n 35) (worked u && worked v) (eqb u.id.number v.id.number)))

-- ---- a row among those before it

-- the line of row j
abbrev pub line_at : (ℕ → ℕ) → List Version → ℕ → ℕ
line_at line vs j = line (version_at vs j).id.tn.0

-- the nearest row before row i that is of its line and collides with it, told from 1
abbrev pub rival : ℕ → (ℕ → ℕ) → List Version → ℕ → ℕ
rival n line vs i = nearest (λ (j : ℕ). eqb (line_at line vs j) (line_at line vs i) && collide n (version_at vs j) (version_at vs i)) i

-- per line at most one live, one sending, one worked version, and no version number twice
abbrev pub line_clauses : (ℕ → ℕ) → List Version → ℕ → List Clause
line_clauses line vs i = once 33 (rival 33 line vs i) ∷ once 34 (rival 34 line vs i) ∷ once 35 (rival 35 line vs i)
    ∷ once 36 (rival 36 line vs i) ∷ []

-- ---- the same under the two names of the row's line

abbrev pub under : ℕ → ℕ → ℕ → Bool
under tn low high = eqb tn low || eqb tn high

-- the nearest row before row i that is under one of two TNs and collides with v, told from 1
abbrev pub rival_under : ℕ → ℕ → ℕ → List Version → Version → ℕ → ℕ
rival_under n low high vs v i =
    nearest (λ (j : ℕ). under (version_at vs j).id.tn.0 low high && collide n (version_at vs j) v) i

abbrev pub under_clauses : ℕ → ℕ → List Version → Version → ℕ → List Clause
under_clauses low high vs v i =
    once 33 (rival_under 33 low high vs v i)
    ∷ once 34 (rival_under 34 low high vs v i)
    ∷ once 35 (rival_under 35 low high vs v i)
    ∷ once 36 (rival_under 36 low high vs v i)
    ∷ []

-- ---- a table

-- what row i breaks with the rows before it of its line
unfoldable pub row_found : (ℕ → ℕ) → List Version → ℕ → Option Found
row_found line vs i = first_broken (line_clauses line vs i) None

-- the first row that breaks a clause
unfoldable pub line_fault : (ℕ → ℕ) → List Version → Option Fault
line_fault line vs = first_fault (row_found line vs) (length vs) 0
