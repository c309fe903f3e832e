-- Where something is unsound: the first place that breaks a clause, the first clause that it breaks, and the place of another with which it
-- breaks it. Places are told from 1 and counted from 0. docs/FAULTS.md has the numbers of the clauses.
-- Assumes nothing.
use Rattle.std.specs.Prelude.{ℕ, zero, suc, ◌<◌, ◌≡◌, Bool, false, cond, List, [], ◌∷◌, eqb}
use Rattle.std.specs.Prelude.{Option, Some, None}
use Rattle.std.specs.Option.{option_or}
use Rattle.faults.specs.declared.Found.{Found}
use Rattle.faults.specs.declared.Fault.{Fault}

-- ---- one place

-- a clause's number, and a second place, 0 for none
abbrev pub found_at : ℕ → ℕ → Found
found_at c s = record { clause = c; second = s }

-- a clause as it is asked of a place: its number, whether it holds, and the second place
pub record Clause : Type 0 where
  pub number : ℕ
  pub holds : Bool
  pub second : ℕ

-- of one place alone
abbrev pub alone : ℕ → Bool → Clause
alone n b = record { number = n; holds = b; second = 0 }

-- with another
abbrev pub beside : ℕ → Bool → ℕ → Clause
beside n b s = record { number = n; holds = b; second = s }

-- with the place `other`, 0 for none: it holds where there is none
abbrev pub once : ℕ → ℕ → Clause
once n other = beside n (eqb other 0) other

-- the first clause that does not hold, or else the rest
abbrev pub first_broken : List Clause → Option Found → Option Found
first_broken [] rest = rest
first_broken (c ∷ cs) rest = cond c.holds (first_broken cs rest) (Some (found_at c.number c.second))

-- ---- places before place i

-- the one right before it passes the test
abbrev pub before : (ℕ → Bool) → ℕ → Bool
before p zero = false
before p (suc j) = p j

-- the nearest one that passes the test, told from 1; 0 where none does
unfoldable pub nearest : (ℕ → Bool) → ℕ → ℕ
nearest p zero = 0
nearest p (suc j) = cond (p j) (suc j) (nearest p j)

-- ---- all places

-- what is answered of each of n places is what g says
abbrev pub Answers : {A : Type 0} → (ℕ → A → Type 0) → ℕ → (ℕ → A) → Type 0
Answers {A} post n g = (i : ℕ) (r : A) → i < n → post i r → r ≡ g i

-- a fault of the whole, at no place
abbrev pub broken : ℕ → Fault
broken c = record { clause = c; place = 0; second = 0 }

-- what is found at place i, or else the rest
abbrev pub at : Option Found → ℕ → Option Fault → Option Fault
at None i rest = rest
at (Some f) i rest = Some (record { clause = f.clause; place = suc i; second = f.second })

-- of m places from i on, the first at which something is found
unfoldable pub first_fault : (ℕ → Option Found) → ℕ → ℕ → Option Fault
first_fault found zero i = None
first_fault found (suc m) i = at (found i) i (first_fault found m (suc i))

-- one fault, or where there is none the next
abbrev pub or_else : Option Fault → Option Fault → Option Fault
or_else f g = option_or f g

-- ---- what C is told

-- zeros: nothing is at fault
abbrev pub faultless : Fault
faultless = broken 0

abbrev pub told : Option Fault → Fault
told None = faultless
told (Some f) = f

-- it says that nothing is at fault
abbrev pub is_faultless : Fault → Bool
is_faultless f = eqb f.clause 0
