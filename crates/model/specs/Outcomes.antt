-- Outcome numbers, and the orders in which refusals are judged.
-- Assumes nothing.
use Rattle.std.specs.Prelude.{ℕ, Bool, cond, List, [], ◌∷◌, eqb}
use Rattle.model.specs.Record.{is_create, is_answer}
use Rattle.model.specs.declared.Outcome.{Outcome}
use Rattle.model.specs.declared.Outcome.TheVariants.{Done, Unsound, Malformed, Absent, Unlisted, Unknown, Standless, Misplaced}
use Rattle.model.specs.declared.Outcome.TheVariants.{Early, Unfit, Busy, Unawaited, NotCurrent, Full, Exhausted, AnotherDue}

-- the paper's number of each outcome [H7, O10, A4.2]
abbrev pub number_of : Outcome → ℕ
number_of Done = 0
number_of Unsound = 1
number_of Malformed = 2
number_of Absent = 3
number_of Unlisted = 4
number_of Unknown = 5
number_of Standless = 6
number_of Misplaced = 7
number_of Early = 8
number_of Unfit = 9
number_of Busy = 10
number_of Unawaited = 11
number_of NotCurrent = 12
number_of Full = 13
number_of Exhausted = 14
number_of AnotherDue = 18

abbrev pub is_done : Outcome → Bool
is_done o = eqb (number_of o) 0

-- Order, creates: 1, 2, 3, 4, 10, 8, 12, 9, 18, 14, 13. [O6, A4.2] Outcomes 1 and 2 stand in front of every order.
abbrev pub create_order : List Outcome
create_order = Absent ∷ Unlisted ∷ Busy ∷ Early ∷ NotCurrent ∷ Unfit ∷ AnotherDue ∷ Exhausted ∷ Full ∷ []

-- Kinds 11 and 12: 1, 2, 3, 5, 11, 8. [O7]
abbrev pub answer_order : List Outcome
answer_order = Absent ∷ Unknown ∷ Unawaited ∷ Early ∷ []

-- All others: 1, 2, 3, 5, 6, 7, 10, 8, 11. [O8]
abbrev pub other_order : List Outcome
other_order = Absent ∷ Unknown ∷ Standless ∷ Misplaced ∷ Busy ∷ Early ∷ Unawaited ∷ []

abbrev pub order_of : ℕ → List Outcome
order_of k = cond (is_create k) create_order (cond (is_answer k) answer_order other_order)

-- the first outcome of an order whose predicate holds, or done
abbrev pub judge : (Outcome → Bool) → List Outcome → Outcome
judge holds [] = Done
judge holds (o ∷ os) = cond (holds o) o (judge holds os)
