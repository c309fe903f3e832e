-- The orders of refusals as the code meets them: tests over what the survey of a number's rows says.
-- Assumes nothing.
use Rattle.std.specs.Prelude.{ℕ, Bool, true, false, cond, not, ◌&&◌, ◌||◌, List, [], ◌∷◌, eqb, ltb, leb, Result, Ok, Err}
use Rattle.model.specs.Numbers.{last_number}
use Rattle.model.specs.Basics.{holds, is_none}
use Rattle.model.specs.Kinds as kind
use Rattle.model.specs.Record.{is_broadcast}
use Rattle.model.specs.Sound.{failure}
use Rattle.model.specs.Standing.{lacks_standing, wrong_status}
use Rattle.model.specs.Creates.{old_in, current_or, fits, agrees}
use Rattle.model.specs.Outcomes.{is_done, number_of, judge, create_order, answer_order, other_order}
use Rattle.model.specs.Answers.{awaited}
use Rattle.model.specs.Refusals.{missing, absent, before_start, before_due, idle}
use Rattle.model.specs.declared.Event.{Event}
use Rattle.model.specs.declared.Version.{Version}
use Rattle.model.specs.declared.Marks.{Marks}
use Rattle.model.specs.declared.Outcome.{Outcome}
use Rattle.books.specs.Packed.{decode_books}
use Rattle.table.specs.declared.survey.Facts.{Facts}
use Rattle.table.specs.Survey.{the_one}

-- sender or other is not 0 and not present, of which the marks alone decide [O3]
abbrev pub missing_in : Marks → ℕ → Bool
missing_in m p = missing (decode_books m []) p

abbrev pub absent_in : Marks → Event → Bool
absent_in m e = absent (decode_books m []) e

-- the tests of an order's outcomes, as the code has them: the test of one outcome
abbrev pub test_of : List Outcome → List Bool → Outcome → Bool
test_of [] bs x = false
test_of (o ∷ os) [] x = false
test_of (o ∷ os) (b ∷ bs) x = cond (eqb (number_of o) (number_of x)) b (test_of os bs x)

-- the first outcome of an order whose test holds, or done
abbrev pub first_of : List Outcome → List Bool → Outcome
first_of os bs = judge (test_of os bs) os

-- an event that is done goes on, and any other outcome refuses it
abbrev pub go_on : Outcome → Result Unit Outcome
go_on o = cond (is_done o) (Ok tt) (Err o)

-- creates [O6, A4.2]
abbrev pub create_tests : Event → Bool → ℕ → Facts → Bool → List Bool
create_tests e absent owner f free =
    absent
    ∷ eqb owner 0
    ∷ f.sends
    ∷ ltb e.time f.stamp
    ∷ not (eqb (old_in e) (current_or owner (the_one f.live)))
    ∷ holds (the_one f.worked) (λ (v : Version). not (fits e v))
    ∷ holds (the_one f.worked) (λ (v : Version). fits e v && not (agrees e v))
    ∷ (is_none (the_one f.worked) && leb last_number f.newest)
    ∷ (is_none (the_one f.worked) && not free)
    ∷ []

unfoldable pub create_for : Event → Bool → ℕ → Facts → Bool → Outcome
create_for e absent owner f free = first_of create_order (create_tests e absent owner f free)

-- a version that is not there
abbrev pub unknown_by : Bool → Outcome
unknown_by absent = first_of other_order (absent ∷ true ∷ [])

-- kinds 11 and 12 [O7]
abbrev pub answer_for : Event → Bool → Version → Outcome
answer_for e absent v = first_of answer_order (absent ∷ false ∷ not (awaited e v) ∷ before_start e v ∷ [])

-- all others [O8]
abbrev pub busy_for : Event → Facts → Version → Bool
busy_for e f v =
    cond (is_broadcast e.kind) (f.blocked || (eqb e.kind kind.resend && eqb v.status failure && ltb v.id.number f.newest))
    (eqb e.kind kind.purge && leb f.newest v.id.number)

unfoldable pub other_for : Event → Bool → Facts → Version → Outcome
other_for e absent f v =
    first_of other_order
    (absent
    ∷ false
    ∷ lacks_standing e v
    ∷ wrong_status e v
    ∷ busy_for e f v
    ∷ (ltb e.time f.stamp || before_due e v)
    ∷ idle e v
    ∷ [])
