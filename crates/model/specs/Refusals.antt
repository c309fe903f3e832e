-- Too early and busy, and for each outcome number the one predicate that gives it.
-- Assumes nothing.
use Rattle.std.specs.Prelude.{ℕ, Bool, false, cond, not, ◌&&◌, ◌||◌, List, eqb, ltb, leb}
use Rattle.model.specs.Basics.{any, holds, is_none}
use Rattle.model.specs.Kinds as kind
use Rattle.model.specs.Numbers.{code_of, last_number}
use Rattle.model.specs.Books.{Books, present, owner_of}
use Rattle.model.specs.Record.{is_create, is_answer, is_broadcast}
use Rattle.model.specs.Sound.{failure, sends}
use Rattle.model.specs.Given.{Given, found, rest, newest, last_stamp, worked_one}
use Rattle.model.specs.Standing.{lacks_standing, wrong_status}
use Rattle.model.specs.Creates.{old_in, current_for, fits, agrees}
use Rattle.model.specs.Changes.{own_cancel, window_spent}
use Rattle.model.specs.Answers.{awaited}
use Rattle.model.specs.declared.Event.{Event}
use Rattle.model.specs.declared.Version.{Version}
use Rattle.model.specs.declared.Outcome.{Outcome}
use Rattle.model.specs.declared.Outcome.TheVariants.{Done, Unsound, Malformed, Absent, Unlisted, Unknown, Standless, Misplaced}
use Rattle.model.specs.declared.Outcome.TheVariants.{Early, Unfit, Busy, Unawaited, NotCurrent, Full, Exhausted, AnotherDue}

-- Sender or other is not 0 and not present. [O3]
abbrev pub missing : Books → ℕ → Bool
missing bk p = not (eqb p 0) && not (present bk p)

abbrev pub absent : Books → Event → Bool
absent bk e = missing bk e.sender || missing bk e.other

-- A create for a code not listed. [O4]
abbrev pub unlisted : Books → Event → Bool
unlisted bk e = eqb (owner_of bk (code_of e.tn)) 0

-- Too early. Kinds 11, 12: time before the broadcast start. [R1] Others: time before the largest stamp of any version of the TN; for
-- activation also before the new due date. [R2]
abbrev pub before_start : Event → Version → Bool
before_start e v = ltb e.time v.cast.start

abbrev pub before_due : Event → Version → Bool
before_due e v = eqb e.kind kind.activate && ltb e.time v.new.due

unfoldable pub early : Given → Bool
early g =
    cond (is_answer g.event.kind) (holds (found g) (before_start g.event))
    (ltb g.event.time (last_stamp g.rows) || holds (found g) (before_due g.event))

-- Busy. Creates: a sending version of the TN. Kinds 5, 9, 10, 14: another version of it is sending. 14 on failed: a newer version exists.
-- 15: the newest version. [Q1]
unfoldable pub busy_with : Event → List Version → List Version → Version → Bool
busy_with e r others v =
    cond (is_broadcast e.kind)
    (any sends others || (eqb e.kind kind.resend && eqb v.status failure && ltb v.id.number (newest r)))
    (eqb e.kind kind.purge && leb (newest r) v.id.number)

unfoldable pub busy : Given → Bool
busy g = cond (is_create g.event.kind) (any sends g.rows) (holds (found g) (busy_with g.event g.rows (rest g)))

-- Not awaited. Kinds 11, 12: not in waiting. [W1] 7 by the canceller; 13 with nothing to do. [K2, K4]
abbrev pub idle : Event → Version → Bool
idle e v = cond (eqb e.kind kind.acknowledge) (own_cancel e v) (eqb e.kind kind.window_ran_out && window_spent v)

unfoldable pub unawaited : Given → Bool
unawaited g =
    cond (is_answer g.event.kind) (holds (found g) (λ (v : Version). not (awaited g.event v))) (holds (found g) (idle g.event))

-- The old side is not the current provider. [C1]
unfoldable pub not_current : Given → Bool
not_current g = not (eqb (old_in g.event) (current_for g.books g.event g.rows))

-- A worked version that this create does not fit. [C3]
unfoldable pub unfit : Given → Bool
unfit g = holds (worked_one g.rows) (λ (v : Version). not (fits g.event v))

-- A concurring create with another due date than the first. [A4.1]
unfoldable pub another_due : Given → Bool
another_due g = holds (worked_one g.rows) (λ (v : Version). fits g.event v && not (agrees g.event v))

-- A fresh version, and number 65,535 is used. [C2]
unfoldable pub exhausted : Given → Bool
exhausted g = is_none (worked_one g.rows) && leb last_number (newest g.rows)

-- A fresh version, and no free row. [C2]
unfoldable pub full : Given → Bool
full g = is_none (worked_one g.rows) && not g.free

-- one predicate for each number [O10]
abbrev pub refuses : Given → Outcome → Bool
refuses g Done = false
refuses g Unsound = false
refuses g Malformed = false
refuses g Absent = absent g.books g.event
refuses g Unlisted = unlisted g.books g.event
refuses g Unknown = is_none (found g)
refuses g Standless = holds (found g) (lacks_standing g.event)
refuses g Misplaced = holds (found g) (wrong_status g.event)
refuses g Early = early g
refuses g Unfit = unfit g
refuses g Busy = busy g
refuses g Unawaited = unawaited g
refuses g NotCurrent = not_current g
refuses g Full = full g
refuses g Exhausted = exhausted g
refuses g AnotherDue = another_due g
