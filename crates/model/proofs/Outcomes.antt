-- Outcomes by their numbers, and what it is to pass an order of refusals.
-- Assumes nothing.
use mathlib.Core.Path.{◌≡◌, refl, sym, ◌∙◌}
use Prim.Native.Nat.{◌<◌}
use mathlib.Core.Bool.{Bool, true, false, cond, not}
use mathlib.Core.List.{List, [], ◌∷◌}
use mathlib.Core.Option.{some}
use lib.Dec.{eqb}
use native.Mathlib.Omega.{arith}
use borrow.Author.Tests.{ne_eqb, not-true}
use Rattle.model.specs.Basics.{all, first, All, none, with}
use Rattle.model.specs.Outcomes.{number_of, is_done, judge}
use Rattle.model.proofs.Lists.{clash, and_l, and_r, all_first}
use Rattle.model.specs.declared.Outcome.{Outcome}
use Rattle.model.specs.declared.Outcome.TheVariants.{Done, Unsound, Malformed, Absent, Unlisted, Unknown, Standless, Misplaced}
use Rattle.model.specs.declared.Outcome.TheVariants.{Early, Unfit, Busy, Unawaited, NotCurrent, Full, Exhausted, AnotherDue}

-- ---- by number

-- outcome by outcome: the number is below 19, and 0 is the number of done alone
numbered : (o : Outcome) → (number_of o < 19) × (number_of o ≡ 0 → o ≡ Done)
numbered Done = (omega arith, λ h. refl)
numbered Unsound = (omega arith, λ h. absurd (omega arith))
numbered Malformed = (omega arith, λ h. absurd (omega arith))
numbered Absent = (omega arith, λ h. absurd (omega arith))
numbered Unlisted = (omega arith, λ h. absurd (omega arith))
numbered Unknown = (omega arith, λ h. absurd (omega arith))
numbered Standless = (omega arith, λ h. absurd (omega arith))
numbered Misplaced = (omega arith, λ h. absurd (omega arith))
numbered Early = (omega arith, λ h. absurd (omega arith))
numbered Unfit = (omega arith, λ h. absurd (omega arith))
numbered Busy = (omega arith, λ h. absurd (omega arith))
numbered Unawaited = (omega arith, λ h. absurd (omega arith))
numbered NotCurrent = (omega arith, λ h. absurd (omega arith))
numbered Full = (omega arith, λ h. absurd (omega arith))
numbered Exhausted = (omega arith, λ h. absurd (omega arith))
numbered AnotherDue = (omega arith, λ h. absurd (omega arith))

pub number_small : (o : Outcome) → number_of o < 19
number_small o = (numbered o).0

-- only done has number 0
pub zero_done : (o : Outcome) → number_of o ≡ 0 → o ≡ Done
zero_done o h = (numbered o).1 h

-- and any other is a refusal
pub other_refused : (o : Outcome) → (number_of o ≡ 0 → ⊥) → is_done o ≡ false
other_refused o h = ne_eqb (number_of o) 0 h

-- ---- an order that is passed

abbrev pub refusals : List Outcome → Bool
refusals os = all (λ (o : Outcome). not (is_done o)) os

-- an event that passes an order has each of its predicates false
pub order_passed : (p : Outcome → Bool) (os : List Outcome) → refusals os ≡ true → is_done (judge p os) ≡ true
    → All (λ (o : Outcome). p o ≡ false) os
order_passed p [] n h = none
order_passed p (o ∷ os) n h =
    let past = one (p o) (not-true (is_done o) (and_l (not (is_done o)) (refusals os) n)) h in
    with past.0 (order_passed p os (and_r (not (is_done o)) (refusals os) n) past.1)
  where
    one : (b : Bool) → is_done o ≡ false → is_done (cond b o (judge p os)) ≡ true → (b ≡ false) × (is_done (judge p os) ≡ true)
    one true r q = clash (sym r ∙ q)
    one false r q = (refl, q)

-- o is found in the order by its number
abbrev pub StandsIn : Outcome → List Outcome → Type 0
StandsIn o os = first (λ (x : Outcome). eqb (number_of x) (number_of o)) os ≡ some o

-- the same of one predicate; for an order and an outcome that are written out, both tests are computed
pub refusal_passed : (p : Outcome → Bool) (os : List Outcome) (o : Outcome) → refusals os ≡ true → StandsIn o os
    → is_done (judge p os) ≡ true → p o ≡ false
refusal_passed p os o n s h = all_first (λ (x : Outcome). eqb (number_of x) (number_of o)) o (order_passed p os n h) s
