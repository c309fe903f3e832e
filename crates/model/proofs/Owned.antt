-- The rules give no outcome 1 and no outcome 2: these stand in front of every order.
-- Assumes nothing.
use mathlib.Core.Path.{◌≡◌, refl, sym, ap, ◌∙◌}
use Prim.Native.Nat.{ℕ}
use mathlib.Core.Bool.{Bool, true, false, cond, ◌||◌}
use mathlib.Core.List.{List, [], ◌∷◌}
use lib.Dec.{eqb, leb}
use Rattle.model.specs.Basics.{All, none, with}
use Rattle.model.specs.Record.{is_create, is_answer}
use Rattle.model.specs.Outcomes.{number_of, judge, create_order, answer_order, other_order, order_of}
use Rattle.model.specs.Given.{Given, Result}
use Rattle.model.specs.Refusals.{refuses}
use Rattle.model.specs.Step.{rule}
use Rattle.model.proofs.Lists.{clash, all_true}
use Rattle.model.proofs.Ways.{by_answer, by_order}
use Rattle.model.specs.declared.Outcome.{Outcome}

-- an outcome whose number is 0, or 3 or more
abbrev ruled : ℕ → Bool
ruled n = leb 3 n || eqb n 0

abbrev Own : Outcome → Type 0
Own o = ruled (number_of o) ≡ true

own_judge : (p : Outcome → Bool) (os : List Outcome) → All Own os → Own (judge p os)
own_judge p [] none = refl
own_judge p (o ∷ os) (with h k) = go (p o) (own_judge p os k)
  where
    go : (b : Bool) → Own (judge p os) → Own (cond b o (judge p os))
    go true r = h
    go false r = r

own_order : (k : ℕ) → All Own (order_of k)
own_order k = go (is_create k) (is_answer k)
  where
    go : (a b : Bool) → All Own (cond a create_order (cond b answer_order other_order))
    go true b = all_true (λ (o : Outcome). ruled (number_of o)) create_order refl
    go false true = all_true (λ (o : Outcome). ruled (number_of o)) answer_order refl
    go false false = all_true (λ (o : Outcome). ruled (number_of o)) other_order refl

-- what is accepted has 0 or 5
owned_rule : (g : Given) → Own (rule g).out
owned_rule g =
    by_order (λ (x : Result). Own x.out) g (λ _. by_answer (λ (x : Result). Own x.out) (λ ms cs. refl) refl g)
    (λ _. own_judge (refuses g) (order_of g.event.kind) (own_order g.event.kind))

-- The rules' own outcomes are neither 1 nor 2.
pub rule_not_one : (g : Given) → number_of (rule g).out ≡ 1 → ⊥
rule_not_one g h = clash (sym (ap ruled h) ∙ owned_rule g)

pub rule_not_two : (g : Given) → number_of (rule g).out ≡ 2 → ⊥
rule_not_two g h = clash (sym (ap ruled h) ∙ owned_rule g)
