-- When outcome 1 and outcome 2 are given, over bytes: exactly then.
-- Assumes nothing.
use Rattle.providers.specs.Providers.{marks_in}
use mathlib.Core.Path.{◌≡◌, refl, sym, ap, ◌∙◌}
use Prim.Native.Nat.{ℕ}
use native.Mathlib.Omega.{arith}
use mathlib.Core.Bool.{Bool, true, false, ◌&&◌}
use mathlib.Core.List.{List}
use Rattle.octets.specs.Octets.{Bytes}
use Rattle.model.specs.Given.{Given, Result, refuse}
use Rattle.model.specs.Outcomes.{number_of}
use Rattle.model.specs.Step.{rule}
use Rattle.model.proofs.Lists.{clash}
use Rattle.model.proofs.Owned.{rule_not_one, rule_not_two}
use Rattle.model.specs.declared.Event.{Event}
use Rattle.model.specs.Record.{Reading, malformed}
use Rattle.std.specs.Prelude.{Ok, Err}
use Rattle.model.specs.declared.Outcome.TheVariants as outcome
use Rattle.packing.specs.Layout.{read_event}
use Rattle.model.specs.declared.Marks.{Marks}
use Rattle.checks.proofs.Lending.{lent_table}
use Rattle.std.specs.Prelude.{Option, None, Some}
use Rattle.tray.specs.Tray.{places_in}
use Rattle.checks.specs.Checks.{fitting, soundness_lent}
use Rattle.engine.specs.Event.{given_to}
use Rattle.engine.specs.Step.{is_table, result_in}
use Rattle.engine.specs.Demands.{is_record}
use Rattle.engine.proofs.Stepping.{no_table, unfit_refused, fit-rule, fit_malformed}

module _ (l : Option Marks) (b : List ℕ) (most : ℕ) (xs t y : List ℕ) where
  abbrev X : Result
  X = result_in l b most xs t y

  -- table, provider list and books are sound, R is 0 to 7, and the tray has 64 whole places
  abbrev pub lent_sound : Bool
  lent_sound = is_table (soundness_lent l b t) && fitting most (places_in y)

  module _ (bytes : Bytes t) where
    pub unlent : lent_sound ≡ false → X ≡ refuse outcome.Unsound
    unlent h = go (soundness_lent l b t) refl
      where
        go : (s : Option ℕ) → soundness_lent l b t ≡ s → X ≡ refuse outcome.Unsound
        go None q = no_table l b most xs t y q
        go (Some n) q =
            unfit_refused l b most xs t y n (lent_table l b t n bytes q) q (rw q at h)

    module _ (h : lent_sound ≡ true) where
      lent_malformed : read_event xs ≡ malformed → X ≡ refuse outcome.Malformed
      lent_malformed r = go (soundness_lent l b t) refl
        where
          go : (s : Option ℕ) → soundness_lent l b t ≡ s → X ≡ refuse outcome.Malformed
          go None q = clash (rw q at h)
          go (Some n) q = fit_malformed l b most xs t y n (lent_table l b t n bytes q) q (rw q at h) r

      lent_ruled : (k : ℕ) → ((g : Given) → number_of (rule g).out ≡ k → ⊥) → (e : Event) → read_event xs ≡ Ok e → number_of X.out ≡ k
          → ⊥
      lent_ruled k never e r z = go (soundness_lent l b t) refl
        where
          go : (s : Option ℕ) → soundness_lent l b t ≡ s → ⊥
          go None q = clash (rw q at h)
          go (Some n) q =
              never (given_to (marks_in l) b most t e)
              (sym (ap (λ (x : Result). number_of x.out) (fit-rule l b most xs t y n (lent_table l b t n bytes q) q (rw q at h) e r)) ∙ z)

    -- outcome 1
    pub one_lent : number_of X.out ≡ 1 → lent_sound ≡ false
    one_lent z = go lent_sound refl (read_event xs) refl
      where
        go : (d : Bool) → lent_sound ≡ d → (x : Reading) → read_event xs ≡ x → lent_sound ≡ false
        go false q x r = q
        go true q (Ok e) r = absurd (lent_ruled q 1 rule_not_one e r z)
        go true q (Err m) r =
            let k : ◌≡◌ {A = ℕ} 2 1 = sym (ap (λ (x : Result). number_of x.out) (lent_malformed q r)) ∙ z in absurd (omega arith)

    pub lent_one : lent_sound ≡ false → number_of X.out ≡ 1
    lent_one h = ap (λ (x : Result). number_of x.out) (unlent h)

    -- outcome 2
    pub two_lent : number_of X.out ≡ 2 → (lent_sound ≡ true) × (is_record (read_event xs) ≡ false)
    two_lent z = go lent_sound refl (read_event xs) refl
      where
        go : (d : Bool) → lent_sound ≡ d → (x : Reading) → read_event xs ≡ x → (lent_sound ≡ true) × (is_record (read_event xs) ≡ false)
        go false q x r = let k : ◌≡◌ {A = ℕ} 1 2 = sym (ap (λ (x : Result). number_of x.out) (unlent q)) ∙ z in absurd (omega arith)
        go true q (Ok e) r = absurd (lent_ruled q 2 rule_not_two e r z)
        go true q (Err m) r = (q, ap is_record r)

    pub lent_two : lent_sound ≡ true → is_record (read_event xs) ≡ false → number_of X.out ≡ 2
    lent_two h m = go (read_event xs) refl
      where
        go : (x : Reading) → read_event xs ≡ x → number_of X.out ≡ 2
        go (Ok e) r = clash (sym (rw r at m))
        go (Err m) r = ap (λ (x : Result). number_of x.out) (lent_malformed h r)
