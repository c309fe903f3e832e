-- What a step sends fits the places of a tray, so that it can be read back.
-- Assumes nothing.
use Rattle.providers.specs.Providers.{marks_in}
use mathlib.Core.Path.{◌≡◌, refl, sym, subst}
use Prim.Native.Nat.{ℕ}
use mathlib.Core.Bool.{Bool, true, false}
use mathlib.Core.List.{List}
use Rattle.model.specs.Basics.{All, none}
use Rattle.model.specs.Given.{Result, refuse}
use Rattle.model.proofs.Lists.{clash}
use Rattle.octets.specs.Octets.{Bytes}
use Rattle.packing.specs.Layout.{read_event}
use Rattle.model.specs.declared.Marks.{Marks}
use Rattle.checks.specs.Checks.{soundness_lent}
use Rattle.checks.proofs.Lending.{lent_says, lent_table}
use Rattle.std.specs.Prelude.{Option, None, Some}
use Rattle.tray.specs.Tray.{Fits}
use Rattle.engine.specs.Event.{given_to}
use Rattle.engine.specs.Step.{result_in}
use Rattle.engine.proofs.Deciding.{ground, rule_rows}
use Rattle.engine.proofs.Stepping.{fit_ready, fit-rule, fit_malformed}
use Rattle.engine.proofs.Exactly.{lent_sound, unlent}
use Rattle.model.specs.declared.Outcome.{Outcome}
use Rattle.model.specs.declared.Outcome.TheVariants as outcome
use Rattle.model.specs.Record.{Reading}
use Rattle.std.specs.Prelude.{Ok, Err}
use Rattle.engine.proofs.Posting.{rule_mail}

-- ---- over bytes

module _ (l : Option Marks) (b : List ℕ) (most : ℕ) (xs t y : List ℕ) (bytes : Bytes t) where
  abbrev X : Result
  X = result_in l b most xs t y

  -- Whatever is lent, the messages of a step fit their places.
  pub sent_fits : All Fits X.sent
  sent_fits = go (lent_sound l b most xs t y) refl (read_event xs) refl (soundness_lent l b t) refl
    where
      refused : (o : Outcome) → X ≡ refuse o → All Fits X.sent
      refused o q = subst (λ (x : Result). All Fits x.sent) (sym q) none

      go : (d : Bool) → lent_sound l b most xs t y ≡ d → (x : Reading) → read_event xs ≡ x → (s : Option ℕ) → soundness_lent l b t ≡ s
          → All Fits X.sent
      go false q x r s k = refused outcome.Unsound (unlent l b most xs t y bytes q)
      go true q x r None k = clash (rw k at q)
      go true q (Err m) r (Some n) k =
          refused outcome.Malformed (fit_malformed l b most xs t y n (lent_table l b t n bytes k) k (rw k at q) r)
      go true q (Ok e) r (Some n) k =
          let st = lent_table l b t n bytes k in
          let ls = (lent_says l b t n k).lines in
          let p = fit_ready l b most xs t y n st k (rw k at q) e r in
          subst (λ (x : Result). All Fits x.sent) (sym (fit-rule l b most xs t y n st k (rw k at q) e r))
          (rule_mail (given_to (marks_in l) b most t e) (ground (marks_in l) b most t n e p.1 st ls p.0.formed).rows p.0.formed
          (rule_rows (marks_in l) b most t n e p.1 st ls p.0.formed))
