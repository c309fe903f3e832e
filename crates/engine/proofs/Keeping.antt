-- What a step over bytes keeps: everything, where it refuses; a sound table, where it is done.
-- Assumes nothing.
use Rattle.providers.specs.Providers.{marks_in}
use mathlib.Core.Path.{◌≡◌, refl, sym, ap, ◌∙◌, subst}
use Prim.Native.Nat.{ℕ, ◌≤◌}
use native.Mathlib.Omega.{arith}
use mathlib.Core.Bool.{Bool, true, false, cond}
use mathlib.Core.List.{List, []}
use lib.ListN.{length}
use Rattle.model.specs.Outcomes.{is_done}
use Rattle.model.specs.Sound.{sound_table}
use Rattle.model.specs.Table.{changes}
use Rattle.model.specs.Given.{Result, refuse}
use Rattle.model.specs.Step.{Setting, line, unsound}
use Rattle.model.specs.Step as model
use Rattle.model.proofs.Lists.{clash}
use Rattle.model.proofs.Theorems.{done_sound, refusal_sends_nothing, at_most_63}
use Rattle.model.specs.declared.Version.{Version}
use Rattle.model.specs.declared.Outcome.{Outcome}
use Rattle.model.specs.declared.Outcome.TheVariants as outcome
use Rattle.model.specs.Record.{Reading, malformed}
use Rattle.std.specs.Prelude.{Ok, Err}
use Rattle.packing.specs.Layout.{read_event}
use Rattle.model.specs.declared.Marks.{Marks}
use Rattle.rows.specs.Table.{decode, encode}
use Rattle.scan.specs.Sound.{rows_in, itself, SoundTable}
use Rattle.lines.specs.Lines.{line_by, soundness_in}
use Rattle.lines.proofs.Meaning.{lines_table, says_sound_in}
use Rattle.std.specs.Prelude.{Option, None, Some}
use Rattle.checks.specs.Checks.{soundness_lent}
use Rattle.checks.proofs.Lending.{lent_says, says_lent}
use Rattle.table.proofs.Steps.{says_again, rows_again, sound_again}
use Rattle.engine.specs.Event.{table_after}
use Rattle.engine.specs.Step.{setting_of, is_table, formed, result_in}

-- u is a table that is sound with provider list and books, and has as many rows as t
pub record Again (l : Option Marks) (b t u : List ℕ) : Type 0 where
  pub table : SoundTable u (length (decode u))
  pub scanned : soundness_lent l b u ≡ Some (length (decode u))
  pub rows : rows_in u ≡ rows_in t

-- what holds of the result of a step on t
record Kept (s : Setting) (t : List Version) (x : Result) : Type 0 where
  silent : is_done x.out ≡ false → x.sent ≡ []
  few : length x.sent ≤ 63
  sound : is_done x.out ≡ true → sound_table (line s) s.rows (changes x.does t) ≡ true

refuse_kept : (s : Setting) (t : List Version) (o : Outcome) → is_done o ≡ false → Kept s t (refuse o)
refuse_kept s t o h = record { silent = λ q. refl; few = omega arith; sound = λ q. clash (sym h ∙ q) }

step_kept : (s : Setting) (x : Reading) (t : List Version) → Kept s t (model.step s x t)
unfolding model.step
step_kept s (Ok e) t = record { silent = refusal_sends_nothing s e t; few = at_most_63 s e t; sound = done_sound s e t }
step_kept s (Err m) t = go (unsound s t) refl
  where
    go : (b : Bool) → unsound s t ≡ b → Kept s t (model.step s malformed t)
    go true q = rw q (refuse_kept s t outcome.Unsound refl)
    go false q = rw q (refuse_kept s t outcome.Malformed refl)

module _ (l : Option Marks) (b : List ℕ) (most : ℕ) (e t y : List ℕ) where
  abbrev S : Setting
  S = setting_of (marks_in l) b most t y

  abbrev X : Result
  X = result_in l b most e t y

  kept : Kept S (decode t) X
  unfolding result_in
  kept = go (formed l b t) refl
    where
      go : (f : Bool) → formed l b t ≡ f → Kept S (decode t) X
      go true q = rw q (step_kept S (read_event e) (decode t))
      go false q = rw q (refuse_kept S (decode t) outcome.Unsound refl)

  pub refused_silent : is_done X.out ≡ false → X.sent ≡ []
  refused_silent = kept.silent

  pub result_few : length X.sent ≤ 63
  result_few = kept.few

  -- the number of versions after it
  abbrev pub used_after : ℕ
  used_after = length (changes X.does (decode t))

  -- what is done was formed
  done_formed : is_done X.out ≡ true → formed l b t ≡ true
  unfolding result_in
  done_formed h = go (formed l b t) refl
    where
      go : (f : Bool) → formed l b t ≡ f → formed l b t ≡ true
      go true q = q
      go false q = clash (rw q at h)

  lent_in : is_done X.out ≡ true → (u : List ℕ) → soundness_lent l b u ≡ soundness_in b u
  lent_in h u = go (soundness_lent l b t) refl (done_formed h)
    where
      go : (s : Option ℕ) → soundness_lent l b t ≡ s → is_table s ≡ true → soundness_lent l b u ≡ soundness_in b u
      go None q k = clash k
      go (Some n) q k = let p = lent_says l b t n q in says_lent l b u p.listed p.books

  pub done_scanned : is_done X.out ≡ true → soundness_lent l b (table_after X t) ≡ Some used_after
  done_scanned h =
      lent_in h (table_after X t)
      ∙ ap (λ (d : Bool). soundness_in b (cond d (encode (changes X.does (decode t)) (rows_in t)) t)) h
      ∙ says_sound_in b (changes X.does (decode t)) (rows_in t) (kept.sound h)

  -- On a sound table a step leaves a sound table of as many rows, whatever its outcome.
  pub again : (n : ℕ) → SoundTable t n → soundness_lent l b t ≡ Some n → Again l b t (table_after X t)
  again n s q = go (is_done X.out) refl
    where
      go : (d : Bool) → is_done X.out ≡ d → Again l b t (table_after X t)
      go true h =
          let vs : List Version = changes X.does (decode t) in
          let k : sound_table itself (rows_in t) vs ≡ true = (lines_table (line_by b) (rows_in t) vs (kept.sound h)).0 in
          let c : length (decode (encode vs (rows_in t))) ≡ length vs = ap length (says_again vs (rows_in t) k) in
          rw h
          (record {
            table = subst (λ (m : ℕ). SoundTable (encode vs (rows_in t)) m) (sym c) (sound_again vs (rows_in t) k);
            scanned = lent_in h (encode vs (rows_in t)) ∙ says_sound_in b vs (rows_in t) (kept.sound h) ∙ ap Some (sym c);
            rows = rows_again vs (rows_in t) k;
          })
      go false h =
          rw h
          (record { table = subst (λ (m : ℕ). SoundTable t m) (sym s.count) s; scanned = q ∙ ap Some (sym s.count); rows = refl })
