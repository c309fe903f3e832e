-- The step over bytes: when outcome 1 or 2 comes, and when it is the rule's.
-- Assumes nothing.
use Rattle.providers.specs.Providers.{marks_in}
use mathlib.Core.Path.{◌≡◌, refl, sym, ap, ◌∙◌, subst}
use Prim.Native.Nat.{ℕ, ◌≤◌}
use mathlib.Core.Bool.{Bool, true, false, cond}
use mathlib.Core.List.{List}
use lib.Dec.{leb}
use borrow.Author.Tests.{leb-true}
use Rattle.model.specs.Books.{sound_books}
use Rattle.model.specs.Sound.{sound_lines, sound_table}
use Rattle.model.specs.Given.{Result, refuse}
use Rattle.model.specs.Step.{unsound, line, given, when_read, rule}
use Rattle.model.specs.Step as model
use Rattle.model.proofs.Lists.{clash, and_l, and_r}
use Rattle.model.specs.Record.{Reading, malformed}
use Rattle.std.specs.Prelude.{Ok}
use Rattle.model.specs.declared.Outcome.{Outcome}
use Rattle.model.specs.declared.Outcome.TheVariants as outcome
use Rattle.packing.specs.Layout.{read_event}
use Rattle.record.proofs.Theorems.{read_is_formed}
use Rattle.model.specs.declared.Marks.{Marks}
use Rattle.books.specs.Packed.{decode_books}
use Rattle.books.proofs.Given.{sound_books_lem}
use Rattle.rows.specs.Table.{decode}
use Rattle.scan.specs.Sound.{rows_in, SoundTable}
use Rattle.lines.specs.Lines.{line_by}
use Rattle.lines.proofs.Meaning.{table_lines}
use Rattle.checks.proofs.Lending.{Lent, lent_says}
use Rattle.std.specs.Prelude.{Option, None, Some}
use Rattle.tray.specs.Tray.{places_in, put_all}
use Rattle.engine.specs.Event.{Did, Ready, given_to}
use Rattle.outcomes.specs.declared.Answer.{Answer}
use Rattle.checks.specs.Checks.{fitting, soundness_lent}
use Rattle.engine.specs.Step.{setting_of, result_in}
use Rattle.model.specs.declared.Event.{Event}

pub did_refuse : (x : Result) (o : Outcome) (k : ℕ) (t y : List ℕ) → x ≡ refuse o → (k ≡ 1) × (o ≡ outcome.Unsound)
    → Did x t y t y (record { outcome = k; count = 0 })
unfolding put_all
did_refuse x o k t y e q =
    subst (λ (b : Result). Did b t y t y (record { outcome = k; count = 0 })) (sym (e ∙ ap refuse q.1))
    (record { outcome = q.0; count = refl; table = refl; tray = refl })

module _ (l : Option Marks) (b : List ℕ) (most : ℕ) (xs t y : List ℕ) where
  abbrev X : Result
  X = result_in l b most xs t y

  -- table, provider list or books are unsound
  pub no_table : soundness_lent l b t ≡ None → X ≡ refuse outcome.Unsound
  unfolding result_in
  no_table h = rw h

  module _ (n : ℕ) (st : SoundTable t n) (h : soundness_lent l b t ≡ Some n) where
    lent : Lent l b t n
    lent = lent_says l b t n h

    tables : sound_table (line (setting_of (marks_in l) b most t y)) (rows_in t) (decode t) ≡ true
    tables = table_lines (line_by b) (rows_in t) (decode t) st.sound lent.lines

    books : sound_books (decode_books (marks_in l) b) ≡ true
    books = sound_books_lem (marks_in l) b lent.books

    pub unfit_refused : fitting most (places_in y) ≡ false → X ≡ refuse outcome.Unsound
    unfolding result_in model.step unsound
    unfit_refused q = go (leb most 7) refl (leb 64 (places_in y)) refl
      where
        go : (r : Bool) → leb most 7 ≡ r → (w : Bool) → leb 64 (places_in y) ≡ w → X ≡ refuse outcome.Unsound
        go false d w f = rw (h, tables, books, d)
        go true d false f = rw (h, tables, books, d, f)
        go true d true f = clash (sym (rw (d, f) at q))

    module _ (q : fitting most (places_in y) ≡ true) where
      few : leb most 7 ≡ true
      few = and_l (leb most 7) (leb 64 (places_in y)) q

      room : leb 64 (places_in y) ≡ true
      room = and_r (leb most 7) (leb 64 (places_in y)) q

      pub fit_ready : (e : Event) → read_event xs ≡ Ok e → Ready (marks_in l) b e (places_in y) × (most ≤ 7)
      fit_ready e r =
          (record { sound = lent.books; formed = read_is_formed xs e r; places = leb-true 64 (places_in y) room }, leb-true most 7 few)

      pub fit_all : (e : Event) → read_event xs ≡ Ok e
          → Ready (marks_in l) b e (places_in y) × (most ≤ 7) × (sound_lines (line_by b) (decode t) ≡ true)
      fit_all e r = let f = fit_ready e r in (f.0, f.1, lent.lines)

      fits : X ≡ when_read (read_event xs) (λ (e : Event). rule (given (setting_of (marks_in l) b most t y) e (decode t)))
      unfolding result_in model.step unsound
      fits = rw (h, tables, books, few, room)

      pub fit-rule : (e : Event) → read_event xs ≡ Ok e → X ≡ rule (given_to (marks_in l) b most t e)
      fit-rule e r =
          fits ∙ ap (λ (x : Reading). when_read x (λ (g : Event). rule (given (setting_of (marks_in l) b most t y) g (decode t)))) r
          ∙ ap (λ (c : Bool). cond c (rule (given (setting_of (marks_in l) b most t y) e (decode t))) (refuse outcome.Malformed))
          (read_is_formed xs e r)

      pub fit_malformed : read_event xs ≡ malformed → X ≡ refuse outcome.Malformed
      fit_malformed r =
          fits ∙ ap (λ (x : Reading). when_read x (λ (g : Event). rule (given (setting_of (marks_in l) b most t y) g (decode t)))) r

pub did_is : (x x' : Result) (t y u z : List ℕ) (a : Answer) → x ≡ x' → Did x' t y u z a → Did x t y u z a
did_is x x' t y u z a e h = subst (λ (b : Result). Did b t y u z a) (sym e) h

pub did_malformed : (x : Result) (t y : List ℕ) → x ≡ refuse outcome.Malformed → Did x t y t y (record { outcome = 2; count = 0 })
unfolding put_all
did_malformed x t y e = did_is x (refuse outcome.Malformed) t y t y _ e (record { outcome = refl; count = refl; table = refl; tray = refl })
