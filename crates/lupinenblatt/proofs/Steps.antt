-- What the step's calls answer before the engine is asked.
-- Assumes nothing.
use mathlib.Core.Path.{◌≡◌, refl}
use Prim.Native.Nat.{ℕ}
use mathlib.Core.Bool.{Bool, true, false}
use mathlib.Core.List.{List, map}
use lib.Dec.{leb}
use Rattle.model.specs.Books.{sound_books}
use Rattle.model.specs.Sound.{sound_table}
use Rattle.model.specs.Given.{refuse}
use Rattle.model.specs.Step.{unsound, line}
use Rattle.model.specs.Step as model
use Rattle.model.specs.declared.Outcome.TheVariants as outcome
use Rattle.providers.specs.Providers.{listed, entry_of, marks_in}
use Rattle.model.specs.declared.Marks.{Marks}
use Rattle.std.specs.Prelude.{Option}
use Rattle.books.specs.Packed.{decode_books}
use Rattle.rows.specs.Table.{decode}
use Rattle.scan.specs.Sound.{rows_in}
use Rattle.engine.specs.Step.{setting_of, formed, result_in, result_of}
use Rattle.batch.specs.Batch.{refusal}

-- R above 7 is refused, whatever else was lent.
pub wide_retries : (p b : List ℕ) (most : ℕ) (e t y : List ℕ) → leb most 7 ≡ false → result_of p b most e t y ≡ refuse outcome.Unsound
unfolding result_in model.step unsound
wide_retries p b most e t y h =
    go (formed (listed (map entry_of p)) b t) refl
    (sound_table (line (setting_of (marks_in (listed (map entry_of p))) b most t y)) (rows_in t) (decode t)) refl
    (sound_books (decode_books (marks_in (listed (map entry_of p))) b)) refl
  where
    go : (f : Bool) → formed (listed (map entry_of p)) b t ≡ f
        → (x : Bool) → sound_table (line (setting_of (marks_in (listed (map entry_of p))) b most t y)) (rows_in t) (decode t) ≡ x
        → (k : Bool) → sound_books (decode_books (marks_in (listed (map entry_of p))) b) ≡ k
        → result_of p b most e t y ≡ refuse outcome.Unsound
    go false q x r k s = rw q
    go true q false r k s = rw (q, r)
    go true q true r false s = rw (q, r, s)
    go true q true r true s = rw (q, r, s, h)

-- A run too.
pub wide_run : (l : Option Marks) (b : List ℕ) (most : ℕ) (es t y o : List ℕ) → leb most 7 ≡ false → refusal l b most es t y o ≡ 1
unfolding refusal
wide_run l b most es t y o h = go (formed l b t) refl
  where
    go : (f : Bool) → formed l b t ≡ f → refusal l b most es t y o ≡ 1
    go true q = rw (q, h)
    go false q = rw q
