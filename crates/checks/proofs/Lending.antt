-- What it means that a table is sound with what it is lent with. [O2]
-- Assumes nothing.
use Rattle.providers.specs.Providers.{marks_in}
use Prim.Native.Nat.{ℕ}
use mathlib.Core.Path.{◌≡◌, refl, sym, ap, ◌∙◌}
use mathlib.Core.Bool.{Bool, true, false, cond}
use mathlib.Core.List.{List}
use Rattle.octets.specs.Octets.{Bytes}
use Rattle.model.specs.Sound.{sound_lines}
use Rattle.model.proofs.Lists.{and_l, and_r}
use Rattle.model.specs.declared.Marks.{Marks}
use Rattle.books.specs.Packed.{sound_bytes}
use Rattle.rows.specs.Table.{decode}
use Rattle.scan.specs.Sound.{soundness_of, SoundTable}
use Rattle.std.specs.Prelude.{Option, None, Some, is_some}
use Rattle.scan.proofs.Meant.{sound_says}
use Rattle.soundbooks.specs.Sound.{kept_by}
use Rattle.soundbooks.proofs.Keeping.{kept_is}
use Rattle.lines.specs.Lines.{line_by, soundness_in}
use Rattle.lines.proofs.Meaning.{sound_no, in_scan, scan_in, scan_out, lines_out}
use Rattle.checks.specs.Checks.{books_fit, soundness_lent}

-- each of the three is sound
pub record Lent (l : Option Marks) (b t : List ℕ) (n : ℕ) : Type 0 where
  pub listed : is_some l ≡ true
  pub books : sound_bytes (marks_in l) b ≡ true
  pub table : soundness_in b t ≡ Some n
  pub scanned : soundness_of t ≡ Some n
  pub lines : sound_lines (line_by b) (decode t) ≡ true

module _ (l : Option Marks) (b t : List ℕ) where
  pub lent_says : (n : ℕ) → soundness_lent l b t ≡ Some n → Lent l b t n
  unfolding soundness_lent
  lent_says n h = go (books_fit l b) refl h
    where
      go : (k : Bool) → books_fit l b ≡ k → cond k (soundness_in b t) None ≡ Some n → Lent l b t n
      go false q e = sound_no n e
      go true q e = record {
        listed = and_l (is_some l) (sound_bytes (marks_in l) b) q;
        books = and_r (is_some l) (sound_bytes (marks_in l) b) q;
        table = e;
        scanned = (in_scan b t n e).0;
        lines = (in_scan b t n e).1;
      }

  pub lent_table : (n : ℕ) → Bytes t → soundness_lent l b t ≡ Some n → SoundTable t n
  lent_table n y h = sound_says t n y (lent_says n h).scanned

  pub says_lent : is_some l ≡ true → sound_bytes (marks_in l) b ≡ true → soundness_lent l b t ≡ soundness_in b t
  unfolding soundness_lent
  says_lent p q = rw (p, q)

  -- the provider list is unsound
  pub lent_unlisted : l ≡ None → soundness_lent l b t ≡ None
  unfolding soundness_lent
  lent_unlisted h = ap (λ (x : Option Marks). cond (books_fit x b) (soundness_in b t) None) h

  -- the scan says unsound
  pub lent_unscanned : soundness_of t ≡ None → None ≡ soundness_lent l b t
  unfolding soundness_lent
  lent_unscanned h = go (books_fit l b)
    where
      go : (k : Bool) → None ≡ cond k (soundness_in b t) None
      go true = sym (scan_out b t h)
      go false = refl

  -- the scan says sound
  module _ (n : ℕ) (h : soundness_of t ≡ Some n) where
    pub lent_sound_lem : books_fit l b ≡ true → sound_lines (line_by b) (decode t) ≡ true → Some n ≡ soundness_lent l b t
    unfolding soundness_lent
    lent_sound_lem q k = rw q (sym (scan_in b t n h k))

    pub lent_unlined : books_fit l b ≡ true → sound_lines (line_by b) (decode t) ≡ false → None ≡ soundness_lent l b t
    unfolding soundness_lent
    lent_unlined q k = rw q (sym (lines_out b t n h k))

    pub lent_unkept : books_fit l b ≡ false → None ≡ soundness_lent l b t
    unfolding soundness_lent
    lent_unkept q = rw q

-- what is said of a list that was read, and of the books
pub kept_says : (l m : Option Marks) (b : List ℕ) (k : Option Marks) {x : Bool} → l ≡ m → k ≡ kept_by l b → is_some k ≡ x
    → books_fit m b ≡ x
kept_says l m b k p q e = ap (λ (j : Option Marks). books_fit j b) (sym p) ∙ sym (kept_is l b) ∙ ap is_some (sym q) ∙ e
