-- What the calls say is where the engine's own checks say unsound, and nowhere else. Assumes nothing.
use Prim.Native.Nat.{ℕ}
use mathlib.Core.Path.{◌≡◌, refl, sym, ap, ◌∙◌}
use mathlib.Core.Bool.{Bool, true, false, cond, ◌&&◌, false≢true}
use mathlib.Core.List.{List, map}
use native.Mathlib.Omega.{arith}
use borrow.Author.Tests.{eq-eqb, ne_eqb}
use lib.Dec.{eqb}
use Rattle.octets.specs.Octets.{Bytes}
use Rattle.model.specs.Sound.{sound_lines}
use Rattle.model.proofs.Lists.{and_r}
use Rattle.std.specs.Option.{is_none}
use Rattle.faults.specs.declared.Fault.{Fault}
use Rattle.faults.specs.Faults.{broken, or_else, is_faultless}
use Rattle.faults.proofs.Laws.{numbered_fault, told_faultless, or_numbered, whole_numbered}
use Rattle.providers.specs.Providers.{listed, entry_of, marks_in}
use Rattle.model.specs.declared.Marks.{Marks}
use Rattle.books.specs.Packed.{sound_bytes}
use Rattle.std.specs.Prelude.{Option, None, Some, is_some}
use Rattle.rows.specs.Table.{decode}
use Rattle.scan.specs.Sound.{soundness_of, SoundTable}
use Rattle.scan.proofs.Meant.{sound_says}
use Rattle.lines.specs.Lines.{line_by}
use Rattle.checks.specs.Checks.{books_fit, soundness_lent, checked_table, checked_books}
use Rattle.checks.proofs.Lending.{lent_unscanned, lent_sound_lem, lent_unlined, lent_unkept}
use Rattle.tablefaults.specs.Clauses.{table_fault}
use Rattle.tablefaults.proofs.Verdict.{is_sound, table_verdict, table_numbered}
use Rattle.bookfaults.specs.Clauses.{books_fault}
use Rattle.bookfaults.proofs.Verdict.{books_verdict, books_numbered}
use Rattle.linefaults.specs.Clauses.{line_fault}
use Rattle.linefaults.proofs.Verdict.{lines_verdict, line_numbered}
use Rattle.unsound.specs.Unsound.{fault_beyond, fault_of_books, fault_in}

-- BOOKS: clause 0 exactly where the check of provider list and books answers 0
pub books_faultless : (p b : List ℕ) → is_faultless (fault_of_books p b) ≡ eqb (checked_books p b) 0
unfolding checked_books
books_faultless p b =
    told_faultless (books_fault p b) (books_numbered p b)
    ∙ (books_verdict p b ∙ go (is_some (listed (map entry_of p)) && sound_bytes (marks_in (listed (map entry_of p))) b))
  where
    go : (x : Bool) → x ≡ eqb (cond x 0 1) 0
    go true = refl
    go false = refl

-- one of two faults is the first, where there is one, and else the next
first_told : (f g : Option Fault) → is_none f ≡ false → f ≡ or_else f g
first_told None g e = absurd (false≢true (sym e))
first_told (Some x) g e = refl

next_told : (f g : Option Fault) → is_none f ≡ true → g ≡ or_else f g
next_told None g e = refl
next_told (Some x) g e = absurd (false≢true e)

none_told : (f : Option Fault) → is_none f ≡ true → None ≡ f
none_told None e = refl
none_told (Some x) e = absurd (false≢true e)

module _ (t p b : List ℕ) where
  abbrev either : Option Fault
  either = or_else (table_fault t) (fault_beyond t p b)

  -- a table at fault tells its own
  pub own_fault : is_sound (soundness_of t) ≡ false → table_fault t ≡ either
  own_fault e = first_told (table_fault t) (fault_beyond t p b) (table_verdict t ∙ e)

  -- and sound rows leave it to provider list, books and lines
  pub sound_fault : is_sound (soundness_of t) ≡ true → fault_beyond t p b ≡ either
  sound_fault e = next_told (table_fault t) (fault_beyond t p b) (table_verdict t ∙ e)

  beyond_numbered : numbered_fault (fault_beyond t p b) ≡ true
  beyond_numbered = whole_numbered (eqb (checked_books p b) 0) _ _ (line_numbered (line_by b) (decode t)) refl

  -- ---- sound rows

  module _ (n : ℕ) (s : SoundTable t n) where
    -- provider list or books are unsound
    pub books_fault_lem : (checked_books p b ≡ 0 → ⊥) → Some (broken 32) ≡ fault_beyond t p b
    books_fault_lem h = rw (ne_eqb (checked_books p b) 0 h)

    lines_are : is_none (line_fault (line_by b) (decode t)) ≡ sound_lines (line_by b) (decode t)
    lines_are = lines_verdict (line_by b) (decode t)

    module _ (h : checked_books p b ≡ 0) where
      pub line_fault_lem : line_fault (line_by b) (decode t) ≡ fault_beyond t p b
      line_fault_lem = rw (eq-eqb (checked_books p b) 0 h)

      pub no_fault : sound_lines (line_by b) (decode t) ≡ true → None ≡ fault_beyond t p b
      no_fault k = none_told (line_fault (line_by b) (decode t)) (lines_are ∙ k) ∙ line_fault_lem

      -- what the check of the books gives the lines' calls
      pub books_kept : sound_bytes (marks_in (listed (map entry_of p))) b ≡ true
      unfolding checked_books
      books_kept = and_r (is_some (listed (map entry_of p))) _ (go (books_fit (listed (map entry_of p)) b) refl h)
        where
          go : (x : Bool) → books_fit (listed (map entry_of p)) b ≡ x → ◌≡◌ {A = ℕ} (cond x 0 1) 0
              → books_fit (listed (map entry_of p)) b ≡ true
          go true q z = q
          go false q z = absurd (omega (arith, z))

  fits : (x : Bool) → books_fit (listed (map entry_of p)) b ≡ x → checked_books p b ≡ cond x 0 1
  unfolding checked_books
  fits x q = rw q

  -- TABLES: clause 0 exactly where the check of the table with what it is lent with answers 0
  pub table_faultless : Bytes t → is_faultless (fault_in t p b)
      ≡ eqb (checked_table (soundness_lent (listed (map entry_of p)) b t)).outcome 0
  unfolding fault_in
  table_faultless y =
      told_faultless either (or_numbered (table_fault t) (fault_beyond t p b) (table_numbered t) beyond_numbered) ∙ at (soundness_of t) refl
    where
      L : Option Marks
      L = listed (map entry_of p)

      -- the rows are sound
      by : (n : ℕ) → soundness_of t ≡ Some n → SoundTable t n → (x : Bool) → books_fit L b ≡ x → (k : Bool)
          → sound_lines (line_by b) (decode t) ≡ k → is_none (fault_beyond t p b)
          ≡ eqb (checked_table (soundness_lent L b t)).outcome 0
      by n e s true q true k =
          ap is_none (sym (no_fault n s (fits true q) k))
          ∙ ap (λ (x : Option ℕ). eqb (checked_table x).outcome 0) (lent_sound_lem L b t n e q k)
      by n e s true q false k =
          ap is_none (sym (line_fault_lem n s (fits true q))) ∙ (lines_are n s ∙ k)
          ∙ ap (λ (x : Option ℕ). eqb (checked_table x).outcome 0) (lent_unlined L b t n e q k)
      by n e s false q k l =
          ap is_none (sym (books_fault_lem n s (λ z. absurd (omega (arith, fits false q, z)))))
          ∙ ap (λ (x : Option ℕ). eqb (checked_table x).outcome 0) (lent_unkept L b t n e q)

      at : (s : Option ℕ) → soundness_of t ≡ s → is_none either ≡ eqb (checked_table (soundness_lent L b t)).outcome 0
      at None e =
          ap is_none (sym (own_fault (ap is_sound e))) ∙ (table_verdict t ∙ ap is_sound e)
          ∙ ap (λ (x : Option ℕ). eqb (checked_table x).outcome 0) (lent_unscanned L b t e)
      at (Some n) e =
          ap is_none (sym (sound_fault (ap is_sound e)))
          ∙ by n e (sound_says t n y e) (books_fit L b) refl (sound_lines (line_by b) (decode t)) refl
