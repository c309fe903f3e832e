-- `soundbooks::sound` meets its contract: the parts in their order, the first that fails decides.
-- Assumes nothing.
use mathlib.Core.Path.{sym, ◌∙◌}
use mathlib.Core.Bool.{true, false}
use Rattle.std.proofs.Common.{rules}
use borrow.Author.Tests.{eq-eqb, ne_eqb}
use Rattle.soundbooks.proofs.Soundness.{sound_parts}
use Rattle.soundbooks.proofs.sound.Goals as goal

pub returns-then-books-ne-BOOK_BYTES : goal.returns-then-books-ne-BOOK_BYTES
returns-then-books-ne-BOOK_BYTES c =
    let a = c.args in
    sym
    (sound_parts a.marks a.books.now
    ∙ rw (ne_eqb _ _ c.if-books-ne-BOOK_BYTES.true))

pub returns-then-not-head_free : goal.returns-then-not-head_free
returns-then-not-head_free c =
    let a = c.args in
    sym
    (sound_parts a.marks a.books.now
    ∙ rw (
      eq-eqb _ _ c.if-books-ne-BOOK_BYTES.false,
      sym c.head_free.ensures ∙ c.if-not-head_free.true,
    ))

pub returns-then-not-sound : goal.returns-then-not-sound
returns-then-not-sound c =
    let a = c.args in
    sym
    (sound_parts a.marks a.books.now
    ∙ rw (
      eq-eqb _ _ c.if-books-ne-BOOK_BYTES.false,
      sym c.head_free.ensures ∙ c.if-not-head_free.false,
      sym c.sound.ensures ∙ c.if-not-sound.true,
    ))

pub returns-then-not-sound_rows : goal.returns-then-not-sound_rows
returns-then-not-sound_rows c =
    let a = c.args in
    sym
    (sound_parts a.marks a.books.now
    ∙ rw (
      eq-eqb _ _ c.if-books-ne-BOOK_BYTES.false,
      sym c.head_free.ensures ∙ c.if-not-head_free.false,
      sym c.sound.ensures ∙ c.if-not-sound.false,
      sym (c.sound_rows.ensures false a.marks (λ l x b e. search rules)) ∙ c.if-not-sound_rows.true,
    ))

pub returns-then-not-sound_rows-2 : goal.returns-then-not-sound_rows-2
returns-then-not-sound_rows-2 c =
    let a = c.args in
    sym
    (sound_parts a.marks a.books.now
    ∙ rw (
      eq-eqb _ _ c.if-books-ne-BOOK_BYTES.false,
      sym c.head_free.ensures
          ∙ c.if-not-head_free.false,
      sym c.sound.ensures ∙ c.if-not-sound.false,
      sym (c.sound_rows.ensures false a.marks (λ l x b e. search rules)) ∙ c.if-not-sound_rows.false,
      sym (c.sound_rows-2.ensures true a.marks (λ l x b e. search rules)) ∙ c.if-not-sound_rows-2.true,
    ))

pub returns : goal.returns
returns c =
    let a = c.args in
    sym
    (sound_parts a.marks a.books.now
    ∙ rw (
      eq-eqb _ _ c.if-books-ne-BOOK_BYTES.false,
      sym c.head_free.ensures
          ∙ c.if-not-head_free.false,
      sym c.sound.ensures
          ∙ c.if-not-sound.false,
      sym (c.sound_rows.ensures false a.marks (λ l x b e. search rules)) ∙ c.if-not-sound_rows.false,
      sym (c.sound_rows-2.ensures true a.marks (λ l x b e. search rules)) ∙ c.if-not-sound_rows-2.false,
    ) (sym c.sound_splits.ensures))
