-- `bytes` meets its contract. Assumes nothing.
use mathlib.Core.Path.{sym, ◌∙◌}
use native.Mathlib.Omega.{arith}
use borrow.Author.Tests.{eq-eqb, ne_eqb}
use lib.ListN.{length}
use Rattle.books.specs.Packed.{book_bytes, head_of}
use Rattle.bookfaults.specs.Clauses.{bytes_fault}
use Rattle.bookfaults.proofs.bytes.Goals as goal

pub returns-then-books-ne-BOOK_BYTES : goal.returns-then-books-ne-BOOK_BYTES
unfolding bytes_fault
returns-then-books-ne-BOOK_BYTES c =
    rw (c.whole.ensures, ne_eqb (length c.args.books.now) book_bytes c.if-books-ne-BOOK_BYTES.true)

pub returns-then-u64_at-ne0 : goal.returns-then-u64_at-ne0
unfolding bytes_fault
returns-then-u64_at-ne0 c =
    let bs = c.args.books.now in
    rw (
      c.whole-then-u64_at-ne0.ensures,
      eq-eqb (length bs) book_bytes (omega (arith, c.if-books-ne-BOOK_BYTES.false)),
      ne_eqb (head_of bs) 0
          (λ z. c.if-u64_at-ne0.true (c.u64_at.ensures ∙ z)),
    )

pub returns : goal.returns
unfolding bytes_fault
returns c =
    let bs = c.args.books.now in
    rw (
      c.or-2.ensures,
      c.or.ensures,
      c.fault-codes.ensures,
      c.fault-filters.ensures,
      c.fault-pairs.ensures,
      eq-eqb (length bs) book_bytes (omega (arith, c.if-books-ne-BOOK_BYTES.false)),
      eq-eqb (head_of bs) 0
          (sym c.u64_at.ensures ∙ omega (arith, c.if-u64_at-ne0.false)),
    )
