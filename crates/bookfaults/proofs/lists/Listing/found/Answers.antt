-- `lists::Listing::found` meets its contract. Assumes nothing.
use mathlib.Core.Path.{sym, ◌∙◌}
use borrow.Author.Tests.{eq-eqb, ne_eqb}
use Rattle.bookfaults.specs.Clauses.{place_in, place_found}
use Rattle.bookfaults.proofs.lists.Listing.found.Goals as goal

pub returns-then-w-eq0 : goal.returns-then-w-eq0
unfolding place_found
returns-then-w-eq0 c =
    let a = c.args in
    rw (eq-eqb (place_in a.self a.books.now a.i) 0 (sym c.place-w.ensures ∙ c.if-w-eq0.true))

pub returns-in-Codes : goal.returns-in-Codes
unfolding place_found
returns-in-Codes c =
    let a = c.args in
    let e = c.in-Codes.is in
    rw (
      c.code.ensures,
      ne_eqb (place_in a.self a.books.now a.i) 0
          (λ z. c.if-w-eq0.false (c.place-w.ensures ∙ z)),
      e,
      rw e at c.place-w.ensures,
      rw e at c.last-last.ensures,
    )

pub returns-in-Filters : goal.returns-in-Filters
unfolding place_found
returns-in-Filters c =
    let a = c.args in
    let e = c.in-Filters.is in
    rw (
      c.filter.ensures,
      ne_eqb (place_in a.self a.books.now a.i) 0
          (λ z. c.if-w-eq0.false (c.place-w.ensures ∙ z)),
      e,
      rw e at c.place-w.ensures,
      rw e at c.last-last.ensures,
    )

pub returns-in-Pairs : goal.returns-in-Pairs
unfolding place_found
returns-in-Pairs c =
    let a = c.args in
    let e = c.in-Pairs.is in
    rw (
      c.pair.ensures,
      ne_eqb (place_in a.self a.books.now a.i) 0
          (λ z. c.if-w-eq0.false (c.place-w.ensures ∙ z)),
      e,
      c.met.ensures,
      rw e at c.place-w.ensures,
      rw e at c.last-last.ensures,
    )
