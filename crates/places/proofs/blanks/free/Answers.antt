-- `blanks::free` meets its contract.
-- Assumes nothing.
use borrow.Author.Rules.{rules}
use mathlib.Core.Path.{refl, sym, ◌∙◌}
use Rattle.books.specs.Packed.{place_of}
use Rattle.places.proofs.FreePlaces.{eight_more, eight_used}
use Rattle.places.proofs.blanks.free.Goals as goal

pub loop-k-init : goal.loop-k-init
loop-k-init c = (c.requires.1, refl)

pub returns-then-not-eight_free : goal.returns-then-not-eight_free
returns-then-not-eight_free c =
    let l = c.loop-k in
    let a = c.args in
    sym (l.invariant.1 ∙ eight_used (place_of 8 a.at a.books.now) a.n l.k c.loop-k-test.true
    (sym c.eight_free.ensures ∙ c.if-not-eight_free.true))

pub loop-k-preserved : goal.loop-k-preserved
loop-k-preserved c =
    let l = c.loop-k in
    let a = c.args in (
      search rules,
      l.invariant.1 ∙ eight_more (place_of 8 a.at a.books.now) a.n l.k c.loop-k-test.true
          (sym c.eight_free.ensures ∙ c.if-not-eight_free.false),
    )

pub returns : goal.returns
returns c = c.few_free.ensures ∙ sym c.loop-k.invariant.1
