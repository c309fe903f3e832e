-- `selection::class_of` meets its contract: each test is one of `class_in`, in the same order.
-- Assumes nothing.
use mathlib.Core.Path.{sym, ◌∙◌}
use Rattle.selection.proofs.class_of.Goals as goal

pub returns-then-not-has : goal.returns-then-not-has
returns-then-not-has c = rw (sym c.has.ensures ∙ c.if-not-has.true)

pub returns-then-not-has-2 : goal.returns-then-not-has-2
returns-then-not-has-2 c = rw (sym c.has.ensures ∙ c.if-not-has.false, sym c.has-2.ensures ∙ c.if-not-has-2.true)

pub returns-then-has : goal.returns-then-has
returns-then-has c =
    rw (sym c.has.ensures ∙ c.if-not-has.false, sym c.has-2.ensures ∙ c.if-not-has-2.false, sym c.has-3.ensures ∙ c.if-has.true)

pub returns-then-c : goal.returns-then-c
returns-then-c c = rw (
  sym c.has.ensures ∙ c.if-not-has.false,
  sym c.has-2.ensures ∙ c.if-not-has-2.false,
  sym c.has-3.ensures ∙ c.if-has.false,
  c.if-c.true,
)

pub returns : goal.returns
returns c = rw (
  sym c.has.ensures ∙ c.if-not-has.false,
  sym c.has-2.ensures ∙ c.if-not-has-2.false,
  sym c.has-3.ensures ∙ c.if-has.false,
  c.if-c.false,
)
