-- `cast::all_wait` meets its contract. Assumes nothing.
use mathlib.Core.Path.{sym, ◌∙◌}
use Rattle.sets.proofs.Waiting.{three-words}
use Rattle.sets.proofs.all_wait.Goals as goal

pub returns-then-not-digits_wait : goal.returns-then-not-digits_wait
returns-then-not-digits_wait c =
    sym (three-words c.args.c
    ∙ rw (sym c.digits_wait.ensures ∙ c.if-not-digits_wait.true))

pub returns-then-not-digits_wait-2 : goal.returns-then-not-digits_wait-2
returns-then-not-digits_wait-2 c =
    sym (three-words c.args.c
    ∙ rw (
      (sym c.digits_wait.ensures
          ∙ c.if-not-digits_wait.false),
      (sym c.digits_wait-2.ensures ∙ c.if-not-digits_wait-2.true),
    ))

pub returns : goal.returns
returns c =
    c.digits_wait-3.ensures
    ∙ sym (three-words c.args.c
    ∙ rw (
      (sym c.digits_wait.ensures
          ∙ c.if-not-digits_wait.false),
      (sym c.digits_wait-2.ensures ∙ c.if-not-digits_wait-2.false),
    ))
