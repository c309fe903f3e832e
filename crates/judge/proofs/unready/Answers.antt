-- `judge::unready` meets its contract. Assumes nothing.
use mathlib.Core.Bool.{or-false}
use borrow.Author.Tests.{eq-eqb, ne_eqb}
use Rattle.model.specs.Standing.{unready}
use Rattle.judge.proofs.unready.Goals as goal

pub returns-then-e-eq-ACTIVATE : goal.returns-then-e-eq-ACTIVATE
unfolding unready
returns-then-e-eq-ACTIVATE c = rw (eq-eqb _ 5 c.if-e-eq-ACTIVATE.true)

pub returns-then-e-eq-WINDOW_RAN_OUT : goal.returns-then-e-eq-WINDOW_RAN_OUT
unfolding unready
returns-then-e-eq-WINDOW_RAN_OUT c = rw (ne_eqb _ 5 c.if-e-eq-ACTIVATE.false, eq-eqb _ 13 c.if-e-eq-WINDOW_RAN_OUT.true)

pub returns-then-e : goal.returns-then-e
unfolding unready
returns-then-e c =
    rw (
      ne_eqb _ 5 c.if-e-eq-ACTIVATE.false,
      ne_eqb _ 13 c.if-e-eq-WINDOW_RAN_OUT.false,
      or-false _,
      c.if-e.true,
    )

pub returns : goal.returns
unfolding unready
returns c =
    rw (
      ne_eqb _ 5 c.if-e-eq-ACTIVATE.false,
      ne_eqb _ 13 c.if-e-eq-WINDOW_RAN_OUT.false,
      or-false _,
      c.if-e.false,
    )
