-- `cast::used_fit` meets its contract. Assumes nothing.
use mathlib.Core.Path.{sym, ◌∙◌}
use Rattle.sets.specs.Order.{retries_sound}
use Rattle.sets.proofs.used_fit.Goals as goal

pub returns-then-not-retries_in_range : goal.returns-then-not-retries_in_range
unfolding retries_sound
returns-then-not-retries_in_range c =
    rw (sym c.retries_in_range.ensures ∙ c.if-not-retries_in_range.true)

pub returns : goal.returns
unfolding retries_sound
returns c =
    rw (sym c.retries_in_range.ensures
    ∙ c.if-not-retries_in_range.false) c.all_wait.ensures
