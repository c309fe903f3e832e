-- `cast::sets_fit` meets its contract. Assumes nothing.
use Rattle.sets.specs.Order.{sets_fit}
use Rattle.sets.proofs.sets_fit.Goals as goal

pub returns : goal.returns
unfolding sets_fit
returns c =
    rw (
      c.is_set.ensures,
      c.is_set-2.ensures,
      c.is_set-3.ensures,
      c.sets_apart.ensures,
    )
