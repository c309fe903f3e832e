-- The test of `above::sharer` meets its contract. Assumes nothing.
use Rattle.row.specs.Layout.{unpack}
use Rattle.tablefaults.proofs.above.fn.sharer.nearest.Goals as goal

pub returns : goal.returns
unfolding unpack
returns g c = (c.has.result, rw c.load-u.ensures at c.has.ensures, rw c.load-u.ensures)
