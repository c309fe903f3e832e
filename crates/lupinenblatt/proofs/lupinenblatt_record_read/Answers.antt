-- `lupinenblatt_record_read` meets its contract: it is `fields::read`. Assumes nothing.
use borrow.Author.Rules.{rules}
use Rattle.lupinenblatt.proofs.lupinenblatt_record_read.Goals as goal

pub returns : goal.returns
returns c = c.read.ensures
