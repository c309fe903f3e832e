-- `lupinenblatt_record_write` meets its contract: it is `fields::write`. Assumes nothing.
use borrow.Author.Rules.{rules}
use Rattle.lupinenblatt.proofs.lupinenblatt_record_write.Goals as goal

pub returns : goal.returns
returns c = c.write.ensures
