-- `sides::new_whole` meets its contract. Assumes nothing.
use Rattle.model.specs.Sound.{new_whole}
use Rattle.sound.proofs.Created.{new_created}
use borrow.Author.Rules.{rules}
use Rattle.sound.proofs.sides.new_whole.Goals as goal

pub returns : goal.returns
unfolding new_whole
returns c =
    let s = c.args.s in
    rw c.ten_digits.ensures (new_created s.created s.due s.lrn.0 (search rules))
