-- `sides::old_whole` meets its contract. Assumes nothing.
use borrow.Author.Rules.{rules}
use Rattle.model.specs.Sound.{old_whole}
use Rattle.sound.proofs.Created.{old_created}
use Rattle.sound.proofs.sides.old_whole.Goals as goal

pub returns : goal.returns
unfolding old_whole
returns c =
    let s = c.args.s in
    old_created s.created s.due s.authorization (search rules)
