-- `ranges::retries_in_range` meets its contract. Assumes nothing.
use borrow.Author.Rules.{rules}
use Rattle.model.specs.Sound.{retries_in_range}
use Rattle.sets.proofs.retries_in_range.Goals as goal

pub returns : goal.returns
unfolding retries_in_range
returns c = search rules
