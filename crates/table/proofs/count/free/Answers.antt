-- `count::free` meets its contract. Assumes nothing.
use mathlib.Core.Path.{ap, ◌∙◌}
use Rattle.words.specs.Codec.{is_blank}
use Rattle.table.proofs.count.free.Goals as goal

pub returns : goal.returns
returns c = c.blank.ensures ∙ ap is_blank c.words-w.ensures
