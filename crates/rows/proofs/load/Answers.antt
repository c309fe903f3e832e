-- `rows::load` meets its contract. Assumes nothing.
use mathlib.Core.Path.{ap, ◌∙◌}
use Rattle.row.specs.Layout.{version_of, unpack}
use Rattle.rows.proofs.load.Goals as goal

pub returns : goal.returns
unfolding unpack
returns c = c.version_of.ensures ∙ ap version_of c.words-w.ensures
