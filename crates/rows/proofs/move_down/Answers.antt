-- `rows::move_down` meets its contract. Assumes nothing.
use mathlib.Core.Path.{◌∙◌}
use Rattle.words.specs.Size.{ROW}
use Rattle.rows.specs.Place.{moved_down}
use Rattle.rows.proofs.Moves.{shift_down}
use Rattle.rows.proofs.move_down.Goals as goal

pub returns : goal.returns
unfolding moved_down
returns c =
    let a = c.args in
    c.copy_within.ensures.after ∙ shift_down ROW a.t.now a.a a.e c.requires.0
