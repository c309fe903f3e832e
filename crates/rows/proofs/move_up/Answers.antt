-- `rows::move_up` meets its contract. Assumes nothing.
use mathlib.Core.Path.{◌∙◌}
use Rattle.words.specs.Size.{ROW}
use Rattle.rows.specs.Place.{moved_up}
use Rattle.rows.proofs.Moves.{shift_up}
use Rattle.rows.proofs.move_up.Goals as goal

pub returns : goal.returns
unfolding moved_up
returns c =
    let a = c.args in
    c.copy_within.ensures.after ∙ shift_up ROW a.t.now a.a a.e c.requires.0
