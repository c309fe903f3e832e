-- `sound_version` meets its contract. Assumes nothing.
use mathlib.Core.Path.{sym, ◌∙◌}
use Rattle.sound.proofs.Clauses.{sound_order}
use Rattle.sound.proofs.sound_version.Goals as goal

pub returns-then-not-shape_fits : goal.returns-then-not-shape_fits
returns-then-not-shape_fits c =
    sym (sound_order c.args.v
    ∙ rw (sym c.shape_fits.ensures ∙ c.if-not-shape_fits.true))

pub returns : goal.returns
returns c =
    c.cast_fits.ensures
    ∙ sym (sound_order c.args.v
    ∙ rw (sym c.shape_fits.ensures ∙ c.if-not-shape_fits.false))
