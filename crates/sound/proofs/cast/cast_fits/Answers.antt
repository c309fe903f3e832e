-- `cast::cast_fits` meets its contract. Assumes nothing.
use mathlib.Core.Path.{sym, ◌∙◌}
use Rattle.sound.specs.Order.{cast_fits}
use Rattle.sound.proofs.cast.cast_fits.Goals as goal

pub returns-then-not-times_fit : goal.returns-then-not-times_fit
unfolding cast_fits
returns-then-not-times_fit c = rw (sym c.times_fit.ensures ∙ c.if-not-times_fit.true)

pub returns-then-not-sets_fit : goal.returns-then-not-sets_fit
unfolding cast_fits
returns-then-not-sets_fit c =
    rw (
      sym c.times_fit.ensures ∙ c.if-not-times_fit.false,
      sym c.sets_fit.ensures ∙ c.if-not-sets_fit.true,
    )

pub returns-then-not-live_confirmed : goal.returns-then-not-live_confirmed
unfolding cast_fits
returns-then-not-live_confirmed c =
    rw (
      sym c.times_fit.ensures
          ∙ c.if-not-times_fit.false,
      sym c.sets_fit.ensures
          ∙ c.if-not-sets_fit.false,
      sym c.live_confirmed.ensures
          ∙ c.if-not-live_confirmed.true,
    )

pub returns : goal.returns
unfolding cast_fits
returns c =
    rw (
      sym c.times_fit.ensures
          ∙ c.if-not-times_fit.false,
      sym c.sets_fit.ensures
          ∙ c.if-not-sets_fit.false,
      sym c.live_confirmed.ensures ∙ c.if-not-live_confirmed.false,
    )
    c.retries_sound.ensures
