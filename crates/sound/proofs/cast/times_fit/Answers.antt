-- `cast::times_fit` meets its contract. Assumes nothing.
use Rattle.sound.specs.Order.{times_fit}
use Rattle.sound.proofs.cast.times_fit.Goals as goal

pub returns : goal.returns
unfolding times_fit
returns c = rw (c.is_time.ensures, c.start_fits.ensures, c.waiting_fits.ensures)
