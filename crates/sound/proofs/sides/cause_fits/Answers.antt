-- `sides::cause_fits` meets its contract. Assumes nothing.
use lib.Dec.{eqb}
use Rattle.model.specs.Sound.{cause_fits}
use Rattle.sound.proofs.Created.{cause_no}
use Rattle.sound.proofs.sides.cause_fits.Goals as goal

pub returns : goal.returns
unfolding cause_fits
returns c =
    let s = c.args.s in
    cause_no (eqb s.authorization 2) s.cause
