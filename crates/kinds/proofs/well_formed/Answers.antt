-- `kinds::well_formed` meets its contract. Assumes nothing.
use Rattle.model.specs.Record.{well_formed}
use Rattle.kinds.proofs.well_formed.Goals as goal

pub returns : goal.returns
unfolding well_formed
returns c =
    rw (
      c.fits_bits.ensures,
      c.is_tn.ensures,
      c.type_fits.ensures,
      c.kind_fits.ensures,
    )
