-- `fields::Numbers::fits_bits` meets its contract. Assumes nothing.
use Rattle.model.specs.Record.{fits_bits}
use mathlib.Core.Path.{refl}
use Rattle.fields.proofs.Numbers.fits_bits.Goals as goal

pub returns : goal.returns
unfolding fits_bits
returns c = refl
