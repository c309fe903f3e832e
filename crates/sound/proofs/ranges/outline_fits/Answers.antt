-- `ranges::outline_fits` meets its contract. Assumes nothing.
use Rattle.sound.specs.Order.{outline_fits}
use Rattle.sound.proofs.ranges.outline_fits.Goals as goal

pub returns : goal.returns
unfolding outline_fits
returns c =
    rw (
      c.ten_digits.ensures,
      c.is_number.ensures,
      c.is_provider.ensures,
      c.is_provider-2.ensures,
    )
