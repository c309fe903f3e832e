-- What the list of three says.
-- Assumes nothing.
use mathlib.Core.Path.{◌≡◌, refl}
use Rattle.systems.specs.Set.{mask_of}
use Rattle.std.specs.Prelude.{Some}
use Rattle.providers.specs.Providers.{listed}
use Rattle.sample.specs.Sample.{three}

-- THE LIST IS SOUND, and each of its sets has places 1, 2 and 3
pub three_says : listed three ≡ Some (record { present = 14; local = 14 })
unfolding listed mask_of
three_says = refl
