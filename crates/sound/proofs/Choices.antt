-- How tests are put together in code, and in definitions. Assumes nothing.
use mathlib.Core.Path.{◌≡◌, refl}
use mathlib.Core.Bool.{Bool, true, false, not, ◌||◌, beq}
use Rattle.model.specs.Basics.{iff, implies}

pub beq_iff : (a b : Bool) → beq a b ≡ iff a b
beq_iff true true = refl
beq_iff true false = refl
beq_iff false true = refl
beq_iff false false = refl

pub implies_or : (a b : Bool) → implies a b ≡ not a || b
implies_or true b = refl
implies_or false b = refl
