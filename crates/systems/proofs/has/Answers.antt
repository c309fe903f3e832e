-- `systems::has` meets its contract. Assumes nothing.
use mathlib.Core.Path.{refl, sym}
use native.Mathlib.Omega.{arith}
use Rattle.systems.specs.Set.{member}
use Rattle.systems.proofs.Laws.{member_high}
use Rattle.systems.proofs.has.Goals as goal

pub returns-then-p-lt64 : goal.returns-then-p-lt64
unfolding member
returns-then-p-lt64 c = refl

pub returns : goal.returns
returns c = sym (member_high 64 c.args.s c.args.p c.ranges.s.fits (omega arith))
