-- `lines::held_of` meets its contract. Assumes nothing.
use Prim.Native.Nat.{◌/◌, ◌%◌}
use lib.Dec.{eqb}
use Rattle.lines.specs.Pairs.{held_in}
use Rattle.lines.proofs.held_of.Goals as goal

pub returns : goal.returns
unfolding held_in
returns c =
    let w = c.args.w in
    λ i. record { live = eqb (w / 512 % 2) 1; sends = eqb (w / 1024 % 16) 3; worked = c.is_worked.ensures i }
