-- `outcomes::note` meets its contract. Assumes nothing.
use native.Mathlib.Omega.{arith}
use lib.ListN.{length-set}
use Rattle.outcomes.proofs.note.Goals as goal

pub bounds-outs-i-2 : goal.bounds-outs-i-2
bounds-outs-i-2 c = simp length-set (omega (arith, c.requires.2))
