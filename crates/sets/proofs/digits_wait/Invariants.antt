-- `cast::digits_wait` meets its contract. Assumes nothing.
use Rattle.sets.proofs.Waiting.{Left}
use Rattle.sets.proofs.digits_wait.Given as goal

abbrev pub invariant-loop-w : goal.invariant-loop-w
invariant-loop-w l = Left l.word l.set l.w l.s

abbrev pub decreases-loop-w : goal.decreases-loop-w
decreases-loop-w l = l.w
