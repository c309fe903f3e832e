-- `alone::live_fits` meets its contract. Assumes nothing.
use mathlib.Core.Bool.{or-false}
use borrow.Author.Tests.{eq-eqb, ne_eqb}
use Rattle.sound.proofs.Choices.{beq_iff}
use Rattle.tablefaults.proofs.alone.live_fits.Goals as goal

pub returns-then-s-eq-SENDING : goal.returns-then-s-eq-SENDING
returns-then-s-eq-SENDING c = rw (eq-eqb c.args.v.status 3 c.if-s-eq-SENDING.true)

pub returns : goal.returns
returns c = rw (ne_eqb c.args.v.status 3 c.if-s-eq-SENDING.false, beq_iff) (simp or-false)
