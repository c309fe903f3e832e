-- `join::had_of` meets its contract. Assumes nothing.
use borrow.Author.Tests.{eq-eqb, ne_eqb}
use native.Mathlib.Omega.{arith}
use Rattle.scan.proofs.join.had_of.Goals as goal

pub returns-then-tn-s : goal.returns-then-tn-s
returns-then-tn-s c = (rw (eq-eqb _ _ c.if-tn-s.true), c.requires)

pub returns-else-tn-s : goal.returns-else-tn-s
returns-else-tn-s c = (rw (ne_eqb _ _ c.if-tn-s.false), omega arith)
