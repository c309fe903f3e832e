-- `scan::verdict` meets its contract. Assumes nothing.
use borrow.Author.Tests.{eq-eqb, ne_eqb, le-leb, lt-leb}
use Rattle.scan.specs.Sound.{scan_of, soundness_of}
use Rattle.scan.proofs.verdict.Goals as goal

pub returns-then-t : goal.returns-then-t
unfolding scan_of soundness_of
returns-then-t c = simp (eq-eqb _ _ c.if-t-eq0.true, le-leb _ _ c.if-t.true) c.over.ensures

pub returns-else-t : goal.returns-else-t
unfolding scan_of soundness_of
returns-else-t c = simp (eq-eqb _ _ c.if-t-eq0.true, lt-leb _ _ c.if-t.false)

pub returns-else-t-eq0 : goal.returns-else-t-eq0
unfolding scan_of soundness_of
returns-else-t-eq0 c = simp (ne_eqb _ _ c.if-t-eq0.false)
