-- `lines::pair_fits` meets its contract. The loop's invariant: the rows from i on decide, and `at` is behind none of their places. Assumes
-- nothing.
use Rattle.rows.specs.Table.{decode}
use Rattle.lines.proofs.Abreast.{Abreast}
use Rattle.lines.proofs.pair_fits.Given as goal

abbrev pub invariant-loop-i : goal.invariant-loop-i
invariant-loop-i l = Abreast l.c l.d (decode l.t.bytes.now) l.at l.i
