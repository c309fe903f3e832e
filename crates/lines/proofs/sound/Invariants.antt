-- `lines::sound` meets its contract. The loop's invariant: the pairs that are left decide. Assumes nothing.
use Rattle.rows.specs.Table.{decode}
use Rattle.books.specs.Packed.{split_place, split_places, splits_of}
use Rattle.lines.proofs.Turns.{Left}
use Rattle.lines.proofs.sound.Given as goal

abbrev pub invariant-loop-i : goal.invariant-loop-i
invariant-loop-i l = Left (split_place l.books) split_places l.i (splits_of l.books) (decode l.t)
