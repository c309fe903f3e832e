-- `blanks::four_free` meets its contract.
-- Assumes nothing.
use Rattle.places.proofs.FreePlaces.{four}
use Rattle.places.proofs.blanks.four_free.Goals as goal

pub returns : goal.returns
returns c =
    let a = c.args in
    rw (c.u64_at.ensures, c.u64_at-2.ensures, c.u64_at-3.ensures, c.u64_at-4.ensures)
    (four a.books.now a.at a.i)
