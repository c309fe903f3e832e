-- `blanks::eight_free` meets its contract.
-- Assumes nothing.
use Rattle.books.specs.Packed.{place_of}
use Rattle.places.proofs.FreePlaces.{eight}
use Rattle.places.proofs.blanks.eight_free.Goals as goal

pub returns : goal.returns
returns c =
    let a = c.args in
    rw (c.four_free.ensures, c.four_free-2.ensures) (eight (place_of 8 a.at a.books.now) a.i)
