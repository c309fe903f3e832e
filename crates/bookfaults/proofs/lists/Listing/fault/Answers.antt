-- `lists::Listing::fault` meets its contract. Assumes nothing.
use Rattle.std.proofs.Common.{rules}
use Rattle.bookfaults.specs.Clauses.{place_in, place_found, list_fault}
use Rattle.bookfaults.proofs.lists.Listing.fault.Goals as goal

pub returns : goal.returns
unfolding list_fault
returns c =
    let a = c.args in
    rw c.places.ensures at (c.first.ensures (place_found a.self a.marks (place_in a.self a.books.now)) (λ i r k e. search rules))
