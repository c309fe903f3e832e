-- The searches through codes and pairs: what a place decides, and what it leaves to the places behind it.
-- Assumes nothing.
use Rattle.std.specs.Prelude.{ℕ, List, map}
use Rattle.model.specs.Books.{owner_in, partner_in}
use Rattle.books.specs.Packed.{owned_of, split_of}

abbrev pub owner_by : ℕ → List ℕ → ℕ
owner_by c rows = owner_in c (map owned_of rows)

abbrev pub partner_by : ℕ → List ℕ → ℕ
partner_by c rows = partner_in c (map split_of rows)
