-- The names of a line in the order of the table. [A3.1]
-- Assumes nothing.
use Rattle.std.specs.Prelude.{ℕ, ◌≤◌, ◌<◌, ◌≡◌, ◌||◌, List, eqb}
use Rattle.model.specs.Books.{Split, line_in}
use Rattle.books.specs.declared.Names.{Names}

-- the two TNs, and no others, name the line that tn names
pub record Named (xs : List Split) (tn : ℕ) (r : Names) : Type 0 where
  pub names : (m : ℕ) → (eqb m r.low.0 || eqb m r.high.0) ≡ eqb (line_in xs m) (line_in xs tn)
  pub rises : r.low.0 ≤ r.high.0
  pub small : r.high.0 < 17179869184
