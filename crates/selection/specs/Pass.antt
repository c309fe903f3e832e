-- One pass over providers and filters: what it seeks, and what it answers.
-- Assumes nothing.
use Rattle.std.specs.Prelude.{ℕ, ◌+◌, ◌≤◌, ◌≡◌, Bool, cond, not, ◌&&◌, ◌||◌, eqb, ltb, length}
use Rattle.model.specs.Numbers.{last_provider}
use Rattle.systems.specs.Set.{mask_of}
use Rattle.model.specs.Books.{Books, partner_of, most_filters}
use Rattle.model.specs.Selection.{selects}
use Rattle.selection.specs.declared.Pass.{Pass}

-- Of a code and its partner the smaller and the larger; where there is no partner (0), both are the code.
abbrev pub smaller_of : ℕ → ℕ → ℕ
smaller_of code partner = cond (eqb partner 0 || ltb code partner) code partner

abbrev pub larger_of : ℕ → ℕ → ℕ
larger_of code partner = cond (ltb code partner) partner code

-- Whether a place comes before the wanted one: used, and smaller.
abbrev pub comes_before : ℕ → ℕ → Bool
comes_before place wanted = not (eqb place 0) && ltb place wanted

-- The set of the selected, whether the code stands in a pair, and the looks at the filter list: at most one for each filter, and one more
-- for each provider, at the place where it stops. [A2.1]
pub record Passed (bk : Books) (code : ℕ) (r : Pass) : Type 0 where
  pub selected : r.selected ≡ mask_of (selects bk code) last_provider
  pub paired : r.paired ≡ not (eqb (partner_of bk code) 0)
  pub once : r.looks ≤ length bk.filters + last_provider

-- so many at the most, with every place used
abbrev pub most_looks : ℕ
most_looks = most_filters + last_provider
