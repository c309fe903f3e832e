-- What a change of a table asks of the version and its place. [T2]
-- Assumes nothing.
use Rattle.std.specs.Prelude.{◌≡◌, List, ℕ, ◌<◌}
use Rattle.std.proofs.Math.Option.{none}
use Rattle.model.specs.declared.Version.{Version}
use Rattle.model.specs.Table.{find}
use Rattle.row.specs.Layout.{InBits}
use Rattle.verdict.specs.declared.Rows.{Rows}
use Rattle.verdict.specs.declared.Rows.TheVariants.{Nothing, Put, PutTwo, Add, Strike}
use Rattle.table.specs.Survey.{version_at}

-- v may be put at place i of a table that says t, n versions: the version there has its name
pub record Over (t : List Version) (n i : ℕ) (v : Version) : Type 0 where
  pub place : i < n
  pub name : (version_at t i).id ≡ v.id
  pub small : InBits v

-- v may be added to a table of so many rows that says t, n versions: a row is free, and no version has its name
pub record Fresh (t : List Version) (n rows : ℕ) (v : Version) : Type 0 where
  pub free : n < rows
  pub absent : find v.id t ≡ none
  pub small : InBits v

-- the rows may be changed in a table of so many rows that says t, n versions
abbrev pub Applicable : List Version → ℕ → ℕ → Rows → Type 0
Applicable t n rows Nothing = Unit {0}
Applicable t n rows (Put v i) = Over t n i v
Applicable t n rows (PutTwo v i w j) = Over t n i v × Over t n j w
Applicable t n rows (Add v) = Fresh t n rows v
Applicable t n rows (Strike i k) = (i < n) × ((version_at t i).id ≡ k)
