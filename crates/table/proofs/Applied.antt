-- What rows ask of a table, and what they leave, by their shape.
-- Assumes nothing.
use mathlib.Core.Path.{◌≡◌, sym, ap, ◌∙◌, subst}
use Prim.Native.Nat.{ℕ}
use mathlib.Core.List.{List}
use Rattle.model.specs.Table.{change, changes, strike}
use Rattle.rows.specs.Table.{decode, encode}
use Rattle.scan.specs.Sound.{rows_in}
use Rattle.verdict.specs.Verdict.{changes_of}
use Rattle.verdict.specs.declared.Rows.{Rows}
use Rattle.verdict.specs.declared.Rows.TheVariants.{Strike}
use Rattle.table.specs.Survey.{version_at}
use Rattle.table.specs.Change.{Applicable}
use Rattle.model.specs.declared.Id.{Id}
use Rattle.model.specs.declared.Version.{Version}

pub asks : (t : List Version) (n rows : ℕ) (r r' : Rows) → r ≡ r' → Applicable t n rows r → Applicable t n rows r'
asks t n rows r r' e a = subst (Applicable t n rows) e a

pub applied : (t u : List ℕ) (r r' : Rows) → r ≡ r' → u ≡ encode (changes (changes_of r') (decode t)) (rows_in t)
    → u ≡ encode (changes (changes_of r) (decode t)) (rows_in t)
applied t u r r' e p = p ∙ ap (λ (x : Rows). encode (changes (changes_of x) (decode t)) (rows_in t)) (sym e)

pub struck : (t u : List ℕ) (n : ℕ) (r : Rows) (i : ℕ) (k : Id) → r ≡ Strike i k → Applicable (decode t) n (rows_in t) r
    → u ≡ encode (change (strike (version_at (decode t) i).id) (decode t)) (rows_in t)
    → u ≡ encode (changes (changes_of r) (decode t)) (rows_in t)
struck t u n r i k e a p =
    applied t u r (Strike i k) e
    (p ∙ ap (λ (x : Id). encode (change (strike x) (decode t)) (rows_in t)) (asks (decode t) n (rows_in t) r (Strike i k) e a).1)
