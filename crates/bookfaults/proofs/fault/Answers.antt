-- `fault` meets its contract. Assumes nothing.
use mathlib.Core.Path.{◌≡◌}
use Rattle.std.specs.Option.{UnwrapsOrElse}
use Rattle.std.specs.Prelude.{Option, None, Some}
use Rattle.model.specs.declared.Marks.{Marks}
use Rattle.providers.specs.Providers.{marks_in}
use Rattle.bookfaults.specs.Clauses.{books_fault}
use Rattle.bookfaults.proofs.fault.Goals as goal

-- an unsound list's marks are nobody
none_is_nobody : (l : Option Marks) (m : Marks) → UnwrapsOrElse l (λ (d : Marks). (d.present ≡ 0) × (d.local ≡ 0)) m → m ≡ marks_in l
none_is_nobody None m h = λ i. record { present = h.0 i; local = h.1 i }
none_is_nobody (Some d) m h = h

pub returns : goal.returns
unfolding books_fault
returns c =
    rw (
      c.or.ensures,
      c.bytes.ensures,
      c.fault.ensures,
      none_is_nobody _ _ c.unwrap_or_default-marks.ensures,
      c.marks_of_bytes.ensures,
    )
