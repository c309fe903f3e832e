-- `fields::hand` meets its contract. Assumes nothing.
use mathlib.Core.Path.{sym, ◌∙◌}
use native.Mathlib.Omega.{arith}
use Rattle.packing.specs.Layout.{read_event}
use Rattle.fields.proofs.Answers.{handed_refused, handed_record, handed_err}
use Rattle.fields.proofs.hand.Goals as goal

pub returns-then-fields-ne-FIELDS : goal.returns-then-fields-ne-FIELDS
returns-then-fields-ne-FIELDS c = handed_refused _ _ (λ q. omega arith)

pub returns-in_err-e : goal.returns-in_err-e
returns-in_err-e c = handed_err _ _ _ _ (sym c.read.ensures ∙ c.in_err-e.was) c.from_residual.ensures.0

pub returns : goal.returns
returns c =
    let a = c.args in
    handed_record (read_event a.bytes.now) c.in_ok-e.e a.fields.now c.store.new.fields
    (sym c.in_ok-e.ensures) (omega (arith, c)) c.store.ensures
