-- `step::step` meets its contract. Assumes nothing.
use mathlib.Core.Path.{sym, ap}
use Rattle.std.specs.Prelude.{Option}
use Rattle.model.specs.declared.Marks.{Marks}
use Rattle.engine.specs.Step.{result_in}
use Rattle.engine.proofs.Stepping.{did_is}
use Rattle.engine.proofs.step.step.Goals as goal

pub returns : goal.returns
returns c =
    did_is _ _ _ _ _ _ _ (ap (λ (l : Option Marks). result_in l c.args.books.now c.args.most c.args.event.now
    c.args.table.now c.args.tray.now)
    (sym c.marks_of_bytes-listed.ensures))
    c.step_listed.ensures
