-- `classes::store` meets its contract: the places before i hold the numbers of providers 1 to i.
-- Assumes nothing.
use mathlib.Core.Path.{ap, ◌∙◌}
use native.Mathlib.Omega.{arith}
use Rattle.model.specs.Selection.{class_number}
use Rattle.classes.proofs.Writing.{none_yet, one_more}
use Rattle.classes.proofs.store.Goals as goal

pub loop-i-init : goal.loop-i-init
loop-i-init c = none_yet _ c.args.out.now

pub loop-i-preserved : goal.loop-i-preserved
loop-i-preserved c =
    let l = c.loop-i in
    one_more _ l.out l.i _ (omega arith) l.invariant (c.number.ensures ∙ ap class_number c.class_of.ensures)
