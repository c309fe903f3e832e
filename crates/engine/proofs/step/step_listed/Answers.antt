-- `step::step_listed` meets its contract. Assumes nothing.
use mathlib.Core.Path.{refl, sym, ap, ◌∙◌}
use Rattle.std.specs.Prelude.{Option}
use Rattle.model.specs.declared.Marks.{Marks}
use Rattle.checks.specs.Checks.{soundness_lent}
use Rattle.checks.proofs.Lending.{lent_table, lent_unlisted}
use Rattle.engine.proofs.Stepping.{no_table, did_refuse}
use borrow.Author.Rules.{rules}
use Rattle.engine.proofs.step.step_listed.Goals as goal

pub on_table-requires-clause-sound_table : goal.on_table-requires-clause-sound_table
on_table-requires-clause-sound_table c =
    let z = c.slice_known-1.given in
    lent_table _ _ _ _ (λ i. let f = z i in search rules) (sym c.lent.ensures ∙ c.in-Some-lent.is)

pub returns-in_default-lent : goal.returns-in_default-lent
returns-in_default-lent c =
    did_refuse _ _ _ _ _ (no_table c.args.listed c.args.books.now c.args.most c.args.event.now c.args.table.now
    c.args.tray.now (ap (λ (l : Option Marks). soundness_lent l c.args.books.now c.args.table.now) c.in-Some.is
    ∙ sym c.lent.ensures ∙ c.in_default-lent.is)) (refl, refl)

pub returns-in_default : goal.returns-in_default
returns-in_default c =
    did_refuse _ _ _ _ _ (no_table c.args.listed c.args.books.now c.args.most c.args.event.now c.args.table.now
    c.args.tray.now (lent_unlisted c.args.listed c.args.books.now c.args.table.now c.in_default.is)) (refl, refl)
