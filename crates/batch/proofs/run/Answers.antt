-- `batch::run` meets its contract. Assumes nothing.
use mathlib.Core.Path.{sym, ap, ◌∙◌}
use borrow.Author.Rules.{rules}
use Rattle.std.specs.Prelude.{Option}
use Rattle.model.specs.declared.Marks.{Marks}
use Rattle.checks.specs.Checks.{soundness_lent}
use Rattle.checks.proofs.Lending.{lent_table, lent_unlisted}
use Rattle.batch.proofs.Refusing.{went_unlent}
use Rattle.batch.proofs.run.Goals as goal
use Rattle.batch.proofs.run.Goals.{in-Some+in_default-lent, in_default}

pub on_table-requires : goal.on_table-requires
on_table-requires c =
    let e = sym c.lent.ensures ∙ c.in-Some-lent.is in
    let z = c.slice_known-1.given in
    record { sound_table = lent_table _ _ _ _ (λ i. let f = z i in search rules) e; table_value = e }

pub returns : goal.returns
returns c =
    let l = c.marks_of_bytes-listed in
    elim c.match-listed.branch [
      | in-Some+in_default-lent w ↦ went_unlent l.result _ c.args.books.now _ _ c.args.table.now _ _ _ l.ensures
          (ap (λ (x : Option Marks). soundness_lent x c.args.books.now c.args.table.now) w.in-Some.is
          ∙ sym w.lent.ensures ∙ w.in_default-lent.is) c.refused.ensures
      | in_default w ↦ went_unlent l.result _ c.args.books.now _ _ c.args.table.now _ _ _ l.ensures
          (lent_unlisted l.result c.args.books.now c.args.table.now w.in_default.is) c.refused.ensures
    ]
