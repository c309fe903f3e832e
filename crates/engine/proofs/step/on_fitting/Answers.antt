-- `step::on_fitting` meets its contract. Assumes nothing.
use Rattle.std.specs.Prelude.{Some}
use mathlib.Core.Path.{sym, ◌∙◌}
use Rattle.engine.proofs.Stepping.{fit_all, fit-rule, fit_malformed, did_is, did_malformed}
use Rattle.engine.proofs.step.on_fitting.Goals as goal

pub on_event-requires : goal.on_event-requires
on_event-requires c =
    record {
      sound_table = c.requires.sound_table;
      ready = fit_all (Some c.args.marks) c.args.books.now c.args.most c.args.event.now c.args.table.now
          c.args.tray.now _ c.requires.sound_table c.requires.table_value.0 c.requires.table_value.1 _
          (sym c.read-said.ensures ∙ c.in-Ok.is);
    }

pub returns-in-Ok : goal.returns-in-Ok
returns-in-Ok c =
    did_is _ _ _ _ _ _ _ (fit-rule (Some c.args.marks) c.args.books.now c.args.most c.args.event.now c.args.table.now
    c.args.tray.now _ c.requires.sound_table c.requires.table_value.0 c.requires.table_value.1 _
    (sym c.read-said.ensures ∙
    c.in-Ok.is))
    c.on_event.ensures

pub returns-in-Err : goal.returns-in-Err
returns-in-Err c =
    did_malformed _ _ _ (fit_malformed (Some c.args.marks) c.args.books.now c.args.most c.args.event.now c.args.table.now
    c.args.tray.now _ c.requires.sound_table c.requires.table_value.0 c.requires.table_value.1
    (sym c.read-said.ensures ∙ c.in-Err.is))
