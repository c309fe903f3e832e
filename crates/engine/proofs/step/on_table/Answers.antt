-- `step::on_table` meets its contract. Assumes nothing.
use Rattle.std.specs.Prelude.{Some}
use mathlib.Core.Path.{refl, sym, ap, ◌∙◌}
use Prim.Native.Nat.{ℕ}
use Rattle.checks.specs.Checks.{fitting}
use Rattle.engine.proofs.Stepping.{unfit_refused, did_refuse}
use Rattle.engine.proofs.step.on_table.Goals as goal

pub returns-then-not-fits : goal.returns-then-not-fits
returns-then-not-fits c =
    did_refuse _ _ _ _ _ (unfit_refused (Some c.args.marks) c.args.books.now c.args.most c.args.event.now c.args.table.now
    c.args.tray.now _ c.requires.sound_table c.requires.table_value (ap (λ (k : ℕ). fitting c.args.most k)
    (sym c.places-places.ensures) ∙ sym c.fit-fits.ensures ∙ c.if-not-fits.true)) (refl, refl)

pub on_fitting-requires : goal.on_fitting-requires
on_fitting-requires c =
    record {
      sound_table = c.requires.sound_table;
      table_value = (
        c.requires.table_value,
        ap (λ (k : ℕ). fitting c.args.most k)
            (sym c.places-places.ensures) ∙ sym c.fit-fits.ensures ∙ c.if-not-fits.false,
      );
    }
