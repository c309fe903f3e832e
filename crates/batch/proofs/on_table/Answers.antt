-- `batch::on_table` meets its contract. Assumes nothing.
use Rattle.std.specs.Prelude.{Some}
use mathlib.Core.Path.{sym, ap, ◌∙◌}
use Prim.Native.Nat.{ℕ}
use native.Mathlib.Omega.{arith}
use Rattle.checks.specs.Checks.{fitting}
use Rattle.batch.proofs.Refusing.{went_refused, unfit, short, partly, wholly, went_whole}
use Rattle.batch.proofs.on_table.Goals as goal

pub returns-then-not-fits : goal.returns-then-not-fits
returns-then-not-fits c =
    went_refused (Some c.args.lent.marks) c.args.lent.books.now c.args.lent.most c.args.events.now c.args.table.now c.args.tray.now
    c.args.outs.now 1 _ c.refused.ensures
    (unfit (Some c.args.lent.marks) c.args.lent.books.now c.args.lent.most c.args.events.now c.args.table.now c.args.tray.now
    c.args.outs.now _ c.requires.table_value (ap (λ (k : ℕ). fitting c.args.lent.most k) (sym c.places-places.ensures)
    ∙ sym c.fit-fits.ensures ∙ c.if-not-fits.true)) (λ z. omega (arith, z))

pub returns-then-outs-events : goal.returns-then-outs-events
returns-then-outs-events c =
    went_refused (Some c.args.lent.marks) c.args.lent.books.now c.args.lent.most c.args.events.now c.args.table.now c.args.tray.now
    c.args.outs.now 1 _ c.refused-then-outs-events.ensures
    (short (Some c.args.lent.marks) c.args.lent.books.now c.args.lent.most c.args.events.now c.args.table.now c.args.tray.now
    c.args.outs.now _ c.requires.table_value
    (ap (λ (k : ℕ). fitting c.args.lent.most k) (sym c.places-places.ensures)
    ∙ sym c.fit-fits.ensures ∙ c.if-not-fits.false) c.if-outs-events.true)
    (λ z. omega (arith, z))

pub returns-then-events-ne0 : goal.returns-then-events-ne0
returns-then-events-ne0 c =
    went_refused (Some c.args.lent.marks) c.args.lent.books.now c.args.lent.most c.args.events.now c.args.table.now c.args.tray.now
    c.args.outs.now 2 _ c.refused-then-events-ne0.ensures
    (partly (Some c.args.lent.marks) c.args.lent.books.now c.args.lent.most c.args.events.now c.args.table.now c.args.tray.now
    c.args.outs.now _ c.requires.table_value
    (ap (λ (k : ℕ). fitting c.args.lent.most k) (sym c.places-places.ensures)
    ∙ sym c.fit-fits.ensures ∙ c.if-not-fits.false)
    c.if-outs-events.false c.if-events-ne0.true) (λ z. omega (arith, z))

pub all-requires : goal.all-requires
all-requires c =
    record {
      sound_table = c.requires.sound_table;
      table_value = (
        c.requires.table_value,
        (ap (λ (k : ℕ). fitting c.args.lent.most k)
            (sym c.places-places.ensures)
            ∙ sym c.fit-fits.ensures
            ∙ c.if-not-fits.false),
        c.if-outs-events.false,
      );
    }

pub returns : goal.returns
returns c =
    went_whole (Some c.args.lent.marks) c.args.lent.books.now c.args.lent.most c.args.events.now c.args.table.now c.args.tray.now
    c.args.outs.now _ _ _ _
    (wholly (Some c.args.lent.marks) c.args.lent.books.now c.args.lent.most c.args.events.now c.args.table.now c.args.tray.now
    c.args.outs.now _ c.requires.table_value
    (ap (λ (k : ℕ). fitting c.args.lent.most k)
    (sym c.places-places.ensures) ∙ sym c.fit-fits.ensures ∙ c.if-not-fits.false) c.if-outs-events.false
    c.if-events-ne0.false)
    c.all.ensures
