-- `batch::one` meets its contract. Assumes nothing.
use Rattle.std.specs.Prelude.{Some}
use mathlib.Core.Path.{sym, ap, ◌∙◌, subst}
use Prim.Native.Nat.{ℕ, ◌≤◌, ◌*◌}
use native.Mathlib.Omega.{arith}
use mathlib.Core.List.{List}
use Rattle.tray.specs.Tray.{places_in}
use Rattle.checks.specs.Checks.{fitting}
use Rattle.batch.proofs.Turns.{part_is, said_small, count_small, stays, turned_at}
use borrow.Author.Rules.{rules}
use Rattle.batch.proofs.one.Goals as goal

pub on_fitting-a-requires : goal.on_fitting-a-requires
on_fitting-a-requires c =
    record {
      sound_table = c.requires.sound_table;
      table_value = (
        c.requires.table_value.0,
        ap (λ (w : List ℕ). fitting c.args.lent.most (places_in w))
            (part_is c.args.tray.now (24 * c.args.messages)) ∙ c.requires.table_value.1,
      );
    }

pub note-requires : goal.note-requires
note-requires c =
    let h = count_small (Some c.args.lent.marks) c.args.lent.books.now c.args.lent.most c.args.event.now c.args.table.now
    c.args.tray.now c.args.outs.now c.args.i c.args.messages _ _ _
    c.on_fitting-a.ensures in (
      said_small (Some c.args.lent.marks) c.args.lent.books.now c.args.lent.most c.args.event.now c.args.table.now c.args.tray.now
          c.args.outs.now c.args.i c.args.messages _ _ _ c.on_fitting-a.ensures,
      omega (arith, h),
      c.requires.table_value.2,
    )

pub used-used-requires : goal.used-used-requires
used-used-requires c =
    let h = stays (Some c.args.lent.marks) c.args.lent.books.now c.args.lent.most c.args.event.now c.args.table.now c.args.tray.now
    c.args.outs.now c.args.i c.args.messages _ _ _
    c.on_fitting-a.ensures _ c.requires.sound_table c.requires.table_value.0 in
    (h.table, subst (λ (r : ℕ). c.args.n ≤ r) (sym h.rows) c.requires.sound_table.room)

pub overflow_add-result : goal.overflow_add-result
overflow_add-result c =
    let h = count_small (Some c.args.lent.marks) c.args.lent.books.now c.args.lent.most c.args.event.now c.args.table.now
    c.args.tray.now c.args.outs.now c.args.i c.args.messages _ _ _
    c.on_fitting-a.ensures in
    let g = c.requires.table_value.3 in
    search rules

pub returns : goal.returns
returns c =
    turned_at (Some c.args.lent.marks) c.args.lent.books.now c.args.lent.most c.args.event.now c.args.table.now c.args.tray.now
    c.args.outs.now c.args.i c.args.messages _ _ _
    c.on_fitting-a.ensures _ c.requires.sound_table
    c.requires.table_value.0 _ c.used-used.ensures c.requires.table_value.3 _ c.note.ensures
