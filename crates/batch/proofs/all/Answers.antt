-- `batch::all` meets its contract. Assumes nothing.
use Rattle.std.specs.Prelude.{Some}
use borrow.Author.Rules.{rules}
use mathlib.Core.Path.{◌≡◌, refl}
use Prim.Native.Nat.{◌/◌}
use lib.ListN.{length}
use native.Mathlib.Omega.{arith}
use Rattle.batch.proofs.Loops.{fits-behind, outs_room, here_first, went_full, went_done, here-next}
use Rattle.batch.proofs.all.Goals as goal

pub loop-i-init : goal.loop-i-init
loop-i-init c =
    here_first (Some c.args.lent.marks) c.args.lent.books.now c.args.lent.most c.args.events.now c.args.table.now c.args.tray.now
    c.args.outs.now c.args.n c.requires.sound_table c.requires.table_value.0

pub overflow_mul-messages : goal.overflow_mul-messages
overflow_mul-messages c =
    let g = c.loop-i.invariant.room in
    search rules

pub overflow_sub-tray : goal.overflow_sub-tray
overflow_sub-tray c = c.loop-i.invariant.room

pub shape_of-table-then-tray-messages-lt-PLACES : goal.shape_of-table-then-tray-messages-lt-PLACES
shape_of-table-then-tray-messages-lt-PLACES c = c.loop-i.invariant.table_same

pub shape_of-tray-then-tray-messages-lt-PLACES : goal.shape_of-tray-then-tray-messages-lt-PLACES
shape_of-tray-then-tray-messages-lt-PLACES c = c.loop-i.invariant.tray_same

pub shape_of-outs-then-tray-messages-lt-PLACES : goal.shape_of-outs-then-tray-messages-lt-PLACES
shape_of-outs-then-tray-messages-lt-PLACES c = c.loop-i.invariant.outs_same

pub returns-then-tray-messages-lt-PLACES : goal.returns-then-tray-messages-lt-PLACES
returns-then-tray-messages-lt-PLACES c =
    went_full (Some c.args.lent.marks) c.args.lent.books.now c.args.lent.most c.args.events.now c.args.table.now c.args.tray.now
    c.args.outs.now _ _ _ _ _ _ c.loop-i.invariant c.loop-i-test.true c.if-tray-messages-lt-PLACES.true

pub overflow_mul-from : goal.overflow_mul-from
overflow_mul-from c =
    let g = c.loop-i-test.true in
    search rules

pub overflow_add-to : goal.overflow_add-to
overflow_add-to c =
    let g = c.loop-i-test.true in
    search rules

pub slice_bounds-one-end : goal.slice_bounds-one-end
slice_bounds-one-end c =
    let g = c.loop-i-test.true in
    search rules

pub one-t-requires : goal.one-t-requires
one-t-requires c =
    let h = c.loop-i.invariant in record {
      sound_table = h.sound;
      table_value = (
        h.scanned,
        fits-behind c.args.lent.most c.args.tray.now c.loop-i.tray
            c.loop-i.messages c.requires.table_value.1
            c.if-tray-messages-lt-PLACES.false,
        outs_room c.loop-i.i _ c.args.outs.now
            c.loop-i.outs c.loop-i-test.true
            c.requires.table_value.2 h.outs_same,
        h.room,
      );
    }

pub loop-i-preserved : goal.loop-i-preserved
loop-i-preserved c =
    let k = c.one-t.auto in
    here-next (Some c.args.lent.marks) c.args.lent.books.now c.args.lent.most c.args.events.now c.args.table.now c.args.tray.now
    c.args.outs.now _ _ _ _ _ _
    c.loop-i.invariant _ _ _ _ _
    c.loop-i-test.true
    c.if-tray-messages-lt-PLACES.false (search rules) (search rules)
    (search rules) (c.one-t.ensures _ refl)

pub shape_of-table : goal.shape_of-table
shape_of-table c = c.loop-i.invariant.table_same

pub shape_of-tray : goal.shape_of-tray
shape_of-tray c = c.loop-i.invariant.tray_same

pub shape_of-outs : goal.shape_of-outs
shape_of-outs c = c.loop-i.invariant.outs_same

pub returns : goal.returns
returns c =
    let l = c.loop-i in
    let e : l.i ≡ length c.args.events.now / 24 = omega arith in
    went_done (Some c.args.lent.marks) c.args.lent.books.now c.args.lent.most c.args.events.now c.args.table.now c.args.tray.now
    c.args.outs.now _ _ _ _ _ _ l.invariant e
