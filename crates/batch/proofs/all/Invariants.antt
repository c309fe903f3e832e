-- `batch::all` meets its contract. Assumes nothing.
use Rattle.std.specs.Prelude.{Some}
use Prim.Native.Nat.{◌-◌}
use Rattle.batch.proofs.Loops.{Here}
use Rattle.batch.proofs.all.Given as goal

abbrev pub invariant-loop-i : goal.invariant-loop-i
invariant-loop-i l =
    Here (Some l.lent.marks) l.lent.books.now l.lent.most l.events l.initial.table l.initial.tray l.initial.outs
    l.table l.tray l.outs l.used l.messages l.i
