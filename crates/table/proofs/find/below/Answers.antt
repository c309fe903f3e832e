-- `find::below` meets its contract. Assumes nothing.
use native.Mathlib.Omega.{arith}
use Rattle.table.specs.Find.{key_at}
use Rattle.table.proofs.Finds.{bit_below, head_says}
use Rattle.table.proofs.find.below.Goals as goal

pub returns : goal.returns
returns c =
    let w = c.head-w.result in
    bit_below w (key_at c.args.t.now c.args.i) c.args.k c.args.least (head_says c.args.t.now c.args.i w c.head-w.ensures) c.requires.1
    c.requires.2 (omega arith)
