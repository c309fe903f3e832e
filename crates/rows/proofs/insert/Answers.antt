-- `rows::insert` meets its contract. Assumes nothing.
use native.Mathlib.Omega.{arith}
use Rattle.row.specs.Layout.{pack}
use Rattle.rows.proofs.Places.{ins_law}
use Rattle.rows.proofs.insert.Goals as goal

pub returns : goal.returns
returns c =
    let a = c.args in
    cc (ins_law a.t.now a.i a.n (pack a.v) (omega arith) (omega arith))
