-- `rows::remove` meets its contract. Assumes nothing.
use native.Mathlib.Omega.{arith}
use Rattle.words.proofs.Spelling.{none_blank}
use Rattle.rows.proofs.Places.{del_law}
use Rattle.rows.proofs.remove.Goals as goal

pub returns : goal.returns
returns c =
    let a = c.args in
    cc (none_blank, del_law a.t.now a.i a.n (omega arith) (omega arith))
