-- `rival` meets its contract. Assumes nothing.
use mathlib.Core.List.{[]}
use native.Mathlib.Omega.{arith}
use Rattle.row.specs.Layout.{unpack}
use Rattle.rows.specs.Place.{row_at}
use Rattle.table.proofs.Sought.{sound_load}
use Rattle.linefaults.proofs.rival.Goals as goal

pub returns : goal.returns
returns g c n a =
    let t = c.args.t.now in
    c.nearest.ensures _
    (λ j b k e. rw (
      e.2,
      a (unpack (row_at t j)) e.0 e.1,
      sound_load t c.args.used c.requires.sound_table j (unpack []) (omega (arith, k, c.requires.i_le_used)),
    ))
