-- `change::strike_at` meets its contract. Assumes nothing.
use mathlib.Core.Path.{refl, ◌∙◌}
use Prim.Native.Nat.{◌-◌}
use native.Mathlib.Omega.{arith}
use Rattle.rows.specs.Table.{decode}
use Rattle.table.specs.Survey.{version_at}
use Rattle.table.proofs.Steps.{remove_takes}
use Rattle.table.proofs.change.strike_at.Goals as goal

pub returns : goal.returns
returns c =
    let a = c.args in
    let t = a.t.now in
    c.remove.ensures ∙ remove_takes t a.n c.requires.sound_table a.i (a.n - 1) (version_at (decode t) a.i).id
    (omega (arith, c.requires.i_lt_n)) (omega (arith, c.requires.i_lt_n)) refl
