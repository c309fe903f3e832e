-- `survey::line` meets its contract: the rows under the smaller TN stand before those under the larger. Assumes nothing.
use mathlib.Core.Path.{subst}
use mathlib.Core.List.{List}
use native.Mathlib.Omega.{arith}
use Rattle.model.specs.declared.Version.{Version}
use Rattle.rows.specs.Table.{decode}
use Rattle.table.specs.Survey.{Surveyed}
use Rattle.table.proofs.Sought.{sound_good}
use Rattle.table.proofs.Numbered.{rows_line}
use Rattle.table.proofs.survey.line.Goals as goal

pub beyond-p-requires : goal.beyond-p-requires
beyond-p-requires c = record { high_bound = c.requires.low_le_high.1 }

pub under-p-requires : goal.under-p-requires
under-p-requires c =
    record { tn_bound = omega (arith, c.requires.low_le_high.0, c.requires.low_le_high.1) }

pub returns : goal.returns
returns c =
    let vs = decode c.args.t.now in
    let g = sound_good c.args.t.now c.args.n c.requires.sound_table in
    subst (λ (l : List Version). Surveyed vs l c.args.number c.args.create c.whole.result)
    (rows_line c.args.low.0 c.args.high.0 0 vs c.requires.low_le_high.0 g.sound g.rises)
    (c.whole.ensures _ c.args.number (c.under-p.ensures _ c.beyond-p.ensures))
