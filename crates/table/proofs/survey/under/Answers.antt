-- `survey::under` meets its contract: the versions of a TN stand between two places. Assumes nothing.
use mathlib.Core.Path.{◌≡◌, subst, ap₂, ◌∙◌}
use mathlib.Core.List.{List}
use Prim.Native.Nat.{ℕ, ◌+◌, ◌*◌}
use native.Mathlib.Omega.{arith}
use lib.Seq.{slice}
use Rattle.model.specs.declared.Version.{Version}
use Rattle.rows.specs.Table.{decode}
use Rattle.table.specs.Find.{place_in}
use Rattle.table.specs.Survey.{Adds}
use Rattle.table.proofs.Sought.{sound_good}
use Rattle.table.proofs.Numbered.{rows_between}
use Rattle.table.proofs.Surveys.{number_places}
use Rattle.table.proofs.survey.under.Goals as goal

pub over-requires : goal.over-requires
over-requires c =
    let vs = decode c.args.t.now.bytes.now in
    let p = number_places vs c.args.tn.0 in
    let e = c.versions-at.ensures in
    let f : c.versions-at.result.from ≡ place_in (c.args.tn.0 * 65536) vs = e.0 in
    let g : c.versions-at.result.to ≡ place_in ((c.args.tn.0 + 1) * 65536) vs = e.1 in
    record { from_le_to = omega (arith, p, c.args.t.now.sound.count) }

pub returns : goal.returns
returns c =
    let vs = decode c.args.t.now.bytes.now in
    let g = sound_good c.args.t.now.bytes.now c.args.t.now.used c.args.t.now.sound in
    let e = c.versions-at.ensures in
    subst (λ (l : List Version). Adds vs c.args.t.now.used c.args.number l c.args.p c.over.result)
    (ap₂ (λ (x y : ℕ). slice x y vs) e.0 e.1 ∙ rows_between c.args.tn.0 0 vs g.sound g.rises) c.over.ensures
