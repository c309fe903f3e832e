-- `survey::look` meets its contract.
-- Assumes nothing.
use mathlib.Core.Path.{ap, ◌∙◌}
use mathlib.Core.List.{[]}
use native.Mathlib.Omega.{arith}
use borrow.Author.Tests.{lt-ltb, le-ltb}
use Rattle.row.specs.Layout.{unpack}
use Rattle.std.specs.Prelude.{Some}
use Rattle.model.specs.declared.Version.{Version}
use Rattle.table.specs.Survey.{at_place}
use Rattle.table.proofs.Sought.{sound_load}
use Rattle.table.proofs.survey.look.Goals as goal

pub load-version-requires : goal.load-version-requires
load-version-requires c = omega (arith, c.if-i-t.true, c.args.t.now.sound.whole, c.args.t.now.sound.room)

pub returns-then-i-t : goal.returns-then-i-t
returns-then-i-t c =
    rw (lt-ltb _ _ c.if-i-t.true)
    (ap (λ (v : Version). Some (at_place c.args.i v)) (c.load-version.ensures ∙ sound_load c.args.t.now.bytes.now
    c.args.t.now.used c.args.t.now.sound c.args.i (unpack []) c.if-i-t.true))

pub returns : goal.returns
returns c = rw (le-ltb _ _ c.if-i-t.false)
