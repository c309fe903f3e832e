-- `found` meets its contract: l is the version of row i, s the start. Assumes nothing.
use Prim.Native.Nat.{◌<◌}
use mathlib.Core.Path.{sym, ◌∙◌, subst}
use mathlib.Core.List.{[]}
use native.Mathlib.Omega.{arith}
use Rattle.model.specs.declared.Version.{Version}
use Rattle.row.specs.Layout.{unpack}
use Rattle.rows.specs.Table.{decode}
use Rattle.scan.specs.Sound.{rows_in}
use Rattle.scan.proofs.Admits.{tn_fits}
use Rattle.table.proofs.Sought.{sound_good, sound_load}
use Rattle.books.specs.Packed.{splits_of}
use Rattle.linefaults.proofs.Rivals.{found-under, found-alone}
use Rattle.linefaults.proofs.found.Goals as goal

pub load-v-requires : goal.load-v-requires
load-v-requires c =
    omega (arith, c.requires.sound_table.whole, c.requires.sound_table.room, c.requires.i_lt_n)

pub line_names-names-requires : goal.line_names-names-requires
unfolding unpack
line_names-names-requires c =
    record {
      books_len = c.requires.books_len.0;
      books_value = (c.requires.books_len.1, subst (λ (v : Version). v.id.tn.0 < 17179869184) (sym c.load-v.ensures) (tn_fits _));
    }

pub returns-then-tn-names : goal.returns-then-tn-names
returns-then-tn-names c =
    let a = c.args in
    found-alone (splits_of a.books.now) (decode a.t.now) a.i c.load-v.result
    (c.load-v.ensures ∙ sound_load a.t.now a.n c.requires.sound_table a.i (unpack []) c.requires.i_lt_n)
    c.line_names-names.result c.line_names-names.ensures (rows_in a.t.now)
    (sound_good a.t.now a.n c.requires.sound_table) (omega (arith, c.requires.sound_table.count, c.requires.i_lt_n)) c.if-tn-names.true

pub returns : goal.returns
returns c =
    let a = c.args in
    found-under (splits_of a.books.now) (decode a.t.now) a.i c.load-v.result
    (c.load-v.ensures ∙ sound_load a.t.now a.n c.requires.sound_table a.i (unpack []) c.requires.i_lt_n)
    c.line_names-names.result c.line_names-names.ensures c.shared.result
    c.shared.ensures
