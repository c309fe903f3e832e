-- `lines::row_fits` meets its contract. Assumes nothing.
use Prim.Native.Nat.{ℕ, ◌+◌, ◌*◌, ◌/◌, ◌%◌}
use mathlib.Core.Path.{◌≡◌, sym, ap, ◌∙◌}
use native.Mathlib.Omega.{arith}
use Rattle.rows.specs.Table.{decode}
use Rattle.table.specs.Find.{place_in}
use Rattle.table.specs.Survey.{version_at}
use Rattle.table.proofs.Numbered.{place_up}
use Rattle.lines.proofs.Heads.{tells}
use Rattle.lines.proofs.Abreast.{fits-nobody, fits_not, fits_by}
use Rattle.lines.proofs.row_fits.Goals as goal

pub head-w-requires : goal.head-w-requires
head-w-requires c =
    omega (arith, c.args.t.now.sound.whole, c.args.t.now.sound.room, c.requires.c_bound.1)

pub nobody-requires : goal.nobody-requires
nobody-requires c =
    let a = c.args in
    let w = c.head-w in
    let vs = decode a.t.now.bytes.now in
    let g = tells a.t.now.bytes.now a.t.now.used a.i w.result c.args.t.now.sound c.requires.c_bound.1 w.ensures (omega arith) in
    record {
      at_value = c.requires.at_value
          ∙ ap (λ (y : ℕ). place_in ((a.c * 10000 + y % 10000) * 65536 + 0) vs) (sym g.tn);
    }

pub returns-then-nobody : goal.returns-then-nobody
returns-then-nobody c =
    let a = c.args in
    let w = c.head-w in
    let vs = decode a.t.now.bytes.now in
    let g = tells a.t.now.bytes.now a.t.now.used a.i w.result c.args.t.now.sound c.requires.c_bound.1 w.ensures (omega arith) in
    sym (fits-nobody a.c vs (version_at vs a.i) (w.result / 1073741824) (w.result / 16384 % 65536) g.tn g.number
    c.nobody.result c.nobody.ensures c.if-nobody.true)

pub absent-requires : goal.absent-requires
absent-requires c =
    let a = c.args in
    let w = c.head-w in
    let vs = decode a.t.now.bytes.now in
    let g = tells a.t.now.bytes.now a.t.now.used a.i w.result c.args.t.now.sound c.requires.c_bound.1 w.ensures (omega arith) in
    let at : a.at ≡ place_in ((a.c * 10000 + w.result / 1073741824 % 10000) * 65536 + 0) vs =
    c.requires.at_value ∙ ap (λ (y : ℕ). place_in ((a.c * 10000 + y % 10000) * 65536 + 0) vs) (sym g.tn) in
    let up = place_up vs ((a.c * 10000 + w.result / 1073741824 % 10000) * 65536 + 0)
    ((a.c * 10000 + w.result / 1073741824 % 10000) * 65536 + w.result / 16384 % 65536) (omega arith) in
    record { tn_bound = (omega (arith, c.requires.c_bound.0), omega (arith, at, up)) }

pub spared-requires : goal.spared-requires
spared-requires c =
    let a = c.args in
    let w = c.head-w in
    let vs = decode a.t.now.bytes.now in
    let g = tells a.t.now.bytes.now a.t.now.used a.i w.result c.args.t.now.sound c.requires.c_bound.1 w.ensures (omega arith) in
    record {
      at_value = c.requires.at_value
          ∙ ap (λ (y : ℕ). place_in ((a.c * 10000 + y % 10000) * 65536 + 0) vs) (sym g.tn);
    }

pub returns-then-absent : goal.returns-then-absent
returns-then-absent c =
    let a = c.args in
    let w = c.head-w in
    let vs = decode a.t.now.bytes.now in
    let g = tells a.t.now.bytes.now a.t.now.used a.i w.result c.args.t.now.sound c.requires.c_bound.1 w.ensures (omega arith) in
    fits_by a.c vs (version_at vs a.i) (w.result / 1073741824) (w.result / 16384 % 65536) g.tn g.number
    c.absent.result c.absent.ensures c.if-absent.true
    c.held_of.result (c.held_of.ensures ∙ g.held) c.spared.result c.spared.ensures

pub returns : goal.returns
returns c =
    let a = c.args in
    let w = c.head-w in
    let vs = decode a.t.now.bytes.now in
    let g = tells a.t.now.bytes.now a.t.now.used a.i w.result c.args.t.now.sound c.requires.c_bound.1 w.ensures (omega arith) in
    sym (fits_not a.c vs (version_at vs a.i) (w.result / 1073741824) (w.result / 16384 % 65536) g.tn g.number
    c.absent.result c.absent.ensures c.if-absent.false)
