-- `lines::sound` meets its contract. The loop's invariant: the pairs that are left decide. Assumes nothing.
use mathlib.Core.Path.{refl, sym, ◌∙◌}
use native.Mathlib.Omega.{arith}
use Rattle.rows.specs.Table.{decode}
use Rattle.scan.specs.Sound.{rows_in}
use Rattle.books.specs.Packed.{split_place, split_places, splits_of}
use Rattle.model.proofs.Partners.{sound_codes_lem}
use Rattle.lines.proofs.Turns.{pairs_end, pairs_free, pair_codes, pairs_fail, pairs_on}
use Rattle.lines.proofs.Together.{pairs_lines}
use Rattle.lines.proofs.sound.Goals as goal

pub loop-i-init : goal.loop-i-init
loop-i-init c =
    record { known = sound_codes_lem (splits_of c.args.books.now) c.requires.books_len.1; decides = refl }

pub u64_at-w-requires : goal.u64_at-w-requires
u64_at-w-requires c = omega (arith, c.requires.books_len.0)

pub returns-then-w-eq0 : goal.returns-then-w-eq0
returns-then-w-eq0 c =
    let l = c.loop-i in
    let a = c.args in
    let w = split_place a.books.now in
    let xs = splits_of a.books.now in
    let vs = decode a.t.now in
    sym (pairs_free w split_places l.i xs vs l.invariant c.u64_at-w.result c.u64_at-w.ensures c.if-w-eq0.true)
    ∙ pairs_lines xs c.requires.books_len.1 vs (rows_in a.t.now) c.requires.sound_table.sound

pub pair_fits-requires : goal.pair_fits-requires
pair_fits-requires c =
    let l = c.loop-i in
    let a = c.args in
    let w = split_place a.books.now in
    let xs = splits_of a.books.now in
    let vs = decode a.t.now in record {
      c_bound = pair_codes w split_places l.i xs vs l.invariant c.u64_at-w.result c.u64_at-w.ensures
          (omega (arith, c.loop-i-test.true)) c.if-w-eq0.false;
    }

pub returns-then-not-pair_fits : goal.returns-then-not-pair_fits
returns-then-not-pair_fits c =
    let l = c.loop-i in
    let a = c.args in
    let w = split_place a.books.now in
    let xs = splits_of a.books.now in
    let vs = decode a.t.now in
    sym (pairs_fail w split_places l.i xs vs l.invariant c.u64_at-w.result
    c.u64_at-w.ensures (omega (arith, c.loop-i-test.true))
    c.if-w-eq0.false c.pair_fits.result c.pair_fits.ensures (c.if-not-pair_fits.true))
    ∙ pairs_lines xs c.requires.books_len.1 vs (rows_in a.t.now) c.requires.sound_table.sound

pub loop-i-preserved : goal.loop-i-preserved
loop-i-preserved c =
    let l = c.loop-i in
    let a = c.args in
    let w = split_place a.books.now in
    let xs = splits_of a.books.now in
    let vs = decode a.t.now in
    pairs_on w split_places l.i xs vs l.invariant c.u64_at-w.result c.u64_at-w.ensures
    (omega (arith, c.loop-i-test.true)) c.if-w-eq0.false c.pair_fits.result
    c.pair_fits.ensures (c.if-not-pair_fits.false)

pub returns : goal.returns
returns c =
    let l = c.loop-i in
    let a = c.args in
    let w = split_place a.books.now in
    let xs = splits_of a.books.now in
    let vs = decode a.t.now in
    sym (pairs_end w split_places l.i xs vs l.invariant c.loop-i-test.false)
    ∙ pairs_lines xs c.requires.books_len.1 vs (rows_in a.t.now) c.requires.sound_table.sound
