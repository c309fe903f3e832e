-- `soundbooks::sound_splits` meets its contract. The loop's invariant: the places that are left decide.
-- Assumes nothing.
use mathlib.Core.Path.{sym, ◌∙◌}
use Rattle.books.specs.Packed.{split_place, split_places}
use Rattle.soundbooks.proofs.Scanning.{scan_free, scan_bad, scan_end}
use Rattle.soundbooks.specs.Sound.{split_test}
use Rattle.soundbooks.proofs.Soundness.{split_next}
use Rattle.soundbooks.proofs.sound_splits.Goals as goal

pub returns-then-w-eq0 : goal.returns-then-w-eq0
returns-then-w-eq0 c =
    let l = c.loop-i in
    c.free.ensures
    ∙ sym (l.invariant ∙ scan_free split_test (split_place c.args.books.now) split_places l.i 0 _
    c.loop-i-test.true c.u64_at-w.ensures c.if-w-eq0.true)

pub returns-then-not-good_split : goal.returns-then-not-good_split
returns-then-not-good_split c =
    let l = c.loop-i in
    sym (l.invariant ∙ scan_bad split_test (split_place c.args.books.now) split_places l.i 0 _
    c.loop-i-test.true c.u64_at-w.ensures _ c.if-w-eq0.false c.good_split.ensures
    (c.if-not-good_split.true))

pub loop-i-preserved : goal.loop-i-preserved
loop-i-preserved c =
    let l = c.loop-i in
    l.invariant ∙ split_next c.args.books.now l.i _ _ c.loop-i-test.true c.u64_at-w.ensures
    c.if-w-eq0.false c.good_split.ensures (c.if-not-good_split.false)

pub returns : goal.returns
returns c =
    let l = c.loop-i in
    sym (l.invariant ∙ scan_end split_test (split_place c.args.books.now) split_places l.i 0 c.loop-i-test.false)
