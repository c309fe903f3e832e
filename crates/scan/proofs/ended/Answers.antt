-- `scan::ended` meets its contract: the rest of the rows decides what all after the used ones do. Assumes nothing.
use mathlib.Core.Path.{sym, ap, ◌∙◌}
use Rattle.scan.specs.Sound.{Ended, said_by}
use Rattle.scan.proofs.Scans.{scan_done, ended_next, ended_bad}
use Rattle.scan.proofs.ended.Goals as goal

pub returns-then-not-free : goal.returns-then-not-free
returns-then-not-free c =
    let a = c.args in
    ap said_by (ended_bad a.t.now c.loop-i.i c.loop-i-test.true a.used (sym c.free.ensures ∙ c.if-not-free.true) ∙ c.loop-i.invariant)

pub loop-i-preserved : goal.loop-i-preserved
loop-i-preserved c =
    let a = c.args in
    ended_next a.t.now c.loop-i.i c.loop-i-test.true a.used
    (sym c.free.ensures ∙ c.if-not-free.false) ∙ c.loop-i.invariant

pub returns : goal.returns
returns c =
    let a = c.args in
    ap said_by (sym (scan_done a.t.now c.loop-i.i (Ended a.used) c.loop-i-test.false) ∙ c.loop-i.invariant)
