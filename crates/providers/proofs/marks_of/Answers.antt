-- `providers::marks_of` meets its contract. The loop's invariant: what the records passed say.
-- Assumes nothing.
use Prim.Native.Nat.{◌+◌, ◌≤◌}
use mathlib.Core.Path.{◌≡◌, ◌∙◌, sym}
use mathlib.Core.List.{map}
use native.Mathlib.Omega.{arith}
use lib.ListN.{length, length-map}
use Rattle.providers.proofs.Laws.{listed_none, listed-all, marks_more, none_stays}
use Rattle.providers.proofs.marks_of.Goals as goal

pub loop-i-init : goal.loop-i-init
loop-i-init g c = listed_none _ _ c.default-m.ensures

pub returns-in_err-m : goal.returns-in_err-m
returns-in_err-m g c =
    let says = g.E.Entry.says in
    let xs = c.args.list.now in
    let i = c.loop-i in
    let h : i.i + 1 ≤ length (map says xs) = omega (arith, length-map xs says) in
    c.from_residual.ensures
    ∙ sym (none_stays (map says xs) (i.i + 1) h (sym (marks_more says xs i.i _ _ _ _ c.loop-i-test.true c.index-list-i.is c.entry.ensures
    i.invariant c.grown.ensures) ∙ c.in_err-m.was))

pub loop-i-preserved : goal.loop-i-preserved
loop-i-preserved g c =
    let i = c.loop-i in
    sym c.in_ok-m.was
    ∙ marks_more g.E.Entry.says c.args.list.now i.i _ _ _ _ c.loop-i-test.true c.index-list-i.is c.entry.ensures
    i.invariant c.grown.ensures

pub returns : goal.returns
returns g c =
    let says = g.E.Entry.says in
    let xs = c.args.list.now in
    let e : c.loop-i.i ≡ length (map says xs) = omega (arith, length-map xs says) in
    c.loop-i.invariant ∙ listed-all (map says xs) c.loop-i.i e
