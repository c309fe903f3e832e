-- `scan::over` meets its contract: the rest of the rows, from what the used ones so far say, decides what all do. Assumes nothing.
use mathlib.Core.Path.{◌≡◌, sym, ap, ap₂, ◌∙◌, subst}
use Prim.Native.Nat.{ℕ, ◌/◌}
use lib.ListN.{length}
use native.Mathlib.Omega.{arith}
use Rattle.scan.specs.Join.{Group}
use Rattle.scan.specs.Carried.{group_of, joined_by, Few}
use Rattle.rows.specs.Table.{pieces_of}
use Rattle.scan.specs.Sound.{Open, scan_rows, said_by}
use Rattle.scan.proofs.Carries.{start_seen}
use Rattle.scan.proofs.Scans.{scan_done, open_ends, open_next, open_bad}
use Rattle.scan.proofs.over.Goals as goal

pub loop-i-init : goal.loop-i-init
loop-i-init c =
    let d = c.default-s.ensures in (
      omega (arith, d.1),
      ap₂ (λ (k h : ℕ). scan_rows (Open 0 (group_of (record { last = k; had = h }))) (pieces_of c.args.t.now)) d.0 d.1
          ∙ ap (λ (g : Group). scan_rows (Open 0 g) (pieces_of c.args.t.now)) start_seen,
    )

pub returns-then-w-eq0 : goal.returns-then-w-eq0
returns-then-w-eq0 c =
    let t = c.args.t.now in
    c.ended.ensures
    ∙ ap said_by (open_ends t c.loop-i.i c.loop-i-test.true c.loop-i.i (group_of c.loop-i.s)
    c.words-w.result c.words-w.ensures c.if-w-eq0.true
    ∙ c.loop-i.invariant.1)

pub returns-in_err-s : goal.returns-in_err-s
returns-in_err-s c =
    let t = c.args.t.now in
    c.from_residual.ensures ∙ ap said_by (open_bad t c.loop-i.i c.loop-i-test.true c.loop-i.i (group_of c.loop-i.s)
    c.words-w.result c.words-w.ensures
    c.if-w-eq0.false (sym c.admit.ensures.0 ∙ ap joined_by c.in_err-s.was)
    ∙ c.loop-i.invariant.1)

pub loop-i-preserved : goal.loop-i-preserved
loop-i-preserved c =
    let t = c.args.t.now in (
      subst Few c.in_ok-s.was c.admit.ensures.1,
      open_next t c.loop-i.i c.loop-i-test.true c.loop-i.i
          (group_of c.loop-i.s) c.words-w.result
          c.words-w.ensures (group_of c.in_ok-s.s)
          c.if-w-eq0.false (sym c.admit.ensures.0
          ∙ ap joined_by c.in_ok-s.was)
          ∙ c.loop-i.invariant.1,
    )

pub returns : goal.returns
returns c =
    let e : c.loop-i.i ≡ length c.args.t.now / 80 = omega arith in
    ap said_by (ap (λ (n : ℕ). Open n (group_of c.loop-i.s)) (sym e)
    ∙ sym (scan_done c.args.t.now c.loop-i.i (Open c.loop-i.i (group_of c.loop-i.s))
    c.loop-i-test.false) ∙ c.loop-i.invariant.1)
