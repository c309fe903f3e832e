-- `count::downward` meets its contract: all rows from n on are free. Assumes nothing.
use mathlib.Core.Path.{sym, ◌∙◌}
use native.Mathlib.Omega.{arith}
use Rattle.table.proofs.Using.{free_from_lem, used_before}
use Rattle.table.proofs.count.downward.Goals as goal

pub returns-then-not-free : goal.returns-then-not-free
returns-then-not-free c =
    omega (
      arith,
      c.loop-n-test.true,
      c.loop-n.invariant,
      used_before _ _ c.requires.0 _ (omega (arith, c.loop-n-test.true, c.loop-n.auto, c.requires.2))
          (sym c.free.ensures ∙ c.if-not-free.true),
    )

pub loop-n-preserved : goal.loop-n-preserved
loop-n-preserved c = free_from_lem _ _ c.requires.0 _ (sym c.free.ensures ∙ c.if-not-free.false)
