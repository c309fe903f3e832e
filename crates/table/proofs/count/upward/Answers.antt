-- `count::upward` meets its contract. Assumes nothing.
use mathlib.Core.Path.{sym, ◌∙◌}
use native.Mathlib.Omega.{arith}
use Rattle.table.proofs.Using.{free_from_lem}
use Rattle.table.proofs.count.upward.Goals as goal

pub returns-then-free : goal.returns-then-free
returns-then-free c =
    (free_from_lem _ _ c.requires.0 _ (sym c.free.ensures ∙ c.if-free.true), omega (arith, c.loop-n-test.true))
