-- `ranges::is_set` meets its contract. Assumes nothing.
use Prim.Native.Nat.{◌<◌, ◌^◌}
use borrow.Author.Rules.{rules}
use borrow.Author.Tests.{lt-ltb}
use Rattle.sets.proofs.is_set.Goals as goal

pub returns : goal.returns
returns c =
    let h : c.args.s < 2 ^ 64 = search rules in
    simp (lt-ltb _ _ h)
