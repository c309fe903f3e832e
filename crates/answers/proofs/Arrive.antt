-- A silence that is asked again has used fewer retries than R.
-- Assumes nothing.
use mathlib.Core.Path.{◌≡◌}
use mathlib.Core.Bool.{true}
use Prim.Native.Nat.{ℕ, ◌≤◌, ◌<◌}
use native.Mathlib.Omega.{arith}
use borrow.Author.Tests.{ltb-true}
use lib.Dec.{eqb, ltb}
use Rattle.model.specs.Retries.{used}
use Rattle.model.specs.Answers.{answering, again}
use Rattle.model.proofs.Lists.{and_r}
use Rattle.model.specs.declared.Event.{Event}
use Rattle.model.specs.declared.Broadcast.{Broadcast}

pub few_used : (most : ℕ) (e : Event) (c : Broadcast) → most ≤ 7 → again most e c ≡ true → used c.retries (answering e) < 7
unfolding again
few_used most e c h q =
    let l : used c.retries (answering e) < most =
    ltb-true _ _ (and_r (eqb e.kind 12) (ltb (used c.retries (answering e)) most) q) in
    omega arith
