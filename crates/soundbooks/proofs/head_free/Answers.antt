-- `soundbooks::head_free` meets its contract.
-- Assumes nothing.
use Prim.Native.Nat.{ℕ}
use mathlib.Core.Path.{ap}
use lib.Dec.{eqb}
use Rattle.soundbooks.proofs.head_free.Goals as goal

pub returns : goal.returns
returns c = ap (λ (x : ℕ). eqb x 0) c.u64_at.ensures
