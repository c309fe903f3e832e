-- `kinds::ten_digits` meets its contract. Assumes nothing.
use mathlib.Core.Path.{◌≡◌, refl, ap}
use mathlib.Core.Bool.{Bool, true, false, ◌&&◌}
use Prim.Native.Nat.{ℕ, ◌/◌, ◌%◌, ◌≤◌, ◌<◌}
use native.Mathlib.Omega.{arith}
use borrow.Author.Tests.{leb-true, leb-false, le-leb, lt-leb}
use lib.Dec.{leb, ltb}
use Rattle.kinds.proofs.ten_digits.Goals as goal

fourth : (x : ℕ) → leb 2000000 (x % 10000000) ≡ leb 2 (x / 1000000 % 10)
fourth x = go (leb 2 (x / 1000000 % 10)) refl
  where
    go : (b : Bool) → leb 2 (x / 1000000 % 10) ≡ b → leb 2000000 (x % 10000000) ≡ b
    go true e =
        let h : 2 ≤ x / 1000000 % 10 = leb-true _ _ e in
        le-leb 2000000 (x % 10000000) (omega arith)
    go false e =
        let h : x / 1000000 % 10 < 2 = leb-false _ _ e in
        lt-leb 2000000 (x % 10000000) (omega arith)

pub returns : goal.returns
returns c =
    ap (λ (b : Bool). leb 2000000000 c.args.x && ltb c.args.x 10000000000 && b) (fourth c.args.x)
