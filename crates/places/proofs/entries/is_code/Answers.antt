-- `entries::is_code` meets its contract.
-- Assumes nothing.
use mathlib.Core.Path.{◌≡◌, refl, ap}
use mathlib.Core.Bool.{Bool, true, false, ◌&&◌}
use Prim.Native.Nat.{ℕ, ◌/◌, ◌%◌, ◌≤◌, ◌<◌}
use native.Mathlib.Omega.{arith}
use borrow.Author.Tests.{leb-true, leb-false, le-leb, lt-leb}
use lib.Dec.{leb, ltb}
use Rattle.places.proofs.entries.is_code.Goals as goal

fourth : (x : ℕ) → leb 200 (x % 1000) ≡ leb 2 (x / 100 % 10)
fourth x = go (leb 2 (x / 100 % 10)) refl
  where
    go : (b : Bool) → leb 2 (x / 100 % 10) ≡ b → leb 200 (x % 1000) ≡ b
    go true e =
        let h : 2 ≤ x / 100 % 10 = leb-true _ _ e in
        le-leb 200 (x % 1000) (omega arith)
    go false e =
        let h : x / 100 % 10 < 2 = leb-false _ _ e in
        lt-leb 200 (x % 1000) (omega arith)

pub returns : goal.returns
returns c = ap (λ (b : Bool). leb 200000 c.args.c && ltb c.args.c 1000000 && b) (fourth c.args.c)
