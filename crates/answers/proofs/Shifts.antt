-- A digit of the retries, put by shifts.
-- Assumes nothing.
use mathlib.Core.Path.{◌≡◌}
use Prim.Native.Nat.{ℕ, ◌+◌, ◌-◌, ◌*◌, ◌/◌, ◌%◌, ◌^◌, ◌<◌, ◌≤◌}
use native.Mathlib.Nat.{mod-eq_of_lt}
use native.Mathlib.Omega.{arith}
use Rattle.model.specs.Retries.{octal, with_octal}
use Rattle.model.proofs.Digits.{octal_part, octal-fits}

module _ (q d w : ℕ) (hq : q < 21) (hd : d < 8) (hw : w < 2 ^ 63) where
  -- the old digit in its place
  pub old_is : w / 2 ^ (3 * q) % 8 * 2 ^ (3 * q) % 2 ^ 64 ≡ w / 2 ^ (3 * q) % 8 * 2 ^ (3 * q)
  unfolding octal
  old_is = mod-eq_of_lt (let l : w / 2 ^ (3 * q) % 8 * 2 ^ (3 * q) ≤ w = octal_part q w in omega arith)

  whole : w - w / 2 ^ (3 * q) % 8 * 2 ^ (3 * q) + d * 2 ^ (3 * q) < 2 ^ 63
  unfolding octal with_octal
  whole = octal-fits q d w hq hd hw

  -- the new one
  pub new_is : d * 2 ^ (3 * q) % 2 ^ 64 ≡ d * 2 ^ (3 * q)
  new_is = mod-eq_of_lt (let l : w - w / 2 ^ (3 * q) % 8 * 2 ^ (3 * q) + d * 2 ^ (3 * q) < 2 ^ 63 = whole in omega arith)

  pub old_part : w / 2 ^ (3 * q) % 8 * 2 ^ (3 * q) % 2 ^ 64 ≤ w
  unfolding octal
  old_part = rw old_is (octal_part q w)

  pub sum_fits : w - w / 2 ^ (3 * q) % 8 * 2 ^ (3 * q) % 2 ^ 64 + d * 2 ^ (3 * q) % 2 ^ 64 < 2 ^ 64
  sum_fits = rw (old_is, new_is) (let l : w - w / 2 ^ (3 * q) % 8 * 2 ^ (3 * q) + d * 2 ^ (3 * q) < 2 ^ 63 = whole in omega arith)

  pub put_is : w - w / 2 ^ (3 * q) % 8 * 2 ^ (3 * q) % 2 ^ 64 + d * 2 ^ (3 * q) % 2 ^ 64 ≡ with_octal q d w
  unfolding octal with_octal
  put_is = rw (old_is, new_is)
