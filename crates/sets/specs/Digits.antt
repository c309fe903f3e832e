-- The retries of some systems, digit by digit.
-- Assumes nothing.
use Rattle.std.specs.Prelude.{ℕ, zero, suc, ◌/◌, ◌%◌, Bool, true, not, ◌&&◌, eqb}

-- each of the lowest n octal digits of w is 0, or its system is in s, of which the first system is place 0 [V6]
unfoldable pub digits_wait : ℕ → ℕ → ℕ → Bool
digits_wait zero w s = true
digits_wait (suc n) w s = not (eqb (s % 2) 0 && not (eqb (w % 8) 0)) && digits_wait n (w / 8) (s / 2)
