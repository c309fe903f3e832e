-- Retries used per system: base-8 digits of three numbers, 21 systems in each.
-- Assumes nothing.
use Rattle.std.specs.Prelude.{ℕ, ◌+◌, ◌-◌, ◌*◌, ◌/◌, ◌%◌, ◌^◌, cond, leb}
use Rattle.model.specs.declared.Retries.{Retries}

-- where a system's digit stands in its number: 0 to 20
abbrev pub digit_place : ℕ → ℕ
digit_place p = cond (leb p 21) (p - 1) (cond (leb p 42) (p - 22) (p - 43))

unfoldable pub octal : ℕ → ℕ → ℕ
octal q w = w / 2 ^ (3 * q) % 8

-- the digit at q becomes d
unfoldable pub with_octal : ℕ → ℕ → ℕ → ℕ
with_octal q d w = w - octal q w * 2 ^ (3 * q) + d * 2 ^ (3 * q)

-- the retries that system p has used
unfoldable pub used : Retries → ℕ → ℕ
used r p = octal (digit_place p) (cond (leb p 21) r.low (cond (leb p 42) r.mid r.high))

-- system p has used d
unfoldable pub with_used : Retries → ℕ → ℕ → Retries
with_used r p d = record {
  low = cond (leb p 21) (with_octal (digit_place p) d r.low) r.low;
  mid = cond (leb p 21) r.mid (cond (leb p 42) (with_octal (digit_place p) d r.mid) r.mid);
  high = cond (leb p 21) r.high (cond (leb p 42) r.high (with_octal (digit_place p) d r.high));
}

-- nobody has used any
abbrev pub no_retries : Retries
no_retries = record { low = 0; mid = 0; high = 0 }
