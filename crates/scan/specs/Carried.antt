-- What a scan carries from row to row, in two words. [V11]
-- Assumes nothing.
use Rattle.std.specs.Prelude.{ℕ, ◌+◌, ◌*◌, ◌/◌, ◌%◌, ◌<◌, Bool, eqb, Option, None, Some}
use Rattle.row.specs.Layout.{flag}
use Rattle.scan.specs.declared.join.Bits.{Bits}
use Rattle.scan.specs.Join.{Group}

-- live 1, sending 2, worked 4
abbrev pub bits_of : Bool → Bool → Bool → ℕ
bits_of l s w = flag l + flag s * 2 + flag w * 4

abbrev pub is_live : ℕ → Bool
is_live h = eqb (h % 2) 1

abbrev pub is_sent : ℕ → Bool
is_sent h = eqb (h / 2 % 2) 1

abbrev pub is_work : ℕ → Bool
is_work h = eqb (h / 4 % 2) 1

unfoldable pub group_of : Bits → Group
group_of s = record { last = s.last; live = is_live s.had; sends = is_sent s.had; worked = is_work s.had }

abbrev pub joined_by : Option Bits → Option Group
joined_by None = None
joined_by (Some s) = Some (group_of s)

-- three marks
abbrev pub Few : Option Bits → Type 0
Few None = Unit {0}
Few (Some s) = s.had < 8
