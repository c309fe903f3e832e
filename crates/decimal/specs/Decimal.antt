-- Whole numbers as text: digits, the first of them not 0.
-- Assumes nothing.
use Rattle.std.specs.Prelude.{ℕ, ◌+◌, ◌-◌, ◌*◌, ◌&&◌, List, [], ◌∷◌, Option, Some, None, if◌then◌else◌, nat_le, nat_lt, option_and_then}

-- a digit's number: "0" is 48 and "9" 57; none for any other byte
abbrev pub digit_of : ℕ → Option ℕ
digit_of b = if nat_le 48 b && nat_le b 57 then Some (b - 48) else None

-- n with a digit d put to it; none where that is 0, or n is 1,844,674,407,370,955,160 or more
abbrev pub with_digit : ℕ → ℕ → Option ℕ
with_digit n d = if nat_lt n 1844674407370955160 && nat_lt 0 (n * 10 + d) then Some (n * 10 + d) else None

-- a number with one more digit; none where the byte is none, where there is no number yet and the digit is 0, or where the number is
-- 1,844,674,407,370,955,160 or more
abbrev pub longer_by : ℕ → ℕ → Option ℕ
longer_by n b = option_and_then (with_digit n) (digit_of b)

-- the number that n and the digits behind it spell; none as soon as it is none
unfoldable pub spelled_from : ℕ → List ℕ → Option ℕ
spelled_from n [] = Some n
spelled_from n (b ∷ bs) = option_and_then (λ m. spelled_from m bs) (longer_by n b)

-- the number that a text spells, from 1 to 18,446,744,073,709,551,599; none for any other text, the empty one too
abbrev pub spelled : List ℕ → Option ℕ
spelled [] = None
spelled (b ∷ bs) = spelled_from 0 (b ∷ bs)
