-- Names and books, first part: the numbers of document 01.
-- Assumes nothing.
use Rattle.std.specs.Prelude.{ℕ, ◌/◌, ◌%◌, ◌^◌, Bool, ◌&&◌, eqb, ltb, leb}
use Rattle.model.specs.declared.Tn.{Tn}

-- A TN and an LRN are ten-digit numbers whose first and fourth digits are 2 to 9. [N1]
abbrev pub ten_digits : ℕ → Bool
ten_digits x = leb 2000000000 x && ltb x 10000000000 && leb 2 (x / 1000000 % 10)

-- The code is the first six digits; of an LRN none is asked for. [N2, N3]
abbrev pub code_of : Tn → ℕ
code_of tn = tn.0 / 10000

-- the first six digits of a TN that may be
abbrev pub is_code : ℕ → Bool
is_code c = leb 200000 c && ltb c 1000000 && leb 2 (c / 100 % 10)

-- Providers are 1 to 63. [N4]
abbrev pub last_provider : ℕ
last_provider = 63

abbrev pub is_provider : ℕ → Bool
is_provider p = leb 1 p && leb p last_provider

-- a set of providers, as a 64-bit number
abbrev pub is_set : ℕ → Bool
is_set s = ltb s (2 ^ 64) && eqb (s % 2) 0

-- Times are whole seconds, 1 to 4,294,967,295; 0 marks an absent due date. [N4]
abbrev pub is_time : ℕ → Bool
is_time t = leb 1 t && ltb t (2 ^ 32)

-- Version numbers are 1 to 65,535. [T2]
abbrev pub last_number : ℕ
last_number = 65535

abbrev pub is_number : ℕ → Bool
is_number n = leb 1 n && leb n last_number

-- Causes are 1 to 99. [E3]
abbrev pub last_cause : ℕ
last_cause = 99
