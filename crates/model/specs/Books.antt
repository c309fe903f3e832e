-- Names and books, second part: the books, lent and only read. [B6]
-- Assumes nothing.
use Rattle.std.specs.Prelude.{ℕ, ◌+◌, ◌*◌, ◌/◌, ◌%◌, Bool, true, cond, not, ◌&&◌, ◌||◌, List, [], ◌∷◌, eqb, ltb, leb, length}
use Rattle.systems.specs.Set.{member}
use Rattle.model.specs.Basics.{any, all, every, implies}
use Rattle.model.specs.Numbers.{is_code, is_provider, is_set, last_provider}
use Rattle.model.specs.declared.Marks.{Marks}

-- a code and its owner
pub record Owned : Type 0 where
  pub code : ℕ
  pub owner : ℕ

-- a provider and a code that it filters
pub record Filter : Type 0 where
  pub provider : ℕ
  pub code : ℕ

-- two codes of a split
pub record Split : Type 0 where
  pub one : ℕ
  pub other : ℕ

pub record Books : Type 0 where
  pub marks : Marks
  pub codes : List Owned
  pub filters : List Filter
  pub splits : List Split

-- ---- reading the books

-- the provider is present
abbrev pub present : Books → ℕ → Bool
present bk p = member bk.marks.present p

-- the provider runs a Local SMS
abbrev pub runs : Books → ℕ → Bool
runs bk p = member bk.marks.local p

-- the owner of a code, or 0 where it is not listed
abbrev pub owner_in : ℕ → List Owned → ℕ
owner_in c [] = 0
owner_in c (x ∷ xs) = cond (eqb x.code c) x.owner (owner_in c xs)

unfoldable pub owner_of : Books → ℕ → ℕ
owner_of bk c = owner_in c bk.codes

-- the other code of the split pair that a code stands in, or 0
abbrev pub partner_in : ℕ → List Split → ℕ
partner_in c [] = 0
partner_in c (x ∷ xs) = cond (eqb x.one c) x.other (cond (eqb x.other c) x.one (partner_in c xs))

unfoldable pub partner_of : Books → ℕ → ℕ
partner_of bk c = partner_in c bk.splits

-- one of the provider's filters names the code
abbrev pub filters_in : ℕ → ℕ → List Filter → Bool
filters_in p c xs = any (λ (x : Filter). eqb x.provider p && eqb x.code c) xs

unfoldable pub filters : Books → ℕ → ℕ → Bool
filters bk p c = filters_in p c bk.filters

-- The TN under another code: the last four digits stay.
abbrev pub under_code : ℕ → ℕ → ℕ
under_code c tn = c * 10000 + tn % 10000

abbrev pub smaller : ℕ → ℕ → ℕ
smaller a b = cond (leb a b) a b

-- Two TNs that differ only by the two codes of a split pair name one line: the line of a TN is the TN, or in a pair the TN under the
-- smaller code. [A3.1]
unfoldable pub line_in : List Split → ℕ → ℕ
line_in xs tn =
    cond (eqb (partner_in (tn / 10000) xs) 0) tn (under_code (smaller (tn / 10000) (partner_in (tn / 10000) xs)) tn)

abbrev pub line_of : Books → ℕ → ℕ
line_of bk tn = line_in bk.splits tn

-- ---- sound books

-- "runs a Local SMS" only with "present" [B1]
unfoldable pub sound_marks : Marks → Bool
sound_marks m =
    is_set m.present && is_set m.local && every (λ (p : ℕ). implies (member m.local p) (member m.present p)) last_provider

-- the most codes, filters and pairs
abbrev pub most_codes : ℕ
most_codes = 1024

abbrev pub most_filters : ℕ
most_filters = 1024

abbrev pub most_pairs : ℕ
most_pairs = 64

-- the codes stand strictly above c
abbrev pub codes_above : ℕ → List Owned → Bool
codes_above c [] = true
codes_above c (x ∷ xs) = ltb c x.code && codes_above x.code xs

-- Code list: at most 1,024, strictly rising, each owned by a present provider. [B2]
unfoldable pub sound_codes : Marks → List Owned → Bool
sound_codes m xs =
    leb (length xs) most_codes && codes_above 0 xs
    && all (λ (x : Owned). is_code x.code && is_provider x.owner && member m.present x.owner) xs

-- the filters stand strictly above (p, c), by provider and then code
abbrev pub filters_above : ℕ → ℕ → List Filter → Bool
filters_above p c [] = true
filters_above p c (x ∷ xs) =
    (ltb p x.provider || (eqb p x.provider && ltb c x.code)) && filters_above x.provider x.code xs

-- Filter list: at most 1,024 pairs (present provider, code), strictly rising. [B3]
unfoldable pub sound_filters : Marks → List Filter → Bool
sound_filters m xs =
    leb (length xs) most_filters && filters_above 0 0 xs
    && all (λ (x : Filter). is_provider x.provider && member m.present x.provider && is_code x.code) xs

-- the code stands in no pair
abbrev pub unsplit : ℕ → List Split → Bool
unsplit c xs = all (λ (x : Split). not (eqb x.one c) && not (eqb x.other c)) xs

abbrev pub split_once : List Split → Bool
split_once [] = true
split_once (x ∷ xs) = not (eqb x.one x.other) && unsplit x.one xs && unsplit x.other xs && split_once xs

-- Split list: at most 64 pairs of codes, no code twice. [B4]
unfoldable pub sound_splits : List Split → Bool
sound_splits xs = leb (length xs) most_pairs && split_once xs && all (λ (x : Split). is_code x.one && is_code x.other) xs

unfoldable pub sound_books : Books → Bool
sound_books bk =
    sound_marks bk.marks && sound_codes bk.marks bk.codes && sound_filters bk.marks bk.filters && sound_splits bk.splits

-- Retry number R, 0 to 7. [B5]
abbrev pub most_retries : ℕ
most_retries = 7

abbrev pub sound_retries : ℕ → Bool
sound_retries most = leb most most_retries
