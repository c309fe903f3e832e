-- Words that the definitions use: choices, and lists by a test.
-- Assumes nothing.
use Rattle.std.specs.Prelude.{ℕ, zero, suc, max, Bool, true, false, cond, ◌&&◌, ◌||◌, List, [], ◌∷◌, eqb}
use Rattle.std.proofs.Math.Option.{Option, none as nothing, some}

-- both or neither
abbrev pub iff : Bool → Bool → Bool
iff true b = b
iff false true = false
iff false false = true

-- the second, where the first holds
abbrev pub implies : Bool → Bool → Bool
implies true b = b
implies false b = true

abbrev pub any : {A : Type 0} → (A → Bool) → List A → Bool
any p [] = false
any p (x ∷ xs) = p x || any p xs

abbrev pub all : {A : Type 0} → (A → Bool) → List A → Bool
all p [] = true
all p (x ∷ xs) = p x && all p xs

-- those that pass the test
abbrev pub keep {ℓ} : {A : Type ℓ} → (A → Bool) → List A → List A
keep p [] = []
keep p (x ∷ xs) = cond (p x) (x ∷ keep p xs) (keep p xs)

-- the first that passes the test
abbrev pub first : {A : Type 0} → (A → Bool) → List A → Option A
first p [] = nothing
first p (x ∷ xs) = cond (p x) (some x) (first p xs)

-- the largest value, or 0
abbrev pub largest : {A : Type 0} → (A → ℕ) → List A → ℕ
largest f [] = 0
largest f (x ∷ xs) = max (f x) (largest f xs)

abbrev pub among : ℕ → List ℕ → Bool
among k l = any (eqb k) l

-- the test holds of each of 1 to n
unfoldable pub every : (ℕ → Bool) → ℕ → Bool
every f zero = true
every f (suc n) = every f n && f (suc n)

-- the test holds of what is there
abbrev pub holds : {A : Type 0} → Option A → (A → Bool) → Bool
holds nothing p = false
holds (some x) p = p x

abbrev pub is_none : {A : Type 0} → Option A → Bool
is_none nothing = true
is_none (some x) = false

-- each member has the property
pub data All {A : Type 0} (P : A → Type 0) : List A → Type 0 where
  none : All P []
  with : {x : A} {xs : List A} → P x → All P xs → All P (x ∷ xs)
