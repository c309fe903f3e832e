-- The classes of all providers for a TN, as bytes: what is written, and what is answered.
-- Assumes nothing.
use Rattle.std.specs.Prelude.{ℕ, zero, suc, ◌≡◌, Bool, cond, ◌&&◌, List, [], ◌∷◌, ◌++◌, map, eqb, length, is_some}
use Rattle.model.specs.Numbers.{ten_digits, code_of, last_provider}
use Rattle.model.specs.Books.{Books}
use Rattle.model.specs.Selection.{class_of, class_number}
use Rattle.model.specs.declared.Class.{Class}
use Rattle.providers.specs.Providers.{listed, entry_of, marks_in}
use Rattle.books.specs.Packed.{decode_books, sound_bytes}

-- the numbers of the classes of providers 1 to n, in their order
unfoldable pub numbers_of : (ℕ → Class) → ℕ → List ℕ
numbers_of f zero = []
numbers_of f (suc n) = numbers_of f n ++ class_number (f (suc n)) ∷ []

-- the books that provider list and bytes are
abbrev pub books_of : List ℕ → List ℕ → Books
books_of p b = decode_books (marks_in (listed (map entry_of p))) b

-- and whether both are sound
abbrev pub sound_lists : List ℕ → List ℕ → Bool
sound_lists p b = is_some (listed (map entry_of p)) && sound_bytes (marks_in (listed (map entry_of p))) b

-- the numbers of all providers' classes for a TN
abbrev pub classes_for : List ℕ → List ℕ → ℕ → List ℕ
classes_for p b tn = numbers_of (class_of (books_of p b) (code_of (record { 0 = tn }))) last_provider

-- 1 where provider list or books are unsound, else 2 where it is no TN or there are not 63 places, else 0 [O2, A8.1]
unfoldable pub answer_for : List ℕ → List ℕ → ℕ → ℕ → ℕ
answer_for p b tn places = cond (sound_lists p b) (cond (ten_digits tn && eqb places last_provider) 0 2) 1

-- Place n - 1 has the number of provider n's class; where it is refused, all places are as they were. [F4, A8.1]
pub record Classified (p b : List ℕ) (tn : ℕ) (before after : List ℕ) (r : ℕ) : Type 0 where
  pub said : r ≡ answer_for p b tn (length before)
  pub wrote : after ≡ cond (eqb (answer_for p b tn (length before)) 0) (classes_for p b tn) before
