-- What the checks answer: the outcome that a step would begin with.
-- Assumes nothing.
use Rattle.std.specs.Prelude.{Bool, cond, ◌&&◌, List, map, ℕ, leb, Option, None, Some, is_some}
use Rattle.model.specs.Books.{sound_retries}
use Rattle.model.specs.Step.{PLACES}
use Rattle.providers.specs.Providers.{listed, entry_of, marks_in}
use Rattle.model.specs.declared.Marks.{Marks}
use Rattle.books.specs.Packed.{sound_bytes}
use Rattle.lines.specs.Lines.{soundness_in}
use Rattle.outcomes.specs.declared.Answer.{Answer}

-- the provider list and the books are sound
abbrev pub books_fit : Option Marks → List ℕ → Bool
books_fit l b = is_some l && sound_bytes (marks_in l) b

-- What a table is with the provider list and the books that it is lent with: unsound where one of the three is. [O2, A3.5]
unfoldable pub soundness_lent : Option Marks → List ℕ → List ℕ → Option ℕ
soundness_lent l b t = cond (books_fit l b) (soundness_in b t) None

-- R is 0 to 7, and the tray has its places
abbrev pub fitting : ℕ → ℕ → Bool
fitting most places = sound_retries most && leb PLACES places

-- outcome 0 and the used rows, or outcome 1 [T2, O2]
abbrev pub checked_table : Option ℕ → Answer
checked_table None = record { outcome = 1; count = 0 }
checked_table (Some n) = record { outcome = 0; count = n }

-- 0 where provider list and books are sound, or 1 [B1 to B4, O2]
unfoldable pub checked_books : List ℕ → List ℕ → ℕ
checked_books p b = cond (is_some (listed (map entry_of p)) && sound_bytes (marks_in (listed (map entry_of p))) b) 0 1
