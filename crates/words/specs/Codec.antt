-- A row's bytes as ten words, and the bytes of ten words. [T1, T3]
-- Assumes nothing.
use Rattle.std.specs.Prelude.{Bool, ◌&&◌, List, [], ◌∷◌, ◌++◌, ℕ, ◌+◌, eqb, replicate}
use Rattle.octets.specs.Octets.{be, digits, put}
use Rattle.words.specs.declared.Words.{Words}
use Rattle.words.specs.Size.{ROW}

unfoldable pub words_in : List ℕ → Words
words_in b = record {
  head = be 8 b 0;
  terms = be 8 b 8;
  dues = be 8 b 16;
  times = be 8 b 24;
  confirmed = be 8 b 32;
  waiting = be 8 b 40;
  failed = be 8 b 48;
  low = be 8 b 56;
  mid = be 8 b 64;
  high = be 8 b 72;
}

-- the bytes of words, one after the other
abbrev pub spelt : List ℕ → List ℕ
spelt [] = []
spelt (w ∷ ws) = digits 8 w ++ spelt ws

-- the same, stored one after the other over what is there
abbrev pub stored : List ℕ → ℕ → List ℕ → List ℕ
stored b at [] = b
stored b at (w ∷ ws) = stored (put 8 b at w) (at + 8) ws

abbrev pub first_of : Words → List ℕ
first_of w = w.head ∷ w.terms ∷ w.dues ∷ w.times ∷ w.confirmed ∷ []

abbrev pub last_of : Words → List ℕ
last_of w = w.waiting ∷ w.failed ∷ w.low ∷ w.mid ∷ w.high ∷ []

unfoldable pub bytes_of : Words → List ℕ
bytes_of w = spelt (first_of w ++ last_of w)

-- free rows are all zero [T2]
unfoldable pub is_blank : Words → Bool
is_blank w =
    eqb w.head 0 && eqb w.terms 0 && eqb w.dues 0 && eqb w.times 0 && eqb w.confirmed 0 && eqb w.waiting 0
    && eqb w.failed 0 && eqb w.low 0 && eqb w.mid 0 && eqb w.high 0

abbrev pub no_words : Words
no_words = record {
  head = 0;
  terms = 0;
  dues = 0;
  times = 0;
  confirmed = 0;
  waiting = 0;
  failed = 0;
  low = 0;
  mid = 0;
  high = 0;
}

-- the bytes of a free row
unfoldable pub blank : List ℕ
blank = replicate ROW 0
