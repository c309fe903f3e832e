-- The layout of a version's row: which bits of its ten words are which field (docs/LAYOUTS.md). One form per version. [T3, V0]
-- Assumes nothing.
use Rattle.std.specs.Prelude.{Bool, true, false, ◌&&◌, List, [], ◌∷◌, ℕ, ◌+◌, ◌*◌, ◌^◌, ◌<◌, eqb, get_or}
use Rattle.octets.specs.Fields.{cut, join}
use Rattle.model.specs.declared.Id.{Id}
use Rattle.model.specs.declared.NewSide.{NewSide}
use Rattle.model.specs.declared.OldSide.{OldSide}
use Rattle.model.specs.declared.Retries.{Retries}
use Rattle.model.specs.declared.Broadcast.{Broadcast}
use Rattle.model.specs.declared.Version.{Version}
use Rattle.words.specs.declared.Words.{Words}
use Rattle.words.specs.Codec.{words_in, bytes_of}

-- TN, number, status, live, new side created, old side created, window run out, within one provider, spare
abbrev pub head_widths : List ℕ
head_widths = 34 ∷ 16 ∷ 4 ∷ 1 ∷ 1 ∷ 1 ∷ 1 ∷ 1 ∷ 5 ∷ []

-- LRN, new and old provider, authorization, cause, canceller, purpose, spare
abbrev pub term_widths : List ℕ
term_widths = 34 ∷ 6 ∷ 6 ∷ 2 ∷ 7 ∷ 2 ∷ 2 ∷ 5 ∷ []

-- new and old due; stamp and broadcast start
abbrev pub pair_widths : List ℕ
pair_widths = 32 ∷ 32 ∷ []

-- a mark is a bit
abbrev pub flag : Bool → ℕ
flag true = 1
flag false = 0

abbrev pub marked : ℕ → Bool
marked n = eqb n 1

-- field i of a word
abbrev pub field : List ℕ → ℕ → ℕ → ℕ
field ws i n = get_or (cut ws n) i 0

-- ---- what the words say

abbrev pub id_of : Words → Id
id_of w = record { tn = record { 0 = field head_widths 0 w.head }; number = field head_widths 1 w.head }

abbrev pub new_of : Words → NewSide
new_of w = record {
  provider = field term_widths 1 w.terms;
  created = marked (field head_widths 4 w.head);
  lrn = record { 0 = field term_widths 0 w.terms };
  due = field pair_widths 0 w.dues;
}

abbrev pub old_of : Words → OldSide
old_of w = record {
  provider = field term_widths 2 w.terms;
  created = marked (field head_widths 5 w.head);
  authorization = field term_widths 3 w.terms;
  cause = field term_widths 4 w.terms;
  due = field pair_widths 1 w.dues;
}

abbrev pub retries_of : Words → Retries
retries_of w = record { low = w.low; mid = w.mid; high = w.high }

abbrev pub cast_of : Words → Broadcast
cast_of w = record {
  purpose = field term_widths 6 w.terms;
  start = field pair_widths 1 w.times;
  confirmed = w.confirmed;
  waiting = w.waiting;
  failed = w.failed;
  retries = retries_of w;
}

unfoldable pub version_of : Words → Version
version_of w = record {
  id = id_of w;
  status = field head_widths 2 w.head;
  stamp = field pair_widths 0 w.times;
  live = marked (field head_widths 3 w.head);
  new = new_of w;
  old = old_of w;
  canceller = field term_widths 5 w.terms;
  window = marked (field head_widths 6 w.head);
  within = marked (field head_widths 7 w.head);
  cast = cast_of w;
}

-- the spare bits are zero
unfoldable pub spareless : Words → Bool
spareless w = eqb (field head_widths 8 w.head) 0 && eqb (field term_widths 7 w.terms) 0

-- ---- the words of a version

abbrev pub head_fields : Version → List ℕ
head_fields v =
    v.id.tn.0 ∷ v.id.number ∷ v.status ∷ flag v.live ∷ flag v.new.created ∷ flag v.old.created ∷ flag v.window
    ∷ flag v.within ∷ 0 ∷ []

abbrev pub term_fields : Version → List ℕ
term_fields v =
    v.new.lrn.0 ∷ v.new.provider ∷ v.old.provider ∷ v.old.authorization ∷ v.old.cause ∷ v.canceller ∷ v.cast.purpose ∷ 0 ∷ []

abbrev pub due_fields : Version → List ℕ
due_fields v = v.new.due ∷ v.old.due ∷ []

abbrev pub time_fields : Version → List ℕ
time_fields v = v.stamp ∷ v.cast.start ∷ []

unfoldable pub words_of : Version → Words
words_of v = record {
  head = join head_widths (head_fields v);
  terms = join term_widths (term_fields v);
  dues = join pair_widths (due_fields v);
  times = join pair_widths (time_fields v);
  confirmed = v.cast.confirmed;
  waiting = v.cast.waiting;
  failed = v.cast.failed;
  low = v.cast.retries.low;
  mid = v.cast.retries.mid;
  high = v.cast.retries.high;
}

-- each field has room in its bits; the others have as many as their type
pub record InBits (v : Version) : Type 0 where
  pub tn : v.id.tn.0 < 17179869184
  pub status : v.status < 16
  pub lrn : v.new.lrn.0 < 17179869184
  pub new : v.new.provider < 64
  pub old : v.old.provider < 64
  pub authorization : v.old.authorization < 4
  pub cause : v.old.cause < 128
  pub canceller : v.canceller < 4
  pub purpose : v.cast.purpose < 4

-- what the bits can hold
pub record Room (v : Version) : Type 0 where
  pub small : InBits v
  pub number : v.id.number < 65536
  pub new_due : v.new.due < 4294967296
  pub old_due : v.old.due < 4294967296
  pub stamp : v.stamp < 4294967296
  pub start : v.cast.start < 4294967296
  pub confirmed : v.cast.confirmed < 2 ^ 64
  pub waiting : v.cast.waiting < 2 ^ 64
  pub failed : v.cast.failed < 2 ^ 64
  pub low : v.cast.retries.low < 2 ^ 64
  pub mid : v.cast.retries.mid < 2 ^ 64
  pub high : v.cast.retries.high < 2 ^ 64

-- ---- a version and its row's bytes

-- a version's place in the table's order: the highest 50 bits of its row [T2]
abbrev pub key_of : Id → ℕ
key_of k = k.tn.0 * 65536 + k.number

unfoldable pub pack : Version → List ℕ
pack v = bytes_of (words_of v)

unfoldable pub unpack : List ℕ → Version
unpack b = version_of (words_in b)
