-- Messages as bytes (docs/LAYOUTS.md), and the tray. [Y1, Y8]
-- Assumes nothing.
use Rattle.std.specs.Prelude.{ℕ, zero, suc, ◌+◌, ◌*◌, ◌/◌, ◌^◌, ◌<◌, ◌≡◌, cond, List, [], ◌∷◌, ◌++◌, eqb, length, get_or, take, drop}
use Rattle.octets.specs.Octets.{be, digits}
use Rattle.octets.specs.Fields.{cut, join}
use Rattle.model.specs.declared.Message.{Message}

-- ---- a message: three words

-- TN, version number, status, provider, sort
abbrev pub head_widths : List ℕ
head_widths = 34 ∷ 16 ∷ 4 ∷ 6 ∷ 4 ∷ []

-- LRN, Local SMS, spare
abbrev pub tail_widths : List ℕ
tail_widths = 34 ∷ 1 ∷ 29 ∷ []

abbrev pub head_fields : Message → List ℕ
head_fields m = m.id.tn.0 ∷ m.id.number ∷ m.status ∷ m.provider ∷ m.sort ∷ []

abbrev pub tail_fields : Message → List ℕ
tail_fields m = m.lrn.0 ∷ cond m.local 1 0 ∷ 0 ∷ []

abbrev pub head_of : Message → ℕ
head_of m = join head_widths (head_fields m)

abbrev pub tail_of : Message → ℕ
tail_of m = join tail_widths (tail_fields m)

-- the fields fit their widths (those that the message's own types leave open)
pub record Small (m : Message) : Type 0 where
  pub tn : m.id.tn.0 < 2 ^ 34
  pub status : m.status < 16
  pub provider : m.provider < 64
  pub sort : m.sort < 16
  pub lrn : m.lrn.0 < 2 ^ 34

-- every field of the message has room in its bits
pub record Fits (m : Message) : Type 0 where
  pub small : Small m
  pub number : m.id.number < 2 ^ 16
  pub failed : m.failed < 2 ^ 64

-- the message with these fields
abbrev pub message_with : List ℕ → List ℕ → ℕ → Message
message_with hs ts failed = record {
  local = eqb (get_or ts 1 0) 1;
  provider = get_or hs 3 0;
  sort = get_or hs 4 0;
  id = record { tn = record { 0 = get_or hs 0 0 }; number = get_or hs 1 0 };
  status = get_or hs 2 0;
  failed = failed;
  lrn = record { 0 = get_or ts 0 0 };
}

-- the message that three words are
abbrev pub message_of : ℕ → ℕ → ℕ → Message
message_of head tail failed = message_with (cut head_widths head) (cut tail_widths tail) failed

-- ---- bytes

abbrev pub message_size : ℕ
message_size = 24

-- a message's bytes [Y1]
unfoldable pub message_bytes : Message → List ℕ
message_bytes m = digits 8 (head_of m) ++ digits 8 (tail_of m) ++ digits 8 m.failed

-- the message at an offset
abbrev pub message_from : List ℕ → ℕ → Message
message_from bs at = message_of (be 8 bs at) (be 8 bs (at + 8)) (be 8 bs (at + 16))

unfoldable pub read_message : List ℕ → Message
read_message bs = message_from bs 0

-- ---- the tray

-- how many whole places; a tail shorter than a place is no place
abbrev pub places_in : List ℕ → ℕ
places_in t = length t / message_size

-- the tray with a message at a place, and all else as it was
unfoldable pub put_message : List ℕ → ℕ → Message → List ℕ
put_message t place m = take (message_size * place) t ++ message_bytes m ++ drop (message_size * place + message_size) t

-- the tray with messages in order from a place on
unfoldable pub put_all : List ℕ → ℕ → List Message → List ℕ
put_all t place [] = t
put_all t place (m ∷ ms) = put_all (put_message t place m) (suc place) ms

unfoldable pub all_bytes : List Message → List ℕ
all_bytes [] = []
all_bytes (m ∷ ms) = message_bytes m ++ all_bytes ms

-- The first n places hold the messages, the rest stays. [Y8]
unfoldable pub tray_after : List Message → List ℕ → List ℕ
tray_after ms t = all_bytes ms ++ drop (message_size * length ms) t

-- the messages that so many places hold, from a place on
unfoldable pub read_places : List ℕ → ℕ → ℕ → List Message
read_places t place zero = []
read_places t place (suc n) = message_from t (message_size * place) ∷ read_places t (suc place) n

-- what putting messages leaves: they stand in the tray from a place on, and so many there are
pub record Told (ms : List Message) (at : ℕ) (t after : List ℕ) (r : ℕ) : Type 0 where
  pub tray : after ≡ put_all t at ms
  pub said : r ≡ length ms
