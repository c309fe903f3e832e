-- The record as code takes it: three words of 64 bits, in which the time stands in two parts. That this is the layout of 192 bits is proved
-- in proofs/Spans.
-- Assumes nothing.
use Rattle.std.specs.Prelude.{◌≡◌, List, [], ◌∷◌, ◌++◌, ℕ, ◌+◌, ◌*◌, ◌/◌, ◌%◌, ◌^◌, ◌<◌, get_or, take, drop}
use Rattle.octets.specs.Fields.{cut, join}
use Rattle.model.specs.declared.Event.{Event}
use Rattle.packing.specs.Layout.{event_of}

-- kind, sender, other, authorization or result, cause, TN
abbrev pub first_widths : List ℕ
first_widths = 8 ∷ 6 ∷ 6 ∷ 2 ∷ 8 ∷ 34 ∷ []

-- LRN, version, the time's high part
abbrev pub second_widths : List ℕ
second_widths = 34 ∷ 16 ∷ 14 ∷ []

-- the time's low part, due, version type, spare
abbrev pub third_widths : List ℕ
third_widths = 18 ∷ 32 ∷ 1 ∷ 13 ∷ []

-- the fields of the three words in a row, with the time's two parts as one
abbrev pub whole : List ℕ → List ℕ
whole fs = take 8 fs ++ ((get_or fs 8 0 * 2 ^ 18 + get_or fs 9 0) ∷ drop 10 fs)

abbrev pub event_of_words : ℕ → ℕ → ℕ → Event
event_of_words a b c = event_of (whole ((cut first_widths a ++ cut second_widths b) ++ cut third_widths c))

-- three words as one number
abbrev pub words : ℕ → ℕ → ℕ → ℕ
words a b c = (a * 2 ^ 64 + b) * 2 ^ 64 + c

-- the fields fit their bits, where their types do not say so
pub record Fitted (e : Event) : Type 0 where
  pub sender : e.sender < 64
  pub other : e.other < 64
  pub mark : e.mark < 4
  pub tn : e.tn.0 < 2 ^ 34
  pub lrn : e.lrn.0 < 2 ^ 34
  pub within : e.within < 2

-- the words of an event
pub record Packed (e : Event) (a b c : ℕ) : Type 0 where
  pub first : a ≡ join first_widths (e.kind ∷ e.sender ∷ e.other ∷ e.mark ∷ e.cause ∷ e.tn.0 ∷ [])
  pub second : b ≡ join second_widths (e.lrn.0 ∷ e.version ∷ e.time / 2 ^ 18 ∷ [])
  pub third : c ≡ join third_widths (e.time % 2 ^ 18 ∷ e.due ∷ e.within ∷ 0 ∷ [])
