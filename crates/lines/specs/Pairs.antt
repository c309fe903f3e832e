-- The pass over the split pairs: each version under a pair's second code beside the versions of its TN under the first. [A3.5]
-- Assumes nothing.
use Rattle.std.specs.Prelude.{ℕ, Bool, not, ◌&&◌, ◌||◌, List, eqb}
use Rattle.model.specs.declared.Id.{Id}
use Rattle.model.specs.declared.Version.{Version}
use Rattle.model.specs.Basics.{all, implies}
use Rattle.model.specs.Books.{Split, under_code}
use Rattle.model.specs.Numbers.{code_of}
use Rattle.model.specs.Sound.{is_sending, is_worked, live, sends, worked}
use Rattle.row.specs.Layout.{head_widths, field, marked}
use Rattle.lines.specs.declared.Held.{Held}

-- ---- what a line may have once

abbrev pub held_of : Version → Held
held_of v = record { live = live v; sends = sends v; worked = worked v }

-- the same of a row's first word
unfoldable pub held_in : ℕ → Held
held_in w = record {
  live = marked (field head_widths 3 w);
  sends = is_sending (field head_widths 2 w);
  worked = is_worked (field head_widths 2 w);
}

-- both have one of the three
unfoldable pub meet : Held → Held → Bool
meet a b = (a.live && b.live) || ((a.sends && b.sends) || (a.worked && b.worked))

-- none of the three
unfoldable pub bare : Held → Bool
bare h = not (h.live || (h.sends || h.worked))

-- ---- a version beside the versions of another number

-- the name in the line's other number
abbrev pub name_under : ℕ → Version → Id
name_under c v = record { tn = record { 0 = under_code c v.id.tn.0 }; number = v.id.number }

-- the version has that name
abbrev pub has_name : Id → Version → Bool
has_name k v = eqb v.id.tn.0 k.tn.0 && eqb v.id.number k.number

-- no version has that name
unfoldable pub lacks : Id → List Version → Bool
lacks k t = all (λ (v : Version). not (has_name k v)) t

-- no version is of that number
unfoldable pub none_of : ℕ → List Version → Bool
none_of tn t = all (λ (v : Version). not (eqb v.id.tn.0 tn)) t

-- no version of that number has what h has
unfoldable pub spares : ℕ → Held → List Version → Bool
spares tn h t = all (λ (v : Version). not (eqb v.id.tn.0 tn && meet (held_of v) h)) t

-- w may stand in one line with the versions of its TN under the code c
unfoldable pub fits : ℕ → List Version → Version → Bool
fits c t w = lacks (name_under c w) t && spares (under_code c w.id.tn.0) (held_of w) t

-- ---- a pair, and all pairs

abbrev pub under : ℕ → Version → Bool
under c v = eqb (code_of v.id.tn) c

unfoldable pub none_under : ℕ → List Version → Bool
none_under c t = all (λ (v : Version). not (under c v)) t

unfoldable pub pair_fits : ℕ → ℕ → List Version → Bool
pair_fits c d t = all (λ (w : Version). implies (under d w) (fits c t w)) t

unfoldable pub pairs_fit : List Split → List Version → Bool
pairs_fit xs t = all (λ (x : Split). pair_fits x.one x.other t) xs
