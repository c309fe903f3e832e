-- What it means that bytes are a sound table with these books: they are those of a table that is sound by its lines, and of nothing else.
-- [A3.5]
-- Assumes nothing.
use mathlib.Core.Path.{◌≡◌, refl, ap, ◌∙◌}
use Prim.Native.Nat.{ℕ}
use native.Mathlib.Omega.{arith}
use mathlib.Core.Bool.{Bool, true, false, ◌&&◌}
use mathlib.Core.List.{List}
use lib.Dec.{leb}
use lib.ListN.{length}
use Rattle.model.specs.Sound.{rising, sound_version, sound_lines, sound_table}
use Rattle.model.specs.Basics.{all}
use Rattle.model.proofs.Lists.{and_l, and_r, both_true}
use Rattle.model.proofs.SoundTables.{table_says, says_table, sound_narrow}
use Rattle.model.specs.declared.Version.{Version}
use Rattle.rows.specs.Table.{decode, encode}
use Rattle.scan.specs.Sound.{itself, soundness_of}
use Rattle.std.specs.Prelude.{Option, None, Some}
use Rattle.scan.proofs.Meant.{says_sound}
use Rattle.table.proofs.Steps.{says_again}
use Rattle.lines.specs.Lines.{lined, line_by, soundness_in}

pub sound_no : (n : ℕ) {X : Type 0} → None ≡ Some n → X
sound_no n e = absurd (let z : ◌≡◌ {A = ℕ} 0 1 = cc in omega arith)

-- both the scan and the lines
lined-both : (ok : Bool) (s : Option ℕ) (n : ℕ) → lined ok s ≡ Some n → (s ≡ Some n) × (ok ≡ true)
lined-both ok None n h = sound_no n h
lined-both true (Some m) n h = (h, refl)
lined-both false (Some m) n h = sound_no n h

pub in_scan : (b t : List ℕ) (n : ℕ) → soundness_in b t ≡ Some n → (soundness_of t ≡ Some n) × (sound_lines (line_by b) (decode t) ≡ true)
unfolding soundness_in
in_scan b t n h = lined-both (sound_lines (line_by b) (decode t)) (soundness_of t) n h

pub scan_in : (b t : List ℕ) (n : ℕ) → soundness_of t ≡ Some n → sound_lines (line_by b) (decode t) ≡ true → soundness_in b t ≡ Some n
unfolding soundness_in
scan_in b t n h k = rw (h, k)

pub scan_out : (b t : List ℕ) → soundness_of t ≡ None → soundness_in b t ≡ None
unfolding soundness_in
scan_out b t h = rw h

pub lines_out : (b t : List ℕ) (n : ℕ) → soundness_of t ≡ Some n → sound_lines (line_by b) (decode t) ≡ false → soundness_in b t ≡ None
unfolding soundness_in
lines_out b t n h k = rw (h, k)

-- what no line has to do with
abbrev apart : ℕ → List Version → Bool
apart rows vs = leb rows 4096 && leb (length vs) rows && rising vs && all sound_version vs

-- a table that is sound by its TNs and whose lines are sound is sound by its lines, and the other way round
pub table_lines : (line : ℕ → ℕ) (rows : ℕ) (vs : List Version) → sound_table itself rows vs ≡ true → sound_lines line vs ≡ true
    → sound_table line rows vs ≡ true
unfolding sound_table
table_lines line rows vs h k = both_true (apart rows vs) (sound_lines line vs) (and_l (apart rows vs) (sound_lines itself vs) h) k

pub lines_table : (line : ℕ → ℕ) (rows : ℕ) (vs : List Version) → sound_table line rows vs ≡ true
    → (sound_table itself rows vs ≡ true) × (sound_lines line vs ≡ true)
unfolding sound_table
lines_table line rows vs h =
    (says_table itself rows vs (sound_narrow line rows vs (table_says line rows vs h)), and_r (apart rows vs) (sound_lines line vs) h)

-- of the bytes of a table that is sound by its lines this is said
pub says_sound_in : (b : List ℕ) (vs : List Version) (rows : ℕ) → sound_table (line_by b) rows vs ≡ true
    → soundness_in b (encode vs rows) ≡ Some (length vs)
says_sound_in b vs rows h =
    let k = lines_table (line_by b) rows vs h in
    scan_in b (encode vs rows) (length vs) (says_sound vs rows k.0)
    (ap (sound_lines (line_by b)) (says_again vs rows k.0) ∙ k.1)
