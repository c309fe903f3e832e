-- Reading and writing as definitions undo each other, step by step.
-- Assumes nothing.
use mathlib.Core.Path.{◌≡◌, refl, sym, ap, ◌∙◌}
use mathlib.Core.Bool.{Bool, true, false, cond, ◌&&◌, and_assoc, and-true}
use mathlib.Core.List.{List, [], append-nil}
use Prim.Native.Nat.{ℕ, ◌^◌, ◌<◌}
use native.Mathlib.Nat.{mod-eq_of_lt, le_of_eq}
use native.Mathlib.Omega.{arith}
use borrow.Author.Tests.{eq-eqb, eqb-true}
use lib.ListN.{length, get_or}
use lib.Seq.{take_all}
use lib.Dec.{eqb}
use Rattle.octets.specs.Octets.{Bytes, be, digits}
use Rattle.octets.proofs.Laws.{be_lt, be-digits, digits-be, length_digits}
use Rattle.octets.specs.Fields.{cut, join, fit}
use Rattle.octets.proofs.Fields.{fit_at, and_l, and_r, join_lt, join-cut, cut-join}
use Rattle.model.specs.declared.Event.{Event}
use Rattle.std.specs.Prelude.{Ok}
use Rattle.model.specs.Numbers.{ten_digits}
use Rattle.model.specs.Record.{Reading, malformed, named, type_fits, kind_fits, fits_bits, well_formed}
use Rattle.packing.specs.Layout.{widths, fields_of, event_of, bytes_of, read_fields, read_event}

-- the model's bits are the layout's widths
bits_widths : (e : Event) → fits_bits e ≡ fit widths (fields_of e)
unfolding fits_bits
bits_widths e = simp (and_assoc, and-true)

pub bits_at : (e : Event) → fits_bits e ≡ true → (i : ℕ) → get_or (fields_of e) i 0 < 2 ^ get_or widths i 0
bits_at e f = fit_at widths (fields_of e) (sym (bits_widths e) ∙ f)

pub formed_bits : (e : Event) → well_formed e ≡ true → fits_bits e ≡ true
unfolding well_formed
formed_bits e w =
    let f : Bool = fits_bits e in
    let n : Bool = ten_digits e.tn.0 in
    let t : Bool = named e.time in
    let y : Bool = type_fits e in
    and_l f n (and_l (f && n) t (and_l (f && n && t) y (and_l (f && n && t && y) (kind_fits e) w)))

-- ---- answers

pub said_done : (b : Bool) → ◌≡◌ {A = ℕ} 0 (cond b 0 2) → b ≡ true
said_done true q = refl
said_done false q = absurd (omega arith)

record_malformed : (e : Event) → malformed ≡ Ok e → ⊥
record_malformed e q = cc

answers_record : (b : Bool) (r : Reading) (e : Event) → cond b r malformed ≡ Ok e → (b ≡ true) × (r ≡ Ok e)
answers_record true r e q = (refl, q)
answers_record false r e q = absurd (record_malformed e q)

pub record_one : (a b : Event) → ◌≡◌ {A = Reading} (Ok a) (Ok b) → a ≡ b
record_one a b q = cc

-- ---- write, then read

read_whole : (xs : List ℕ) → length xs ≡ 24 → read_event xs ≡ read_fields (cut widths (be 24 xs 0))
unfolding read_event
read_whole xs h = simp (eq-eqb (length xs) 24 h)

read_formed : (e : Event) → well_formed e ≡ true → read_fields (fields_of e) ≡ Ok e
unfolding read_fields
read_formed e w = ap (λ (b : Bool). cond b (Ok e) malformed) w

pub read_written : (e : Event) → well_formed e ≡ true → read_event (bytes_of e) ≡ Ok e
unfolding bytes_of
read_written e w =
    let fs : List ℕ = fields_of e in
    let v : ℕ = join widths fs in
    let f : fit widths fs ≡ true = sym (bits_widths e) ∙ formed_bits e w in
    read_whole (digits 24 v) (length_digits 24 v)
    ∙ ap (λ (n : ℕ). read_fields (cut widths n))
    (ap (λ (l : List ℕ). be 24 l 0) (sym (append-nil (digits 24 v))) ∙ be-digits 24 v [] [] ∙ mod-eq_of_lt (join_lt widths fs f))
    ∙ ap read_fields (cut-join widths fs f)
    ∙ read_formed e w

-- ---- read, then write

pub bytes_are : (xs : List ℕ) (e : Event) → read_event xs ≡ Ok e → (length xs ≡ 24) × (read_fields (cut widths (be 24 xs 0)) ≡ Ok e)
unfolding read_event
bytes_are xs e q =
    let t = answers_record (eqb (length xs) 24) (read_fields (cut widths (be 24 xs 0))) e q in
    (eqb-true (length xs) 24 t.0, t.1)

pub fields_are : (fs : List ℕ) (e : Event) → read_fields fs ≡ Ok e → (get_or fs 11 0 ≡ 0) × (well_formed e ≡ true) × (event_of fs ≡ e)
unfolding read_fields
fields_are fs e q =
    let s : Bool = eqb (get_or fs 11 0) 0 in
    let w : Bool = well_formed (event_of fs) in
    let t = answers_record (s && w) (Ok (event_of fs)) e q in
    let i : event_of fs ≡ e = record_one (event_of fs) e t.1 in
    (eqb-true (get_or fs 11 0) 0 (and_l s w t.0), ap well_formed (sym i) ∙ and_r s w t.0, i)

-- the fields of a number whose spare bits are zero
fields_back : (n : ℕ) → get_or (cut widths n) 11 0 ≡ 0 → fields_of (event_of (cut widths n)) ≡ cut widths n
fields_back n z = rw z

bytes_back : (n : ℕ) → n < 2 ^ 192 → get_or (cut widths n) 11 0 ≡ 0 → bytes_of (event_of (cut widths n)) ≡ digits 24 n
unfolding bytes_of
bytes_back n h z = ap (λ (l : List ℕ). digits 24 (join widths l)) (fields_back n z) ∙ ap (digits 24) (join-cut widths n ∙ mod-eq_of_lt h)

pub written_read : (xs : List ℕ) → Bytes xs → (e : Event) → read_event xs ≡ Ok e → bytes_of e ≡ xs
written_read xs h e q =
    let n : ℕ = be 24 xs 0 in
    let a = bytes_are xs e q in
    let b = fields_are (cut widths n) e a.1 in
    ap bytes_of (sym b.2)
    ∙ bytes_back n (be_lt xs h 24 0) b.0
    ∙ digits-be xs h 24 0 (le_of_eq (sym a.0))
    ∙ take_all 24 xs (le_of_eq a.0)
