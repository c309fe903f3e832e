-- What the calls for C answer, from what the record's reader and writer do.
-- Assumes nothing.
use mathlib.Core.Path.{◌≡◌, refl, sym, ap, ◌∙◌}
use mathlib.Core.Bool.{Bool, true, false, ◌&&◌}
use mathlib.Core.List.{List, ◌++◌, append-nil}
use Prim.Native.Nat.{ℕ, ◌<◌}
use native.Mathlib.Nat.{zero-add, le_of_eq}
use native.Mathlib.Omega.{arith}
use borrow.Author.Tests.{eq-eqb, ne_eqb}
use lib.ListN.{length, drop, drop_of_length-le}
use lib.Seq.{sets, sets-eq}
use lib.Dec.{eqb}
use Rattle.model.specs.declared.Event.{Event}
use borrow.Author.Rules.{rules}
use Rattle.std.specs.Prelude.{⊤, Result, Ok, Err, IsErr}
use Rattle.model.specs.declared.Malformed.{Malformed}
use Rattle.fields.specs.declared.Numbers.{Numbers}
use Rattle.model.specs.Numbers.{ten_digits}
use Rattle.model.specs.Record.{Reading, named, type_fits, kind_fits, fits_bits, well_formed}
use Rattle.packing.specs.Layout.{eleven_of, event_of, told, Written}
use Rattle.packing.proofs.Inverse.{bits_at, said_done}
use Rattle.record.proofs.Codec.{refused_fields}
use Rattle.fields.specs.Calls.{event_in, FIELDS, handed_to, handed_number, Handed, Narrow}

-- ---- reading

-- a list whose every place is stored, from the first
pub set_all : (vs xs : List ℕ) → length xs ≡ length vs → sets xs 0 vs ≡ vs
set_all vs xs h =
    sets-eq vs xs 0 (le_of_eq (zero-add (length vs) ∙ sym h))
    ∙ ap (λ (k : ℕ). vs ++ drop k xs) (zero-add (length vs))
    ∙ ap (λ (l : List ℕ). vs ++ l) (drop_of_length-le xs {i = length vs} (le_of_eq h))
    ∙ append-nil vs

pub handed_refused : (r : Reading) (xs : List ℕ) → (length xs ≡ FIELDS → ⊥) → Handed r xs xs 2
unfolding handed_to handed_number
handed_refused (Ok e) xs n = record { after = simp (ne_eqb (length xs) FIELDS n); said = simp (ne_eqb (length xs) FIELDS n) }
handed_refused (Err m) xs n = record { after = refl; said = refl }

pub handed_record : (r : Reading) (e : Event) (xs ys : List ℕ) → r ≡ Ok e → length xs ≡ FIELDS → ys ≡ eleven_of e → Handed r xs ys 0
unfolding handed_to handed_number
handed_record r e xs ys q h p =
    let eleven : eqb (length xs) FIELDS ≡ true = eq-eqb (length xs) FIELDS h in
    record { after = rw q (simp eleven p); said = rw q (simp eleven) }

told_err : (s : Result ⊤ Malformed) → IsErr s → told s ≡ 2
told_err (Ok u) h = search (rules, h)
told_err (Err m) h = refl

-- an error in between is told on
pub handed_err : (r : Reading) (m : Malformed) (xs : List ℕ) (s : Result ⊤ Malformed) → r ≡ Err m → IsErr s → Handed r xs xs (told s)
unfolding handed_to handed_number
handed_err r m xs s q h = record { after = rw q; said = rw q (told_err s h) }

-- what a reading of a record hands to eleven places
pub handed_is : (r : Reading) (e : Event) (xs ys : List ℕ) (n : ℕ) → r ≡ Ok e → length xs ≡ FIELDS → Handed r xs ys n
    → (ys ≡ eleven_of e) × (n ≡ 0)
unfolding handed_to handed_number
handed_is r e xs ys n q l h =
    (h.after ∙ rw q (simp (eq-eqb (length xs) FIELDS l)), h.said ∙ rw q (simp (eq-eqb (length xs) FIELDS l)))

-- a reading that says 0 was of a record, and handed it over
pub handed_done : (r : Reading) (xs ys : List ℕ) → Handed r xs ys 0 → r ≡ Ok (event_of ys)
unfolding handed_to handed_number
handed_done (Ok e) xs ys h =
    let b : eqb (length xs) FIELDS ≡ true = said_done (eqb (length xs) FIELDS) h.said in
    let p : ys ≡ eleven_of e = h.after ∙ simp b in
    ap (λ (l : List ℕ). Ok (event_of l)) (sym p)
handed_done (Err m) xs ys h = absurd (omega (arith, h.said))

-- ---- writing

-- fields that fit their bits fit their types
pub narrow : (n : Numbers) (b : Bool) → b ≡ fits_bits (event_in n) → b ≡ true → Narrow n
narrow n b q f =
    let at = bits_at (event_in n) (sym q ∙ f) in
    let s : n.sender < 64 = at 1 in
    let o : n.other < 64 = at 2 in
    let m : n.mark < 4 = at 3 in
    let w : n.within < 2 = at 10 in
    record {
      kind_fits = at 0;
      sender_fits = omega arith;
      other_fits = omega arith;
      mark_fits = omega arith;
      cause_fits = at 4;
      version_fits = at 7;
      time_fits = at 8;
      due_fits = at 9;
      within_fits = omega arith;
    }

-- fields too wide for their bits are refused
pub wide_refused : (e : Event) (xs : List ℕ) (b : Bool) → b ≡ fits_bits e → b ≡ false → Written e xs xs 2
unfolding well_formed
wide_refused e xs b q f =
    refused_fields e xs (ap (λ (k : Bool). k && ten_digits e.tn.0 && named e.time && type_fits e && kind_fits e) (sym q ∙ f))
