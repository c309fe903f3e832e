-- One pass over providers and filters: what each turn leaves to the next. How many looks there have been stands beside it, in the loops'
-- own invariants: at most the places passed and the providers served; within a turn one fewer, since it has not stopped yet.
-- Assumes nothing.
use Prim.Native.Nat.{ℕ, ◌+◌, ◌*◌, ◌^◌, ◌≤◌, ◌<◌}
use mathlib.Core.Path.{◌≡◌, refl, sym, ap, ap₂, ◌∙◌}
use mathlib.Core.Bool.{Bool, true, false, not, ◌&&◌, false≢true, and_self}
use mathlib.Core.List.{List}
use mathlib.Core.Logic.{◌⊎◌, inl, inr}
use native.Mathlib.Omega.{arith}
use borrow.Author.Tests.{ltb-true, ltb-false, eqb-true, eqb-false}
use lib.Dec.{eqb, ltb}
use lib.ListN.{length, length-map}
use Rattle.systems.specs.Set.{member, mask_of}
use Rattle.model.specs.Basics.{among}
use Rattle.model.specs.Books.{partner_of}
use Rattle.model.specs.Selection.{skipped, selects}
use Rattle.model.specs.declared.Marks.{Marks}
use Rattle.books.specs.Packed.{filter_place, row_places, filter_of, filters_of, decode_books, sound_bytes}
use Rattle.books.proofs.Given.{sound_marks_lem}
use Rattle.selection.proofs.Places.{filter_number, places_from, ToCome, come_start, come_up, come_next, come_found, come_past}
use Rattle.selection.specs.Pass.{smaller_of, larger_of, comes_before}
use Rattle.selection.proofs.Selects.{smaller-le, not_run, is_skipped, is_selected_lem, skipped_places}
use Rattle.selection.proofs.Selects.{skip_step, take_step}

-- Providers 1 to p have had their turn: the set of the selected, and all places of later providers are to come.
pub record Served (m : Marks) (bs : List ℕ) (c p set i : ℕ) : Type 0 where
  pub most : p ≤ 63
  pub chosen : set ≡ mask_of (selects (decode_books m bs) c) p
  pub come : ToCome bs ((p + 1) * 2 ^ 20) i

-- Provider p has its turn: it is skipped if the wanted place and the last one are there.
pub record Seeks (m : Marks) (bs : List ℕ) (c p until i wanted : ℕ) : Type 0 where
  pub nonzero : 0 < wanted
  pub upto : wanted ≤ until
  pub come : ToCome bs wanted i
  pub both : skipped (decode_books m bs) c p ≡ (among wanted (places_from bs 0) && among until (places_from bs 0))

pub serve_start : (m : Marks) (bs : List ℕ) (c : ℕ) → sound_bytes m bs ≡ true → Served m bs c 0 0 0
unfolding mask_of
serve_start m bs c e = record { most = omega arith; chosen = refl; come = come_start m bs e ((0 + 1) * 2 ^ 20) }

-- all have had theirs: the list was read once
pub serve_looks : {m : Marks} {bs : List ℕ} {c p set looks i : ℕ} → looks ≤ i + p → Served m bs c p set i
    → looks ≤ length (filters_of bs) + 63
serve_looks {bs = bs} {p = p} {i = i} o s =
    let k : p ≤ 63 = s.most in
    let u : i + length (places_from bs i) ≡ length (places_from bs 0) = s.come.used in
    let n : length (filters_of bs) ≡ length (places_from bs 0) = length-map (places_from bs 0) filter_of in
    omega arith

-- ---- a turn begins

module _ {m : Marks} {bs : List ℕ} {c p set i : ℕ} (s : Served m bs c p set i) (k : p < 63) where
  -- the provider runs no Local SMS
  pub serve_none : member m.local (p + 1) ≡ false → Served m bs c (p + 1) set i
  serve_none r = record {
    most = omega arith;
    chosen = skip_step (selects (decode_books m bs) c) p set s.chosen (not_run (decode_books m bs) c (p + 1) r);
    come = come_up bs ((p + 1) * 2 ^ 20) ((p + 1 + 1) * 2 ^ 20) i (omega arith) s.come;
  }

  -- it seeks the smaller of the two codes first
  pub seek_start : (q : ℕ) → q ≡ partner_of (decode_books m bs) c → larger_of c q < 2 ^ 20
      → Seeks m bs c (p + 1) (filter_number (p + 1) (larger_of c q)) i (filter_number (p + 1) (smaller_of c q))
  seek_start q hq h =
      let l : smaller_of c q ≤ larger_of c q = smaller-le c q in
      record {
        nonzero = omega arith;
        upto = omega arith;
        come = come_up bs ((p + 1) * 2 ^ 20) (filter_number (p + 1) (smaller_of c q)) i (omega arith) s.come;
        both = skipped_places m bs c (p + 1) q hq h;
      }

-- ---- a look at place i finds x

module _ {m : Marks} {bs : List ℕ} {c p until i wanted x : ℕ}
    (h : i < row_places) (hx : x ≡ filter_place bs i) (s : Seeks m bs c p until i wanted) where
  -- a place before the wanted one: on to the next
  pub seek_next : (r : Bool) → r ≡ comes_before x wanted → r ≡ true → Seeks m bs c p until (i + 1) wanted
  seek_next r hr t = go (eqb x 0) refl (sym hr ∙ t)
    where
      go : (b : Bool) → eqb x 0 ≡ b → (not b && ltb x wanted) ≡ true → Seeks m bs c p until (i + 1) wanted
      go true e f = absurd (false≢true f)
      go false e f = record {
        nonzero = s.nonzero;
        upto = s.upto;
        come = come_next bs wanted i x h hx s.come (eqb-false x 0 e) wanted (omega arith) (ltb-true x wanted f);
        both = s.both;
      }

  found : x ≡ wanted → among wanted (places_from bs 0) ≡ true
  found q = let z : 0 < wanted = s.nonzero in come_found bs wanted i x h hx s.come q (λ e. omega arith)

  -- the wanted one, and not yet the last: that one is wanted now
  pub seek_last : x ≡ wanted → (wanted ≡ until → ⊥) → Seeks m bs c p until (i + 1) until
  seek_last q n =
      let z : 0 < wanted = s.nonzero in
      let u : wanted ≤ until = s.upto in
      record {
        nonzero = omega arith;
        upto = omega arith;
        come = come_next bs wanted i x h hx s.come (λ e. omega arith) until (omega arith) (omega arith);
        both = s.both ∙ ap (λ (b : Bool). b && among until (places_from bs 0)) (found q) ∙ sym (and_self (among until (places_from bs 0)));
      }

  -- the last one: the provider is skipped
  pub seek_found : x ≡ wanted → wanted ≡ until → skipped (decode_books m bs) c p ≡ true
  seek_found q n = s.both ∙ ap₂ (λ (a b : Bool). a && b) (found q) (ap (λ (k : ℕ). among k (places_from bs 0)) (sym n) ∙ found q)

  -- neither: the wanted one is not there
  pub seek_past : (r : Bool) → r ≡ comes_before x wanted → r ≡ false → (x ≡ wanted → ⊥)
      → among wanted (places_from bs 0) ≡ false
  seek_past r hr f n = come_past bs wanted i x h hx s.come (go (eqb x 0) refl (sym hr ∙ f))
    where
      go : (b : Bool) → eqb x 0 ≡ b → (not b && ltb x wanted) ≡ false → (x ≡ 0) ⊎ (wanted < x)
      go true e g = inl (eqb-true x 0 e)
      go false e g = inr (let l : wanted ≤ x = ltb-false x wanted g in omega arith)

-- ---- a turn ends

module _ {m : Marks} {bs : List ℕ} {c p set from : ℕ} (w : Served m bs c p set from) (k : p < 63)
    {until i wanted : ℕ} (hu : until < (p + 1 + 1) * 2 ^ 20) (s : Seeks m bs c (p + 1) until i wanted) where
  serve : (now : ℕ) → now ≡ mask_of (selects (decode_books m bs) c) (p + 1) → Served m bs c (p + 1) now i
  serve now e =
      let u : wanted ≤ until = s.upto in
      record {
        most = omega arith;
        chosen = e;
        come = come_up bs wanted ((p + 1 + 1) * 2 ^ 20) i (omega arith) s.come;
      }

  -- it is skipped
  pub serve_skipped : skipped (decode_books m bs) c (p + 1) ≡ true → Served m bs c (p + 1) set i
  serve_skipped e =
      serve set (skip_step (selects (decode_books m bs) c) p set w.chosen (is_skipped (decode_books m bs) c (p + 1) e))

  -- the wanted place is not there: it is selected
  pub serve_selected : sound_bytes m bs ≡ true → member m.local (p + 1) ≡ true → among wanted (places_from bs 0) ≡ false
      → (b : ℕ) → b ≡ 2 ^ (p + 1) → Served m bs c (p + 1) (set + b) i
  serve_selected e r f b hb =
      let out : skipped (decode_books m bs) c (p + 1) ≡ false = s.both ∙ ap (λ (a : Bool). a && among until (places_from bs 0)) f in
      serve (set + b)
      (take_step (selects (decode_books m bs) c) p set b w.chosen
      (is_selected_lem (decode_books m bs) c (p + 1) (sound_marks_lem m bs e) (omega arith) (omega arith) r out) hb)
