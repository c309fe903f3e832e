-- What `read` finds and what `write` leaves, by the record's three words.
-- Assumes nothing.
use mathlib.Core.Path.{◌≡◌, refl, sym, ap, ◌∙◌}
use mathlib.Core.Bool.{Bool, true, false, cond, and-false}
use mathlib.Core.List.{List, [], ◌++◌, append-nil}
use Prim.Native.Nat.{ℕ, ◌+◌, ◌*◌, ◌%◌, ◌^◌, ◌<◌}
use native.Mathlib.Omega.{arith}
use borrow.Author.Tests.{eq-eqb, ne_eqb}
use lib.ListN.{length, drop, length-append, length-drop, drop_of_length-le}
use Rattle.octets.specs.Octets.{be, digits, put}
use Rattle.octets.proofs.Laws.{be_add, digits_add, put_after, length_digits}
use Rattle.octets.specs.Fields.{cut}
use Rattle.model.specs.declared.Event.{Event}
use Rattle.std.specs.Prelude.{Ok}
use Rattle.model.specs.Record.{malformed, well_formed}
use Rattle.packing.specs.Layout.{widths, bytes_of, read_fields, read_event, Written}
use Rattle.packing.specs.InWords.{event_of_words, words, Fitted, Packed}
use Rattle.packing.proofs.Spans.{event_in_words, spare_in_words, packed_joined}
use Rattle.packing.proofs.Inverse.{bits_at, formed_bits}

-- ---- reading

pub read_length : (xs : List ℕ) → (length xs ≡ 24 → ⊥) → malformed ≡ read_event xs
unfolding read_event
read_length xs n = simp (ne_eqb (length xs) 24 n)

be-words : (xs : List ℕ) → be 24 xs 0 ≡ words (be 8 xs 0) (be 8 xs 8) (be 8 xs 16)
be-words xs = be_add xs 16 8 0 ∙ ap (λ (k : ℕ). k * 2 ^ 64 + be 8 xs 16) (be_add xs 8 8 0)

module _ (xs : List ℕ) (a b c : ℕ) (h : length xs ≡ 24) (p : a ≡ be 8 xs 0) (q : b ≡ be 8 xs 8) (r : c ≡ be 8 xs 16) where
  read_words : read_event xs ≡ read_fields (cut widths (words a b c))
  unfolding read_event
  read_words = simp (eq-eqb (length xs) 24 h) (ap (λ (n : ℕ). read_fields (cut widths n)) (be-words xs ∙ rw (p, q, r)))

  pub read_spare : b < 2 ^ 64 → c < 2 ^ 64 → (c % 2 ^ 13 ≡ 0 → ⊥) → malformed ≡ read_event xs
  unfolding read_fields
  read_spare hb hc n = rw (read_words, spare_in_words a b c hb hc, ne_eqb (c % 2 ^ 13) 0 n)

  pub read_fields_lem : b < 2 ^ 64 → c < 2 ^ 64 → (e : Event) (w : Bool) → e ≡ event_of_words a b c → w ≡ well_formed e → c % 2 ^ 13 ≡ 0
      → cond w (Ok e) malformed ≡ read_event xs
  unfolding read_fields
  read_fields_lem hb hc e w s t z = rw (read_words, spare_in_words a b c hb hc, z, event_in_words a b c hb hc, ← s, ← t)

-- ---- writing

pub fitted : (e : Event) → well_formed e ≡ true → Fitted e
fitted e w =
    let at = bits_at e (formed_bits e w) in
    record { sender = at 1; other = at 2; mark = at 3; tn = at 5; lrn = at 6; within = at 10 }

-- three stores fill the 24 bytes
stores : (xs : List ℕ) (a b c : ℕ) → length xs ≡ 24 → b < 2 ^ 64 → c < 2 ^ 64
    → put 8 (put 8 (put 8 xs 0 a) 8 b) 16 c ≡ digits 24 (words a b c)
stores xs a b c h hb hc =
    let d : ℕ → List ℕ = digits 8 in
    let z : drop 8 (drop 8 (drop 8 xs)) ≡ [] = drop_of_length-le (drop 8 (drop 8 xs)) {i = 8} (simp length-drop (omega arith)) in
    ap (λ (l : List ℕ). put 8 (put 8 l 8 b) 16 c) (put_after [] xs 8 0 a refl)
    ∙ ap (λ (l : List ℕ). put 8 l 16 c) (put_after (d a) (drop 8 xs) 8 8 b (length_digits 8 a))
    ∙ put_after (d a ++ d b) (drop 8 (drop 8 xs)) 8 16 c
    (length-append (d a) (d b) ∙ ap (λ (k : ℕ). k + length (d b)) (length_digits 8 a) ∙ ap (λ (k : ℕ). 8 + k) (length_digits 8 b))
    ∙ ap (λ (l : List ℕ). d a ++ d b ++ d c ++ l) z
    ∙ append-nil (d a ++ d b ++ d c)
    ∙ ap (λ (l : List ℕ). l ++ d c) (sym (digits_add 8 8 a b hb))
    ∙ sym (digits_add 16 8 (a * 2 ^ 64 + b) c hc)

pub written : (e : Event) (xs ys zs us : List ℕ) (a b c : ℕ) → length xs ≡ 24 → well_formed e ≡ true → Packed e a b c
    → b < 2 ^ 64 → c < 2 ^ 64
    → ys ≡ put 8 xs 0 a → zs ≡ put 8 ys 8 b → us ≡ put 8 zs 16 c → Written e xs us 0
unfolding bytes_of
written e xs ys zs us a b c h w j hb hc s1 s2 s3 =
    record {
      after = simp (eq-eqb (length xs) 24 h, w) (rw (s3, s2, s1, ← packed_joined e a b c j) (stores xs a b c h hb hc));
      said = simp (eq-eqb (length xs) 24 h, w);
    }

pub refused_length : (e : Event) (xs : List ℕ) → (length xs ≡ 24 → ⊥) → Written e xs xs 2
refused_length e xs n = record { after = simp (ne_eqb (length xs) 24 n); said = simp (ne_eqb (length xs) 24 n) }

pub refused_fields : (e : Event) (xs : List ℕ) → well_formed e ≡ false → Written e xs xs 2
refused_fields e xs f = record { after = simp (f, and-false); said = simp (f, and-false) }
