-- The numbers of the classes, place by place; and what is answered.
-- Assumes nothing.
use Prim.Native.Nat.{ℕ, zero, suc, ◌+◌, ◌≤◌, ◌<◌}
use mathlib.Core.Path.{◌≡◌, refl, sym, ap, ap₂, ◌∙◌}
use mathlib.Core.Bool.{Bool, true, false, cond, ◌&&◌}
use mathlib.Core.List.{List, [], ◌∷◌, ◌++◌, map}
use native.Mathlib.Numerals.{add-one}
use native.Mathlib.Omega.{arith}
use borrow.Author.Tests.{ne_eqb, eqb-true, eqb-false}
use lib.Dec.{eqb}
use lib.ListN.{length, get_or, take, set, length-append, get_or-append}
use lib.Seq.{take-suc-set, get_or_at}
use Rattle.model.specs.Selection.{class_number}
use Rattle.model.specs.declared.Class.{Class}
use Rattle.model.specs.Numbers.{ten_digits, code_of}
use Rattle.providers.specs.Providers.{listed, entry_of}
use Rattle.model.specs.declared.Marks.{Marks}
use Rattle.std.specs.Prelude.{Option, None, Some, is_some}
use Rattle.books.specs.Packed.{decode_books, sound_bytes}
use Rattle.selection.specs.Classes.{class_in, Classed}
use Rattle.selection.specs.declared.Classes.{Classes}
use Rattle.soundbooks.specs.Sound.{kept_by}
use Rattle.soundbooks.proofs.Keeping.{kept_is, kept_marks}
use Rattle.classes.specs.Classes.{numbers_of, answer_for, Classified}

-- nothing is written yet
pub none_yet : (f : ℕ → Class) (out : List ℕ) → take 0 out ≡ numbers_of f 0
unfolding numbers_of
none_yet f out = refl

-- the next provider's number, at its place
pub one_more : (f : ℕ → Class) (out : List ℕ) (i x : ℕ) → i < length out → take i out ≡ numbers_of f i → x ≡ class_number (f (i + 1))
    → take (i + 1) (set out i x) ≡ numbers_of f (i + 1)
unfolding numbers_of
one_more f out i x h e q =
    rw (add-one i) (take-suc-set out i x h ∙ ap₂ (λ (a : List ℕ) (b : ℕ). a ++ b ∷ []) e (rw (add-one i) at q))

-- the same classes have the same numbers
pub same_numbers : (f g : ℕ → Class) (n : ℕ) → ((p : ℕ) → 1 ≤ p → p ≤ n → f p ≡ g p) → numbers_of f n ≡ numbers_of g n
unfolding numbers_of
same_numbers f g zero h = refl
same_numbers f g (suc n) h =
    ap₂ (λ (a : List ℕ) (b : Class). a ++ class_number b ∷ [])
    (same_numbers f g n (λ p l m. h p l (omega arith))) (h (suc n) (omega arith) (omega arith))

-- as many as providers, and the number of each at its place
pub length_numbers : (f : ℕ → Class) (n : ℕ) → length (numbers_of f n) ≡ n
unfolding numbers_of
length_numbers f zero = refl
length_numbers f (suc n) =
    length-append (numbers_of f n) (class_number (f (suc n)) ∷ []) ∙ add-one (length (numbers_of f n)) ∙ ap suc (length_numbers f n)

pub number_at : (f : ℕ → Class) (n i : ℕ) → i < n → get_or (numbers_of f n) i 0 ≡ class_number (f (suc i))
unfolding numbers_of
number_at f zero i h = absurd (omega arith)
number_at f (suc n) i h = go (number_at f n i) (eqb i n) refl
  where
    l : length (numbers_of f n) ≡ n
    l = length_numbers f n

    go : (i < n → get_or (numbers_of f n) i 0 ≡ class_number (f (suc i))) → (b : Bool) → eqb i n ≡ b
        → get_or (numbers_of f n ++ class_number (f (suc n)) ∷ []) i 0 ≡ class_number (f (suc i))
    go before true e =
        let q : i ≡ n = eqb-true i n e in
        get_or_at (numbers_of f n) (class_number (f (suc n))) [] 0 i (l ∙ sym q) ∙ ap (λ (k : ℕ). class_number (f (suc k))) (sym q)
    go before false e =
        let d : i ≡ n → ⊥ = eqb-false i n e in
        let k : i < n = omega arith in
        get_or-append (numbers_of f n) (class_number (f (suc n)) ∷ []) 0 i (omega (arith, l)) ∙ before k

-- ---- what is answered

-- what is kept of the list that was read, beside the books
module _ (p b xs : List ℕ) (tn : ℕ) (k : Option Marks) (hk : k ≡ kept_by (listed (map entry_of p)) b) where
  answer_is : answer_for p b tn (length xs) ≡ cond (is_some k) (cond (ten_digits tn && eqb (length xs) 63) 0 2) 1
  unfolding answer_for
  answer_is =
      ap (λ (x : Bool). cond x (cond (ten_digits tn && eqb (length xs) 63) 0 2) 1)
      (sym (kept_is (listed (map entry_of p)) b) ∙ ap is_some (sym hk))

  -- refused, with nothing written
  refuses : (n : ℕ) → answer_for p b tn (length xs) ≡ suc n → Classified p b tn xs xs (suc n)
  refuses n e = record { said = sym e; wrote = rw (e, ne_eqb (suc n) 0 (λ q. omega arith)) }

  pub unsound : k ≡ None → Classified p b tn xs xs 1
  unsound e = refuses 0 (answer_is ∙ rw e)

  -- sound, and what was said of the number and the places
  module _ (m : Marks) (e : k ≡ Some m) (t : Bool) (ht : t ≡ (ten_digits tn && eqb (length xs) 63)) where
    formed_is : (a : Bool) → t ≡ a → answer_for p b tn (length xs) ≡ cond a 0 2
    formed_is a f = answer_is ∙ rw e (ap (λ (x : Bool). cond x 0 2) (sym ht ∙ f))

    pub malformed : t ≡ false → Classified p b tn xs xs 2
    malformed f = refuses 1 (formed_is false f)

    -- the marks that are kept are the list's
    marks_are : (listed (map entry_of p) ≡ Some m) × (sound_bytes m b ≡ true)
    marks_are = kept_marks (listed (map entry_of p)) b m (sym hk ∙ e)

    pub classified : t ≡ true → (code : ℕ) → code ≡ code_of (record { 0 = tn }) → (c : Classes)
        → Classed (decode_books m b) code c → (ys : List ℕ) → ys ≡ numbers_of (class_in c) 63 → Classified p b tn xs ys 0
    classified f code hc c h ys hy = record {
      said = sym (formed_is true f);
      wrote = rw (formed_is true f) (hy ∙ same_numbers (class_in c) _ 63 h.each ∙ rw (hc, marks_are.0));
    }
