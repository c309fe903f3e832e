-- Words in bytes: stored one after the other they fill a row, and each is read back. Each law over any list of words.
-- Assumes nothing.
use mathlib.Core.Path.{◌≡◌, refl, sym, ap, ap₂, ◌∙◌, subst}
use mathlib.Core.List.{List, [], ◌∷◌, ◌++◌, append_assoc, append-nil}
use Prim.Native.Nat.{ℕ, zero, suc, ◌+◌, ◌*◌, ◌%◌, ◌^◌, ◌≤◌, ◌<◌}
use native.Mathlib.Nat.{suc-mul, add_comm, mod-eq_of_lt}
use native.Mathlib.Omega.{arith}
use lib.ListN.{length, get_or, take, drop, length-append, drop_of_length-le}
use lib.Seq.{split_at, drop-drop, take-add, take_all, length-take-le}
use Rattle.octets.specs.Octets.{Bytes, be, digits, put}
use Rattle.octets.proofs.Laws.{length_digits, be-digits, digits-be, be_word, put_after}
use Rattle.words.specs.declared.Words.{Words}
use Rattle.words.specs.Size.{ROW}
use Rattle.words.specs.Codec.{words_in, spelt, stored, first_of, last_of, bytes_of, no_words, blank}

pub spelt-append : (xs ys : List ℕ) → spelt (xs ++ ys) ≡ spelt xs ++ spelt ys
spelt-append [] ys = refl
spelt-append (x ∷ xs) ys = ap (λ (l : List ℕ). digits 8 x ++ l) (spelt-append xs ys) ∙ sym (append_assoc (digits 8 x) (spelt xs) (spelt ys))

pub spelt-length : (ws : List ℕ) → length (spelt ws) ≡ length ws * 8
spelt-length [] = refl
spelt-length (w ∷ ws) =
    length-append (digits 8 w) (spelt ws) ∙ ap₂ (λ (x y : ℕ). x + y) (length_digits 8 w) (spelt-length ws)
    ∙ add_comm 8 (length ws * 8) ∙ sym (suc-mul (length ws) 8)

-- ---- storing

stored_after : (ws p r : List ℕ) (at : ℕ) → length p ≡ at → stored (p ++ r) at ws ≡ p ++ (spelt ws ++ drop (length ws * 8) r)
stored_after [] p r at e = refl
stored_after (w ∷ ws) p r at e =
    let q : List ℕ = p ++ digits 8 w in
    let n : length q ≡ at + 8 = length-append p (digits 8 w) ∙ ap₂ (λ (x y : ℕ). x + y) e (length_digits 8 w) in
    let k : 8 + length ws * 8 ≡ length (w ∷ ws) * 8 = add_comm 8 (length ws * 8) ∙ sym (suc-mul (length ws) 8) in
    ap (λ (l : List ℕ). stored l (at + 8) ws) (put_after p r 8 at w e)
    ∙ stored_after ws q (drop 8 r) (at + 8) n
    ∙ ap (λ (l : List ℕ). q ++ (spelt ws ++ l)) (drop-drop (length ws * 8) 8 r ∙ ap (λ (j : ℕ). drop j r) k)
    ∙ append_assoc p (digits 8 w) (spelt ws ++ drop (length (w ∷ ws) * 8) r)
    ∙ ap (λ (l : List ℕ). p ++ l) (sym (append_assoc (digits 8 w) (spelt ws) (drop (length (w ∷ ws) * 8) r)))

-- five words stored one after the other
pub five : (b : List ℕ) (at v w x y z : ℕ) (b1 b2 b3 b4 b5 : List ℕ)
    → b1 ≡ put 8 b at v → b2 ≡ put 8 b1 (at + 8) w → b3 ≡ put 8 b2 (at + 16) x → b4 ≡ put 8 b3 (at + 24) y → b5 ≡ put 8 b4 (at + 32) z
    → b5 ≡ stored b at (v ∷ w ∷ x ∷ y ∷ z ∷ [])
five b at v w x y z b1 b2 b3 b4 b5 e1 e2 e3 e4 e5 =
    let p : at + 8 + 8 ≡ at + 16 = omega arith in
    let q : at + 8 + 8 + 8 ≡ at + 24 = omega arith in
    let r : at + 8 + 8 + 8 + 8 ≡ at + 32 = omega arith in
    cc (e1, e2, e3, e4, e5, p, q, r)

-- the ten words fill the row
pub fill : (b : List ℕ) (w : Words) → length b ≡ ROW → stored (stored b 0 (first_of w)) 40 (last_of w) ≡ bytes_of w
unfolding bytes_of
fill b w h =
    let z : drop 40 (drop 40 b) ≡ [] = drop-drop 40 40 b ∙ drop_of_length-le b {i = 80} (omega arith) in
    ap (λ (l : List ℕ). stored l 40 (last_of w)) (stored_after (first_of w) [] b 0 refl)
    ∙ stored_after (last_of w) (spelt (first_of w)) (drop 40 b) 40 (spelt-length (first_of w))
    ∙ ap (λ (l : List ℕ). spelt (first_of w) ++ (spelt (last_of w) ++ l)) z
    ∙ ap (λ (l : List ℕ). spelt (first_of w) ++ l) (append-nil (spelt (last_of w)))
    ∙ sym (spelt-append (first_of w) (last_of w))

-- ---- reading

pub word_at : (ws : List ℕ) (i : ℕ) → i < length ws → be 8 (spelt ws) (i * 8) ≡ get_or ws i 0 % 2 ^ 64
word_at ws i h =
    let p : List ℕ = spelt (take i ws) in
    let w : ℕ = get_or ws i 0 in
    let q : List ℕ = spelt (drop (suc i) ws) in
    let n : length p ≡ i * 8 = spelt-length (take i ws) ∙ ap (λ (k : ℕ). k * 8) (length-take-le i ws (omega arith)) in
    ap₂ (λ (l : List ℕ) (k : ℕ). be 8 l k) (ap spelt (split_at ws i 0 h) ∙ spelt-append (take i ws) (w ∷ drop (suc i) ws)
    ∙ sym (append_assoc p (digits 8 w) q)) (sym n)
    ∙ be-digits 8 w p q

-- n words from `at` on
abbrev words_at : List ℕ → ℕ → ℕ → List ℕ
words_at b at zero = []
words_at b at (suc n) = be 8 b at ∷ words_at b (at + 8) n

spelt-words : (b : List ℕ) → Bytes b → (at n : ℕ) → at + n * 8 ≤ length b → spelt (words_at b at n) ≡ take (n * 8) (drop at b)
spelt-words b h at zero l = refl
spelt-words b h at (suc n) l =
    let r : at + (n * 8 + 8) ≤ length b = subst (λ (k : ℕ). at + k ≤ length b) (suc-mul n 8) l in
    ap₂ (λ (x y : List ℕ). x ++ y)
    (digits-be b h 8 at (omega arith))
    (spelt-words b h (at + 8) n (omega arith) ∙ ap (λ (l : List ℕ). take (n * 8) l) (sym (drop-drop 8 at b)))
    ∙ sym (take-add 8 (n * 8) (drop at b))
    ∙ ap (λ (k : ℕ). take k (drop at b)) (add_comm 8 (n * 8) ∙ sym (suc-mul n 8))

-- ---- the round trips of ten words

pub bytes_length : (w : Words) → length (bytes_of w) ≡ ROW
unfolding bytes_of
bytes_length w = spelt-length (first_of w ++ last_of w)

-- each word has at most 64 bits
pub record Fit64 (w : Words) : Type 0 where
  pub head : w.head < 2 ^ 64
  pub terms : w.terms < 2 ^ 64
  pub dues : w.dues < 2 ^ 64
  pub times : w.times < 2 ^ 64
  pub confirmed : w.confirmed < 2 ^ 64
  pub waiting : w.waiting < 2 ^ 64
  pub failed : w.failed < 2 ^ 64
  pub low : w.low < 2 ^ 64
  pub mid : w.mid < 2 ^ 64
  pub high : w.high < 2 ^ 64

-- write, then read
pub words_bytes : (w : Words) → Fit64 w → words_in (bytes_of w) ≡ w
unfolding words_in bytes_of
words_bytes w h =
    let at : (i : ℕ) → i < 10 → get_or (first_of w ++ last_of w) i 0 < 2 ^ 64
    → be 8 (spelt (first_of w ++ last_of w)) (i * 8) ≡ get_or (first_of w ++ last_of w) i 0
    = λ i l f. word_at (first_of w ++ last_of w) i l ∙ mod-eq_of_lt f in
    λ i. record {
      head = at 0 (omega arith) h.head i;
      terms = at 1 (omega arith) h.terms i;
      dues = at 2 (omega arith) h.dues i;
      times = at 3 (omega arith) h.times i;
      confirmed = at 4 (omega arith) h.confirmed i;
      waiting = at 5 (omega arith) h.waiting i;
      failed = at 6 (omega arith) h.failed i;
      low = at 7 (omega arith) h.low i;
      mid = at 8 (omega arith) h.mid i;
      high = at 9 (omega arith) h.high i;
    }

-- read, then write
pub bytes_words : (b : List ℕ) → length b ≡ ROW → Bytes b → bytes_of (words_in b) ≡ b
unfolding words_in bytes_of
bytes_words b n h = spelt-words b h 0 10 (omega arith) ∙ take_all ROW b (omega arith)

pub words-fit : (b : List ℕ) → Bytes b → Fit64 (words_in b)
unfolding words_in
words-fit b h =
    let at : (i : ℕ) → be 8 b i < 2 ^ 64 = λ i. be_word b h 8 i (omega arith) in
    record {
      head = at 0;
      terms = at 8;
      dues = at 16;
      times = at 24;
      confirmed = at 32;
      waiting = at 40;
      failed = at 48;
      low = at 56;
      mid = at 64;
      high = at 72;
    }

-- the words of a free row are zero
pub none_blank : bytes_of no_words ≡ blank
unfolding bytes_of blank digits
none_blank = refl

pub blank_none : words_in blank ≡ no_words
unfolding words_in blank be
blank_none = refl
