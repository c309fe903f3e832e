-- The laws of `specs/Find.antt`. Assumes nothing.
use mathlib.Core.Path.{◌≡◌, refl, sym, ap, ◌∙◌, subst}
use mathlib.Core.Bool.{Bool, true, false, cond}
use mathlib.Core.Logic.{⊎_elim}
use mathlib.Core.List.{List, [], ◌∷◌}
use Prim.Native.Nat.{ℕ, zero, suc, ◌+◌, ◌-◌, ◌*◌, ◌/◌, ◌≤◌, ◌<◌, zero-le, suc-le-suc}
use native.Mathlib.Nat.{not-suc-le-zero, le_of_suc-le-suc, eq-or-lt_of_le, le_trans, le_of_lt, lt_of_lt_of_le}
use native.Mathlib.Omega.{arith}
use native.Mathlib.Numerals.{add-one}
use borrow.Author.Tests.{lt-ltb, le-ltb, ltb-true, ltb-false}
use lib.Dec.{ltb}
use lib.ListN.{length, get_or, length-map}
use Rattle.words.specs.Size.{ROW}
use Rattle.words.specs.Codec.{words_in}
use Rattle.rows.specs.Place.{row_at}
use Rattle.rows.specs.Chunks.{chunks}
use Rattle.table.specs.Find.{key_in, key_at, keys_of, Rises, past, lower_of}
use Rattle.rows.proofs.Lists.{get_d_map}
use Rattle.rows.proofs.Pieces.{chunks-length, get_d_chunks}

pub keys_length : (n : ℕ) (t : List ℕ) → length (keys_of n t) ≡ n
unfolding keys_of
keys_length n t = length-map (chunks ROW n t) key_in ∙ chunks-length ROW n t

pub keys_at : (n : ℕ) (t : List ℕ) (i : ℕ) → i < n → get_or (keys_of n t) i 0 ≡ key_at t i
unfolding keys_of key_at row_at
keys_at n t i h = get_d_map key_in (chunks ROW n t) i [] 0 (rw (chunks-length ROW n t) h) ∙ ap key_in (get_d_chunks ROW n i t h)

-- the key of a row, by its first word
pub head_says : (t : List ℕ) (i w : ℕ) → w ≡ (words_in (row_at t i)).head → w / 16384 ≡ key_at t i
unfolding key_at
head_says t i w e = ap (λ (k : ℕ). k / 16384) e

-- what is true of a lower bound, and of nothing else
pub lower_is : (k : ℕ) (xs : List ℕ) (r : ℕ) → r ≤ length xs → ((p : ℕ) → p < r → get_or xs p 0 < k)
    → ((p : ℕ) → r ≤ p → p < length xs → k ≤ get_or xs p 0) → r ≡ lower_of k xs
unfolding lower_of
lower_is k [] zero h b a = refl
lower_is k [] (suc r) h b a = absurd (not-suc-le-zero h)
lower_is k (x ∷ xs) zero h b a = sym (ap (λ (t : Bool). past t (lower_of k xs)) (le-ltb x k (a zero zero-le (suc-le-suc zero-le))))
lower_is k (x ∷ xs) (suc r) h b a =
    ap suc (lower_is k xs r (le_of_suc-le-suc h) (λ p l. b (suc p) (suc-le-suc l)) (λ p l m. a (suc p) (suc-le-suc l) (suc-le-suc m)))
    ∙ sym (ap (λ (t : Bool). past t (lower_of k xs)) (lt-ltb x k (b zero (suc-le-suc zero-le))))

-- lo and hi bracket the place
pub record Bracket (xs : List ℕ) (k lo hi : ℕ) : Type 0 where
  pub lo_hi : lo ≤ hi
  pub hi_in : hi ≤ length xs
  pub below : (p : ℕ) → p < lo → get_or xs p 0 < k
  pub above : (p : ℕ) → hi ≤ p → p < length xs → k ≤ get_or xs p 0

pub bracket_start : (xs : List ℕ) (k : ℕ) → Bracket xs k 0 (length xs)
bracket_start xs k = record
    { lo_hi = zero-le; hi_in = omega arith; below = λ p l. absurd (not-suc-le-zero l); above = λ p l m. absurd (omega arith) }

module _ (xs : List ℕ) (k lo hi mid : ℕ) (up : Rises xs) (b : Bracket xs k lo hi) (l : lo ≤ mid) (h : mid < hi) where
  pub bracket_up : get_or xs mid 0 < k → Bracket xs k (mid + 1) hi
  unfolding Rises
  bracket_up t =
      record {
        lo_hi = omega arith;
        hi_in = b.hi_in;
        below = λ p q. ⊎_elim (λ e. rw e t) (λ s. lt_of_lt_of_le (up p mid s (omega arith)) (le_of_lt t))
            (eq-or-lt_of_le (le_of_suc-le-suc (subst (λ (j : ℕ). p < j) (add-one mid) q)));
        above = b.above;
      }

  pub bracket_down : k ≤ get_or xs mid 0 → Bracket xs k lo mid
  unfolding Rises
  bracket_down t =
      record {
        lo_hi = l;
        hi_in = omega arith;
        below = b.below;
        above = λ p q s. ⊎_elim (λ e. rw (← e) t) (λ z. le_trans t (le_of_lt (up mid p z s))) (eq-or-lt_of_le q);
      }

pub bracket_end : (xs : List ℕ) (k lo hi : ℕ) → Bracket xs k lo hi → hi ≤ lo → lo ≡ lower_of k xs
bracket_end xs k lo hi b h = lower_is k xs lo (omega arith) b.below (λ p l m. b.above p (omega arith) m)

-- ---- halves, without a branch

-- a test as 1 or 0, by numbers alone
pub bit_below : (w key k least : ℕ) → w / 16384 ≡ key → least ≡ k * 8192 → k < 1125899906842624 → w < 18446744073709551616
    → (least + 9223372036854775807 - w / 2) / 9223372036854775808 ≡ cond (ltb key k) 1 0
bit_below w key k least q e h b = by_test (ltb key k) refl where
  by_test : (t : Bool) → ltb key k ≡ t → (least + 9223372036854775807 - w / 2) / 9223372036854775808 ≡ cond t 1 0
  by_test true p = let l : key < k = ltb-true key k p in omega arith
  by_test false p = let l : k ≤ key = ltb-false key k p in omega arith

pub times_bit : (h u : ℕ) (b : Bool) → u ≡ cond b 1 0 → h * u ≤ h
times_bit h u true q = rw q (omega arith)
times_bit h u false q = rw q (omega arith)

module _ (xs : List ℕ) (k : ℕ) where
  bracket_at : (lo hi lo' hi' : ℕ) → lo ≡ lo' → hi ≡ hi' → Bracket xs k lo hi → Bracket xs k lo' hi'
  bracket_at lo hi lo' hi' p q b = subst (λ (i : ℕ). Bracket xs k i hi') p (subst (Bracket xs k lo) q b)

  pub bracket_all : (n : ℕ) → length xs ≡ n → Bracket xs k 0 (0 + n)
  bracket_all n q = bracket_at 0 (length xs) 0 (0 + n) refl (omega arith) (bracket_start xs k)

  bracket_wider : (lo hi more : ℕ) → hi ≤ more → more ≤ length xs → Bracket xs k lo hi → Bracket xs k lo more
  bracket_wider lo hi more h l b =
      record { lo_hi = omega (arith, b.lo_hi); hi_in = l; below = b.below; above = λ p m s. b.above p (le_trans h m) s }

  module _ (up : Rises xs) (lo left half : ℕ) (b : Bracket xs k lo (lo + left)) (some : 1 ≤ half) (twice : half + half ≤ left) where
    half_by : (t : Bool) → ltb (get_or xs (lo + half - 1) 0) k ≡ t
        → Bracket xs k (lo + half * cond t 1 0) (lo + half * cond t 1 0 + (left - half))
    half_by true p =
        bracket_at (lo + half - 1 + 1) (lo + left) _ _ (omega arith) (omega arith)
        (bracket_up xs k lo (lo + left) (lo + half - 1) up b (omega arith) (omega arith) (ltb-true _ k p))
    half_by false p =
        bracket_at lo (lo + (left - half)) _ _ (omega arith) (omega arith)
        (bracket_wider lo (lo + half - 1) (lo + (left - half)) (omega arith) (omega (arith, b.hi_in))
        (bracket_down xs k lo (lo + left) (lo + half - 1) up b (omega arith) (omega arith) (ltb-false _ k p)))

    -- one turn: the upper half, or the lower
    pub bracket_half : (u : ℕ) → u ≡ cond (ltb (get_or xs (lo + half - 1) 0) k) 1 0
        → Bracket xs k (lo + half * u) (lo + half * u + (left - half))
    bracket_half u q = rw q (half_by (ltb (get_or xs (lo + half - 1) 0) k) refl)

  module _ (up : Rises xs) (lo : ℕ) (b : Bracket xs k lo (lo + 1)) where
    last_by : (t : Bool) → ltb (get_or xs lo 0) k ≡ t → lo + cond t 1 0 ≡ lower_of k xs
    last_by true p = bracket_end xs k (lo + 1) (lo + 1) (bracket_up xs k lo (lo + 1) lo up b (omega arith) (omega arith) (ltb-true _ k p))
        (omega arith)
    last_by false p = bracket_end xs k (lo + 0) lo
        (bracket_at lo lo _ _ (omega arith) refl (bracket_down xs k lo (lo + 1) lo up b (omega arith) (omega arith) (ltb-false _ k p)))
        (omega arith)

    -- the last turn: one place is left
    pub bracket_last : (u : ℕ) → u ≡ cond (ltb (get_or xs lo 0) k) 1 0 → lo + u ≡ lower_of k xs
    bracket_last u q = rw q (last_by (ltb (get_or xs lo 0) k) refl)

-- ---- one place after the other

past-le : (b : Bool) (m n : ℕ) → m ≤ n → past b m ≤ suc n
past-le true m n h = suc-le-suc h
past-le false m n h = zero-le

pub lower_le : (k : ℕ) (xs : List ℕ) → lower_of k xs ≤ length xs
unfolding lower_of
lower_le k [] = zero-le
lower_le k (x ∷ xs) = past-le (ltb x k) (lower_of k xs) (length xs) (lower_le k xs)

past_up : (b : Bool) (m i : ℕ) → suc i ≤ past b m → (i ≤ m → suc i ≤ m) → suc (suc i) ≤ past b m
past_up true m i h f = suc-le-suc (f (le_of_suc-le-suc h))
past_up false m i h f = absurd (not-suc-le-zero h)

past-here : (b : Bool) (m i : ℕ) → suc i ≤ past b m → (i ≤ m → i ≡ m) → suc i ≡ past b m
past-here true m i h f = ap suc (f (le_of_suc-le-suc h))
past-here false m i h f = absurd (not-suc-le-zero h)

past_more : (b c : Bool) (m n : ℕ) → (b ≡ true → c ≡ true) → m ≤ n → past b m ≤ past c n
past_more true c m n f h = subst (λ (z : Bool). suc m ≤ past z n) (sym (f refl)) (suc-le-suc h)
past_more false c m n f h = zero-le

-- a key below k at a place that is not behind k's: k's place is behind it
pub lower_up : (k : ℕ) (xs : List ℕ) (i : ℕ) → i ≤ lower_of k xs → i < length xs → get_or xs i 0 < k → suc i ≤ lower_of k xs
unfolding lower_of
lower_up k [] i h l t = absurd (not-suc-le-zero l)
lower_up k (x ∷ xs) zero h l t = subst (λ (b : Bool). 1 ≤ past b (lower_of k xs)) (sym (lt-ltb x k t)) (suc-le-suc zero-le)
lower_up k (x ∷ xs) (suc i) h l t = past_up (ltb x k) (lower_of k xs) i h (λ m. lower_up k xs i m (le_of_suc-le-suc l) t)

-- any other key: it is k's place
pub lower_here : (k : ℕ) (xs : List ℕ) (i : ℕ) → i ≤ lower_of k xs → i < length xs → k ≤ get_or xs i 0 → i ≡ lower_of k xs
unfolding lower_of
lower_here k [] i h l t = absurd (not-suc-le-zero l)
lower_here k (x ∷ xs) zero h l t = sym (ap (λ (b : Bool). past b (lower_of k xs)) (le-ltb x k t))
lower_here k (x ∷ xs) (suc i) h l t = past-here (ltb x k) (lower_of k xs) i h (λ m. lower_here k xs i m (le_of_suc-le-suc l) t)

-- a larger number's place is not before
pub lower_more : (j k : ℕ) → j ≤ k → (xs : List ℕ) → lower_of j xs ≤ lower_of k xs
unfolding lower_of
lower_more j k h [] = zero-le
lower_more j k h (x ∷ xs) =
    past_more (ltb x j) (ltb x k) (lower_of j xs) (lower_of k xs) (λ q. lt-ltb x k (lt_of_lt_of_le (ltb-true x j q) h))
    (lower_more j k h xs)
