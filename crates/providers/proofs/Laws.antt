-- Laws of the provider list: read record by record it says what it says as a whole, and a sound list has sound marks.
-- Assumes nothing.
use Prim.Native.Nat.{ℕ, zero, suc, ◌+◌, ◌-◌, ◌^◌, ◌≤◌, ◌<◌}
use mathlib.Core.Path.{◌≡◌, refl, sym, ap, ap₂, ◌∙◌}
use mathlib.Core.Bool.{Bool, true, false, cond, not, ◌&&◌, ◌||◌, and_assoc, and-true}
use mathlib.Core.List.{List, [], ◌∷◌, ◌++◌, map}
use native.Mathlib.Nat.{one-mul, add_comm, add-zero, le_refl}
use native.Mathlib.Decide.{le_ind}
use native.Mathlib.Numerals.{add-one}
use native.Mathlib.Omega.{arith}
use borrow.Author.Tests.{le-leb, lt-leb, leb-true, ltb-true, ltb-false}
use lib.Bits.{bit_or, or_shifted_r}
use lib.Dec.{ltb, leb}
use lib.ListN.{length, get_or, take, get_or-eq_default}
use lib.Seq.{take-suc, take-length}
use Rattle.octets.proofs.Fields.{and_l, and_r}
use Rattle.systems.specs.Set.{member, mask_of}
use Rattle.systems.proofs.Laws.{mask_lt, mask_member}
use Rattle.model.specs.Basics.{all, every, implies}
use Rattle.model.specs.Books.{sound_marks}
use Rattle.model.specs.declared.Provider.{Provider}
use Rattle.std.specs.Prelude.{Option, None, Some, is_some}
use Rattle.std.proofs.lemmas.List.{get_or-map}
use Rattle.model.specs.declared.Marks.{Marks}
use Rattle.providers.specs.Providers.{absent, fine, sound_list, present_at, local_at, marks_of, nobody, listed, marks_in}
use Rattle.model.proofs.SoundSets.{every-all, set_mask}
use Rattle.providers.specs.Growth.{mark_of, grown_by, listed_to}

-- ---- a step of the readers

pub listed_none : (l : List Provider) (m : Marks) → (m.present ≡ 0) × (m.local ≡ 0) → Some m ≡ listed_to l 0
unfolding listed_to
listed_none l m h = ap₂ (λ (p q : ℕ). Some (record { present = p; local = q })) h.0 h.1

pub listed_more : (l : List Provider) (n : ℕ) → listed_to l (n + 1) ≡ grown_by (listed_to l n) (get_or l n absent) n
unfolding listed_to
listed_more l n = ap (listed_to l) (add-one n)

-- the set with the provider at place n, as a sum
mark-step : (f : ℕ → Bool) (n : ℕ) (on : Bool) → on ≡ f (suc n) → mark_of (mask_of f n) on n ≡ mask_of f (suc n)
unfolding mark_of mask_of
mark-step f n on e = rw (← e) (go on)
  where
    put : bit_or (mask_of f n) (2 ^ (n + 1)) ≡ mask_of f n + 2 ^ suc n
    put =
        let l : mask_of f n < 2 ^ (n + 1) = rw (add-one n) (mask_lt f n) in
        ap (bit_or (mask_of f n)) (sym (one-mul (2 ^ (n + 1)))) ∙ or_shifted_r 1 (n + 1) (mask_of f n) l
        ∙ ap (λ (x : ℕ). x + mask_of f n) (one-mul (2 ^ (n + 1)) ∙ ap (λ (k : ℕ). 2 ^ k) (add-one n))
        ∙ add_comm (2 ^ suc n) (mask_of f n)

    go : (b : Bool) → cond b (bit_or (mask_of f n) (2 ^ (n + 1))) (mask_of f n) ≡ mask_of f n + cond b (2 ^ suc n) 0
    go true = put
    go false = sym (add-zero (mask_of f n))

-- ---- the first n records

all_append : {A : Type 0} (f : A → Bool) (xs : List A) (y : A) → all f (xs ++ (y ∷ [])) ≡ (all f xs && f y)
all_append f [] y = and-true (f y)
all_append f (x ∷ xs) y = ap (λ (b : Bool). f x && b) (all_append f xs y) ∙ sym (and_assoc (f x) (all f xs) (f y))

fine_or : (x : Provider) → fine x ≡ (x.present || not x.local)
fine_or x = go x.present x.local
  where
    go : (p l : Bool) → implies l p ≡ (p || not l)
    go true true = refl
    go true false = refl
    go false true = refl
    go false false = refl

abbrev sound_to : List Provider → ℕ → Bool
sound_to l n = leb n 63 && all fine (take n l)

-- one record more
sound_more : (l : List Provider) (n : ℕ) → n < length l
    → sound_to l (suc n) ≡ (sound_to l n && ltb n 63 && ((get_or l n absent).present || not (get_or l n absent).local))
sound_more l n h =
    ap (λ (xs : List Provider). leb (suc n) 63 && all fine xs) (take-suc l n absent h)
    ∙ ap (λ (b : Bool). leb (suc n) 63 && b) (all_append fine (take n l) (get_or l n absent))
    ∙ go (ltb n 63) refl (all fine (take n l)) ∙ ap (λ (b : Bool). sound_to l n && ltb n 63 && b) (fine_or (get_or l n absent))
  where
    go : (b : Bool) → ltb n 63 ≡ b → (a : Bool) → (leb (suc n) 63 && (a && fine (get_or l n absent)))
        ≡ (leb n 63 && a && ltb n 63 && fine (get_or l n absent))
    go true e a =
        let h : n < 63 = ltb-true n 63 e in
        let k : suc n ≤ 63 = omega arith in
        let j : n ≤ 63 = omega arith in
        rw (le-leb (suc n) 63 k, le-leb n 63 j) (shift a (fine (get_or l n absent)))
      where
        shift : (x y : Bool) → (x && y) ≡ (x && true && y)
        shift true y = refl
        shift false y = refl
    go false e a =
        let h : 63 ≤ n = ltb-false n 63 e in
        let k : 63 < suc n = omega arith in
        rw (lt-leb (suc n) 63 k) (off (leb n 63 && a))
      where
        off : (x : Bool) → false ≡ (x && false && fine (get_or l n absent))
        off true = refl
        off false = refl

-- what the first n records say, as a whole
abbrev partly : List Provider → ℕ → Option Marks
partly l n = cond (sound_to l n) (Some (record { present = mask_of (present_at l) n; local = mask_of (local_at l) n })) None

listed_partly : (l : List Provider) (n : ℕ) → n ≤ length l → listed_to l n ≡ partly l n
unfolding listed_to mask_of
listed_partly l zero h = refl
listed_partly l (suc n) h =
    let k : n < length l = omega arith in
    ap (λ (z : Option Marks). grown_by z (get_or l n absent) n) (listed_partly l n (omega arith))
    ∙ go (sound_to l n)
    ∙ ap (λ (b : Bool). cond b (Some (record { present = mask_of (present_at l) (suc n); local = mask_of (local_at l) (suc n) })) None)
    (sym (sound_more l n k))
  where
    go : (b : Bool) → grown_by
        (cond b (Some (record { present = mask_of (present_at l) n; local = mask_of (local_at l) n })) None) (get_or l n absent) n
        ≡ cond (b && ltb n 63 && ((get_or l n absent).present || not (get_or l n absent).local))
        (Some (record { present = mask_of (present_at l) (suc n); local = mask_of (local_at l) (suc n) })) None
    go true =
        ap₂ (λ (p q : ℕ). cond (ltb n 63 && ((get_or l n absent).present || not (get_or l n absent).local))
        (Some (record { present = p; local = q })) None)
        (mark-step (present_at l) n (get_or l n absent).present (ap (λ (k : ℕ). (get_or l k absent).present) (omega arith)))
        (mark-step (local_at l) n (get_or l n absent).local (ap (λ (k : ℕ). (get_or l k absent).local) (omega arith)))
    go false = refl

-- ---- the whole list

-- providers at which the test fails add nothing to a set
pub mask_beyond : (f : ℕ → Bool) (n m : ℕ) → n ≤ m → ((p : ℕ) → n < p → f p ≡ false) → mask_of f n ≡ mask_of f m
unfolding mask_of
mask_beyond f n m l h =
    le_ind (λ (k : ℕ). mask_of f n ≡ mask_of f k) refl
    (λ k x e. e ∙ sym (ap (λ (b : Bool). mask_of f k + cond b (2 ^ suc k) 0) (h (suc k) (omega arith)) ∙ add-zero (mask_of f k))) m l

beyond : (l : List Provider) (p : ℕ) → length l < p → get_or l (p - 1) absent ≡ absent
beyond l p h = get_or-eq_default l absent (omega arith)

-- READ RECORD BY RECORD, the list says what it says as a whole
pub listed-all : (l : List Provider) (n : ℕ) → n ≡ length l → listed_to l n ≡ listed l
unfolding listed
listed-all l n e =
    ap (listed_to l) e ∙ listed_partly l (length l) (le_refl (length l))
    ∙ ap (λ (xs : List Provider). cond (leb (length l) 63 && all fine xs)
    (Some (record { present = mask_of (present_at l) (length l); local = mask_of (local_at l) (length l) })) None) (take-length l)
    ∙ go (leb (length l) 63) refl
  where
    go : (b : Bool) → leb (length l) 63 ≡ b
        → cond (b && all fine l)
        (Some (record { present = mask_of (present_at l) (length l); local = mask_of (local_at l) (length l) })) None
        ≡ cond (b && all fine l) (Some (marks_of l)) None
    go true h =
        ap₂ (λ (p q : ℕ). cond (all fine l) (Some (record { present = p; local = q })) None)
        (mask_beyond (present_at l) (length l) 63 (leb-true (length l) 63 h) (λ p k. ap (λ (x : Provider). x.present) (beyond l p k)))
        (mask_beyond (local_at l) (length l) 63 (leb-true (length l) 63 h) (λ p k. ap (λ (x : Provider). x.local) (beyond l p k)))
    go false h = refl

-- records say themselves
pub says_itself : (l : List Provider) → map (λ (x : Provider). x) l ≡ l
says_itself [] = refl
says_itself (x ∷ l) = ap (λ (xs : List Provider). x ∷ xs) (says_itself l)

-- a turn of the reader
pub marks_more : {A : Type 0} (says : A → Provider) (xs : List A) (i : ℕ) (e : A) (x : Provider) (m : Marks) (r : Option Marks)
    → i < length xs → e ≡ get_or xs i e → x ≡ says e → Some m ≡ listed_to (map says xs) i → r ≡ grown_by (Some m) x i
    → r ≡ listed_to (map says xs) (i + 1)
marks_more says xs i e x m r h he hx hm hr =
    hr ∙ ap₂ (λ (a : Option Marks) (b : Provider). grown_by a b i) hm (hx ∙ ap says he ∙ sym (get_or-map says xs i e absent h))
    ∙ sym (listed_more (map says xs) i)

-- what is unsound so far is unsound
pub none_stays : (l : List Provider) (n : ℕ) → n ≤ length l → listed_to l n ≡ None → listed l ≡ None
unfolding listed_to
none_stays l n h e =
    sym (listed-all l (length l) refl)
    ∙ le_ind (λ (k : ℕ). listed_to l k ≡ None) e (λ k x f. ap (λ (z : Option Marks). grown_by z (get_or l k absent) k) f) (length l) h

-- ---- sound marks

all_at : (l : List Provider) → all fine l ≡ true → (i : ℕ) → fine (get_or l i absent) ≡ true
all_at [] e i = refl
all_at (x ∷ xs) e zero = and_l (fine x) (all fine xs) e
all_at (x ∷ xs) e (suc i) = all_at xs (and_r (fine x) (all fine xs) e) i

nobody_sound : sound_marks nobody ≡ true
unfolding sound_marks every member
nobody_sound = refl

-- A SOUND LIST has sound marks, and an unsound one's are nobody
pub listed_sound : (l : List Provider) → sound_marks (marks_in (listed l)) ≡ true
unfolding listed sound_marks
listed_sound l = go (leb (length l) 63) (all fine l) refl
  where
    within : all fine l ≡ true → (p : ℕ) → 0 < p → p ≤ 63
        → implies (member (mask_of (local_at l) 63) p) (member (mask_of (present_at l) 63) p) ≡ true
    within e p h k = rw (mask_member (local_at l) 63 p h k, mask_member (present_at l) 63 p h k) (all_at l e (p - 1))

    go : (a b : Bool) → all fine l ≡ b → sound_marks (marks_in (cond (a && b) (Some (marks_of l)) None)) ≡ true
    go true true e = ap₂ (λ (a b : Bool). a && b) (ap₂ (λ (a b : Bool). a && b) (set_mask (present_at l)) (set_mask (local_at l)))
        (every-all _ 63 (within e))
    go true false e = nobody_sound
    go false b e = nobody_sound

-- ---- what a list says, for callers

pub listed_says : (l : List Provider) → is_some (listed l) ≡ sound_list l
unfolding listed
listed_says l = go (sound_list l)
  where
    go : (b : Bool) → is_some (cond b (Some (marks_of l)) None) ≡ b
    go true = refl
    go false = refl

pub listed_marks : (l : List Provider) → sound_list l ≡ true → listed l ≡ Some (marks_of l)
unfolding listed
listed_marks l e = ap (λ (b : Bool). cond b (Some (marks_of l)) None) e

-- provider p is in the sets where its record, at place p - 1, has the marks
pub listed-present : (l : List Provider) → sound_list l ≡ true → (p : ℕ) → 0 < p → p ≤ 63
    → member (marks_in (listed l)).present p ≡ present_at l p
listed-present l e p h k =
    ap (λ (m : Option Marks). member (marks_in m).present p) (listed_marks l e) ∙ mask_member (present_at l) 63 p h k

pub listed_local : (l : List Provider) → sound_list l ≡ true → (p : ℕ) → 0 < p → p ≤ 63
    → member (marks_in (listed l)).local p ≡ local_at l p
listed_local l e p h k = ap (λ (m : Option Marks). member (marks_in m).local p) (listed_marks l e) ∙ mask_member (local_at l) 63 p h k
