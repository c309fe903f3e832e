-- Laws of tests and of lists: those that pass a test, and properties of all members.
-- Assumes nothing.
use mathlib.Core.Path.{◌≡◌, refl, sym, ap, ◌∙◌, subst}
use Prim.Native.Nat.{ℕ, zero, suc}
use mathlib.Core.Bool.{Bool, true, false, cond, ◌&&◌, ◌||◌, false≢true}
use mathlib.Core.Option.{Option, none as nothing, some}
use mathlib.Core.List.{List, [], ◌∷◌, ◌++◌, map}
use native.Mathlib.Omega.{arith}
use borrow.Author.Tests.{eqb-true}
use lib.Dec.{eqb}
use lib.ListN.{get_or}
use Rattle.model.specs.Basics.{iff, keep, first, all, All, none, with}

-- ---- Bools

pub clash : {X : Type 0} → ◌≡◌ {A = Bool} false true → X
clash q = absurd (false≢true q)

-- what holds of both holds of either
pub either : {A : Type 0} (P : A → Type 0) (b : Bool) {x y : A} → P x → P y → P (cond b x y)
either P true h k = h
either P false h k = k

pub none_true : (b : Bool) → (b ≡ true → ⊥) → b ≡ false
none_true true h = absurd (h refl)
none_true false h = refl

pub and_l : (a b : Bool) → (a && b) ≡ true → a ≡ true
and_l true b e = refl
and_l false b e = e

pub and_r : (a b : Bool) → (a && b) ≡ true → b ≡ true
and_r true b e = e
and_r false b e = clash e

pub both_true : (a b : Bool) → a ≡ true → b ≡ true → (a && b) ≡ true
both_true true true h k = refl
both_true true false h k = k
both_true false b h k = h

pub or_off : (a b : Bool) → (a || b) ≡ false → (a ≡ false) × (b ≡ false)
or_off true b h = clash (sym h)
or_off false b h = (refl, h)

pub or_l : (a b : Bool) → a ≡ true → (a || b) ≡ true
or_l true b h = refl
or_l false b h = clash h

pub or_but : (a b : Bool) → (a || b) ≡ true → b ≡ false → a ≡ true
or_but true b h k = refl
or_but false b h k = clash (sym k ∙ h)

pub iff_true : (b : Bool) → iff b true ≡ true → b ≡ true
iff_true true h = refl
iff_true false h = h

pub iff_false : (b : Bool) → iff b false ≡ true → b ≡ false
iff_false true h = clash h
iff_false false h = refl

-- a number that passes the test for n is n
pub at_equal : (s n : ℕ) (P : ℕ → Type 0) → eqb s n ≡ true → P s → P n
at_equal s n P q h = subst P (eqb-true s n q) h

pub back_equal : (s n : ℕ) (P : ℕ → Type 0) → eqb s n ≡ true → P n → P s
back_equal s n P q h = subst P (sym (eqb-true s n q)) h

-- several tests in a row, as `a && b && c` has them
abbrev pub conj_from : Bool → List Bool → Bool
conj_from a [] = a
conj_from a (b ∷ bs) = conj_from (a && b) bs

abbrev pub conj : List Bool → Bool
conj [] = true
conj (b ∷ bs) = conj_from b bs

conj_first : (a : Bool) (bs : List Bool) → conj_from a bs ≡ true → a ≡ true
conj_first a [] h = h
conj_first a (b ∷ bs) h = and_l a b (conj_first (a && b) bs h)

conj_later : (a : Bool) (bs : List Bool) → conj_from a bs ≡ true → (i : ℕ) → get_or bs i true ≡ true
conj_later a [] h i = refl
conj_later a (b ∷ bs) h zero = and_r a b (conj_first (a && b) bs h)
conj_later a (b ∷ bs) h (suc i) = conj_later (a && b) bs h i

pub conj_at : (bs : List Bool) → conj bs ≡ true → (i : ℕ) → get_or bs i true ≡ true
conj_at [] h i = refl
conj_at (b ∷ bs) h zero = conj_first b bs h
conj_at (b ∷ bs) h (suc i) = conj_later b bs h i

conj_from_lem : (a : Bool) (bs : List Bool) → a ≡ true → All (λ (b : Bool). b ≡ true) bs → conj_from a bs ≡ true
conj_from_lem a [] h none = h
conj_from_lem a (b ∷ bs) h (with k ks) = conj_from_lem (a && b) bs (both_true a b h k) ks

pub conj_all : (bs : List Bool) → All (λ (b : Bool). b ≡ true) bs → conj bs ≡ true
conj_all [] none = refl
conj_all (b ∷ bs) (with h hs) = conj_from_lem b bs h hs

-- ---- those that pass

pub keep_append : {A : Type 0} (p : A → Bool) (s t : List A) → keep p (s ++ t) ≡ keep p s ++ keep p t
keep_append p [] t = refl
keep_append p (x ∷ xs) t = go (p x) refl (keep_append p xs t)
  where
    go : (b : Bool) → p x ≡ b → keep p (xs ++ t) ≡ keep p xs ++ keep p t → keep p (x ∷ xs ++ t) ≡ keep p (x ∷ xs) ++ keep p t
    go true e ih = rw e (ap (λ l. x ∷ l) ih)
    go false e ih = rw e ih

-- nothing is left where nothing passes
pub keep_same : {A : Type 0} (p q : A → Bool) (l : List A) → ((a : A) → p a ≡ q a) → keep p l ≡ keep q l
keep_same p q [] h = refl
keep_same p q (a ∷ l) h = rw (h a, keep_same p q l h)

pub keep_none : {A : Type 0} (p : A → Bool) (P : A → Type 0) (l : List A) → All P l → ((a : A) → P a → p a ≡ false) → keep p l ≡ []
keep_none p P [] none f = refl
keep_none p P (x ∷ xs) (with h hs) f = rw (f x h) (keep_none p P xs hs f)

pub passed : {A : Type 0} (p : A → Bool) (l : List A) → All (λ (a : A). p a ≡ true) (keep p l)
passed p [] = none
passed p (x ∷ xs) = go (p x) refl (passed p xs)
  where
    go : (b : Bool) → p x ≡ b → All (λ a. p a ≡ true) (keep p xs) → All (λ a. p a ≡ true) (keep p (x ∷ xs))
    go true e ih = rw e (with e ih)
    go false e ih = rw e ih

-- ---- properties of all members

pub all-cond : {A : Type 0} {P : A → Type 0} (b : Bool) {x y : List A} → All P x → All P y → All P (cond b x y)
all-cond true h k = h
all-cond false h k = k

pub all_append : {A : Type 0} {P : A → Type 0} {x y : List A} → All P x → All P y → All P (x ++ y)
all_append none k = k
all_append (with h hs) k = with h (all_append hs k)

pub all_map : {A B : Type 0} (Q : A → Type 0) {P : B → Type 0} (f : A → B) {l : List A} → All Q l → ((a : A) → Q a → P (f a))
    → All P (map f l)
all_map Q f none h = none
all_map Q f (with q qs) h = with (h _ q) (all_map Q f qs h)

pub all_any : {A : Type 0} (l : List A) → All (λ (a : A). Unit {0}) l
all_any [] = none
all_any (a ∷ l) = with tt (all_any l)

pub all_keep : {A : Type 0} {P : A → Type 0} (p : A → Bool) {l : List A} → All P l → All P (keep p l)
all_keep p none = none
all_keep p (with {x = a} h hs) = all-cond (p a) (with h (all_keep p hs)) (all_keep p hs)

pub all_both : {A : Type 0} {P Q R : A → Type 0} {l : List A} → ((a : A) → P a → Q a → R a) → All P l → All Q l → All R l
all_both f none none = none
all_both f (with p ps) (with q qs) = with (f _ p q) (all_both f ps qs)

pub head_of : {A : Type 0} {P : A → Type 0} {x : A} {xs : List A} → All P (x ∷ xs) → P x
head_of (with p ps) = p

pub nothing_some : {A : Type 0} {v : A} → ◌≡◌ {A = Option A} nothing (some v) → ⊥
nothing_some q = let z : ◌≡◌ {A = ℕ} 0 1 = cc in omega arith

pub all_first : {A : Type 0} {P : A → Type 0} (p : A → Bool) {r : List A} (v : A) → All P r → first p r ≡ some v → P v
all_first p v none q = absurd (nothing_some q)
all_first {P = P} p v (with {x = a} {xs = l} h hs) q = go (p a) refl (all_first p v hs)
  where
    go : (b : Bool) → p a ≡ b → (first p l ≡ some v → P v) → P v
    go true e ih = subst P (cc (rw e at q)) h
    go false e ih = ih (rw e at q)

pub first_true : {A : Type 0} (p : A → Bool) (r : List A) (v : A) → first p r ≡ some v → p v ≡ true
first_true p [] v q = absurd (nothing_some q)
first_true p (x ∷ xs) v q = go (p x) refl (first_true p xs v)
  where
    go : (b : Bool) → p x ≡ b → (first p xs ≡ some v → p v ≡ true) → p v ≡ true
    go true e ih = subst (λ y. p y ≡ true) (cc (rw e at q)) e
    go false e ih = ih (rw e at q)

-- a test of all members, and the property
pub all_true : {A : Type 0} (p : A → Bool) (l : List A) → all p l ≡ true → All (λ (a : A). p a ≡ true) l
all_true p [] h = none
all_true p (x ∷ xs) h = with (and_l (p x) (all p xs) h) (all_true p xs (and_r (p x) (all p xs) h))

pub true_all : {A : Type 0} (p : A → Bool) {l : List A} → All (λ (a : A). p a ≡ true) l → all p l ≡ true
true_all p none = refl
true_all p (with {x = x} {xs = xs} h hs) = both_true (p x) (all p xs) h (true_all p hs)
