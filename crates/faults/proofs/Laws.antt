-- Laws of the search for a fault: what place i leaves to the next, for n places in all.
-- Assumes nothing.
use Prim.Native.Nat.{ℕ, zero, suc, ◌+◌, ◌-◌, ◌≤◌, ◌<◌}
use mathlib.Core.Path.{◌≡◌, refl, sym, ◌∙◌}
use mathlib.Core.Bool.{Bool, true, false, cond, not, ◌&&◌, false≢true}
use mathlib.Core.List.{List, [], ◌∷◌}
use native.Mathlib.Numerals.{add-one}
use native.Mathlib.Omega.{arith}
use borrow.Author.Tests.{lt-ltb, le-ltb, leb-true, leb-false}
use lib.Dec.{eqb, ltb, leb}
use Rattle.std.specs.Prelude.{Option, Some, None}
use Rattle.std.specs.Option.{is_none}
use Rattle.std.proofs.lemmas.Bool.{and_parts}
use Rattle.faults.specs.declared.Found.{Found}
use Rattle.faults.specs.declared.Fault.{Fault}
use Rattle.faults.specs.Faults.{Clause, found_at, first_broken, before, nearest, first_fault, at, or_else, told, is_faultless}

-- ---- the search for a fault

module _ (found : ℕ → Option Found) (n i : ℕ) (h : i < n) where
  here : first_fault found (n - i) i ≡ at (found i) i (first_fault found (n - (i + 1)) (i + 1))
  unfolding first_fault
  here =
      let k : n - i ≡ suc (n - (i + 1)) = omega arith in
      rw (k, add-one i)

  pub fault_here : (f : Found) → found i ≡ Some f
      → first_fault found (n - i) i ≡ Some (record { clause = f.clause; place = i + 1; second = f.second })
  fault_here f e = here ∙ rw (e, add-one i)

  pub fault_next : found i ≡ None → first_fault found (n - i) i ≡ first_fault found (n - (i + 1)) (i + 1)
  fault_next e = here ∙ rw e

pub fault_end : (found : ℕ → Option Found) (n i : ℕ) → n ≤ i → first_fault found (n - i) i ≡ None
unfolding first_fault
fault_end found n i h =
    let k : n - i ≡ 0 = omega arith in
    rw k

-- ---- the nearest place before

pub nearest-here : (p : ℕ → Bool) (j : ℕ) → p j ≡ true → nearest p (j + 1) ≡ j + 1
unfolding nearest
nearest-here p j e = rw (add-one j, e)

pub nearest-next : (p : ℕ → Bool) (j : ℕ) → p j ≡ false → nearest p (j + 1) ≡ nearest p j
unfolding nearest
nearest-next p j e = rw (add-one j, e)

-- a test that is the same at each place before
pub nearest-same : (p q : ℕ → Bool) (i : ℕ) → ((j : ℕ) → j < i → p j ≡ q j) → nearest p i ≡ nearest q i
unfolding nearest
nearest-same p q zero h = refl
nearest-same p q (suc i) h = rw (h i (omega arith), nearest-same p q i (λ j k. h j (omega arith)))

-- a test that none before passes
pub nearest_none : (p : ℕ → Bool) (i : ℕ) → ((j : ℕ) → j < i → p j ≡ false) → nearest p i ≡ 0
unfolding nearest
nearest_none p zero h = refl
nearest_none p (suc i) h = rw (h i (omega arith)) (nearest_none p i (λ j k. h j (omega arith)))

-- ---- the place right before

pub before_none : (p : ℕ → Bool) (i : ℕ) → i ≡ 0 → false ≡ before p i
before_none p i z = rw z

pub before_is : (p : ℕ → Bool) (i : ℕ) (b : Bool) → (i ≡ 0 → ⊥) → b ≡ p (i - 1) → b ≡ before p i
before_is p zero b nz e = absurd (nz refl)
before_is p (suc j) b nz e =
    let k : suc j - 1 ≡ j = omega arith in
    rw k at e

-- ---- an order that is broken

pub not_leb : (a b : ℕ) → not (leb a b) ≡ ltb b a
not_leb a b = go (leb a b) refl
  where
    go : (x : Bool) → leb a b ≡ x → not x ≡ ltb b a
    go true e = sym (le-ltb b a (leb-true a b e))
    go false e = sym (lt-ltb b a (leb-false a b e))

-- ---- clauses

abbrev pub all_hold : List Clause → Bool
all_hold [] = true
all_hold (c ∷ cs) = c.holds && all_hold cs

-- none is broken exactly where all hold, and nothing is found in the rest
pub none_broken : (cs : List Clause) (rest : Option Found) → is_none (first_broken cs rest) ≡ (all_hold cs && is_none rest)
none_broken [] rest = refl
none_broken (c ∷ cs) rest = go c.holds (none_broken cs rest)
  where
    go : (b : Bool) → is_none (first_broken cs rest) ≡ (all_hold cs && is_none rest)
        → is_none (cond b (first_broken cs rest) (Some (found_at c.number c.second))) ≡ ((b && all_hold cs) && is_none rest)
    go true e = e
    go false e = refl

-- ---- what is found decides

module _ (found : ℕ → Option Found) (m i : ℕ) where
  pub faultless-next : is_none (found i) ≡ true → is_none (first_fault found (suc m) i) ≡ is_none (first_fault found m (suc i))
  unfolding first_fault
  faultless-next e = go (found i) e
    where
      go : (f : Option Found) → is_none f ≡ true → is_none (at f i (first_fault found m (suc i))) ≡ is_none (first_fault found m (suc i))
      go None e = refl
      go (Some f) e = absurd (false≢true e)

  pub faulty_here : is_none (found i) ≡ false → is_none (first_fault found (suc m) i) ≡ false
  unfolding first_fault
  faulty_here e = go (found i) e
    where
      go : (f : Option Found) → is_none f ≡ false → is_none (at f i (first_fault found m (suc i))) ≡ false
      go None e = absurd (false≢true (sym e))
      go (Some f) e = refl

-- ---- what C is told says clause 0 exactly where nothing is at fault: clauses have numbers

abbrev pub numbered : List Clause → Bool
numbered [] = true
numbered (c ∷ cs) = not (eqb c.number 0) && numbered cs

abbrev pub numbered_found : Option Found → Bool
numbered_found None = true
numbered_found (Some f) = not (eqb f.clause 0)

abbrev pub numbered_fault : Option Fault → Bool
numbered_fault None = true
numbered_fault (Some f) = not (eqb f.clause 0)

pub told_faultless : (f : Option Fault) → numbered_fault f ≡ true → is_faultless (told f) ≡ is_none f
told_faultless None e = refl
told_faultless (Some f) e = go (eqb f.clause 0) e
  where
    go : (b : Bool) → not b ≡ true → b ≡ false
    go true e = absurd (false≢true e)
    go false e = refl

pub broken_numbered : (cs : List Clause) (rest : Option Found) → numbered cs ≡ true → numbered_found rest ≡ true
    → numbered_found (first_broken cs rest) ≡ true
broken_numbered [] rest h r = r
broken_numbered (c ∷ cs) rest h r = let p = and_parts _ _ h in
    go c.holds p.0 (broken_numbered cs rest p.1 r)
  where
    go : (b : Bool) → not (eqb c.number 0) ≡ true → numbered_found (first_broken cs rest) ≡ true
        → numbered_found (cond b (first_broken cs rest) (Some (found_at c.number c.second))) ≡ true
    go true n e = e
    go false n e = n

pub first_numbered : (found : ℕ → Option Found) → ((i : ℕ) → numbered_found (found i) ≡ true) → (m i : ℕ)
    → numbered_fault (first_fault found m i) ≡ true
unfolding first_fault
first_numbered found h zero i = refl
first_numbered found h (suc m) i = go (found i) (h i) (first_numbered found h m (suc i))
  where
    go : (f : Option Found) → numbered_found f ≡ true → numbered_fault (first_fault found m (suc i)) ≡ true
        → numbered_fault (at f i (first_fault found m (suc i))) ≡ true
    go None n ih = ih
    go (Some f) n ih = n

pub or_numbered : (f g : Option Fault) → numbered_fault f ≡ true → numbered_fault g ≡ true → numbered_fault (or_else f g) ≡ true
or_numbered None g e h = h
or_numbered (Some f) g e h = e

-- a free place, or one that breaks a clause
pub free_numbered : (b : Bool) (f : Option Found) → numbered_found f ≡ true → numbered_found (cond b None f) ≡ true
free_numbered true f e = refl
free_numbered false f e = e

-- what holds of the whole leaves it to the places
pub whole_numbered : (b : Bool) (f g : Option Fault) → numbered_fault f ≡ true → numbered_fault g ≡ true
    → numbered_fault (cond b f g) ≡ true
whole_numbered true f g e h = e
whole_numbered false f g e h = h
