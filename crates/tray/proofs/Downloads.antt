-- The providers of a set, rising, as a loop over 1 to 63 meets them.
-- Assumes nothing.
use Prim.Native.Nat.{ℕ, zero, suc, ◌+◌, ◌-◌, ◌≤◌, ◌<◌}
use mathlib.Core.Path.{◌≡◌, refl, sym, ap, ap₂, ◌∙◌, subst}
use mathlib.Core.Bool.{Bool, true, false, cond}
use mathlib.Core.List.{List, [], ◌∷◌}
use native.Mathlib.Nat.{add-zero, zero-add}
use native.Mathlib.Decide.{le_ind}
use native.Mathlib.Numerals.{add-one}
use native.Mathlib.Omega.{arith}
use lib.Dec.{eqb}
use lib.ListN.{length, length-map}
use borrow.Author.Tests.{eqb-true, eqb-false}
use Rattle.systems.specs.Set.{member, count}
use Rattle.model.specs.Basics.{All, with}
use Rattle.model.specs.Tray.{members_to, members}
use Rattle.model.specs.declared.Message.{Message}
use Rattle.verdict.specs.Verdict.{to_local, to_locals}
use Rattle.tray.specs.Tray.{Small, places_in, put_message, put_all}

-- those of p + 1 to p + k that are in the set
unfoldable pub members_from : ℕ → ℕ → ℕ → List ℕ
members_from s zero p = []
members_from s (suc k) p = cond (member s (suc p)) (suc p ∷ members_from s k (suc p)) (members_from s k (suc p))

-- those above p
abbrev pub above : ℕ → ℕ → List ℕ
above s p = members_from s (63 - p) p

to_from : (s n k : ℕ) → members_to s n (members_from s k n) ≡ members_from s (n + k) 0
unfolding members_from
to_from s zero k = ap (λ (j : ℕ). members_from s j 0) (sym (zero-add k))
to_from s (suc n) k =
    let e : n + suc k ≡ suc n + k = omega arith in
    to_from s n (suc k) ∙ ap (λ (j : ℕ). members_from s j 0) e

-- the members of a set are those above 0
pub members-above : (s : ℕ) → members s ≡ above s 0
unfolding members members_from
members-above s = to_from s 63 0

pub above_end : (s p : ℕ) → 63 ≤ p → above s p ≡ []
unfolding members_from
above_end s p h =
    let e : 63 - p ≡ 0 = omega arith in
    rw e

pub above_out : (s p : ℕ) → p < 63 → member s (p + 1) ≡ false → above s p ≡ above s (p + 1)
unfolding members_from
above_out s p h f =
    let e : 63 - p ≡ suc (63 - (p + 1)) = omega arith in
    rw (e, rw (add-one p) at f, add-one p)

pub above_in : (s p : ℕ) → p < 63 → member s (p + 1) ≡ true → above s p ≡ (p + 1) ∷ above s (p + 1)
unfolding members_from
above_in s p h t =
    let e : 63 - p ≡ suc (63 - (p + 1)) = omega arith in
    rw (e, rw (add-one p) at t, add-one p)

-- ---- how many

pub count_out : (s p : ℕ) → member s (p + 1) ≡ false → count s (p + 1) ≡ count s p
unfolding count
count_out s p f = rw (add-one p) (rw (rw (add-one p) at f) (add-zero (count s p)))

pub count_in : (s p : ℕ) → member s (p + 1) ≡ true → count s (p + 1) ≡ count s p + 1
unfolding count
count_in s p t = rw (add-one p) (rw (rw (add-one p) at t))

pub count-le : (s p n : ℕ) → p ≤ n → count s p ≤ count s n
unfolding count
count-le s p n h = le_ind (λ (k : ℕ). count s p ≤ count s k) (omega arith) (λ k x e. omega arith) n h

count_none : (s : ℕ) → count s 0 ≡ 0
unfolding count
count_none s = refl

add_suc_left : (p k : ℕ) → suc p + k ≡ p + suc k
add_suc_left p k = omega arith

length_from : (s k p : ℕ) → length (members_from s k p) + count s p ≡ count s (p + k)
unfolding members_from count
length_from s zero p = omega (arith, ap (count s) (add-zero p))
length_from s (suc k) p = go (member s (suc p)) refl (length_from s k (suc p))
  where
    go : (b : Bool) → member s (suc p) ≡ b → length (members_from s k (suc p)) + (count s p + cond (member s (suc p)) 1 0)
        ≡ count s (suc p + k)
        → length (cond b (suc p ∷ members_from s k (suc p)) (members_from s k (suc p))) + count s p ≡ count s (p + suc k)
    go b e h =
        each b (ap (λ (c : Bool). cond c 1 0) e)
      where
        each : (b : Bool) → ◌≡◌ {A = ℕ} (cond (member s (suc p)) 1 0) (cond b 1 0)
            → length (cond b (suc p ∷ members_from s k (suc p)) (members_from s k (suc p))) + count s p ≡ count s (p + suc k)
        each true q = omega (arith, h, q, ap (count s) (add_suc_left p k))
        each false q = omega (arith, h, q, ap (count s) (add_suc_left p k))

-- a set has as many members as it counts
pub length-members : (s : ℕ) → length (members s) ≡ count s 63
length-members s = omega (arith, ap length (members-above s), length_from s 63 0, count_none s)

pub length_locals : (m : Message) (s : ℕ) → length (to_locals m (members s)) ≡ count s 63
length_locals m s = length-map (members s) (to_local m) ∙ length-members s

-- ---- the steps of the loop

-- there is room for the next
pub room : (t u : List ℕ) (m : Message) (place at p s : ℕ) → p < 63 → member s (p + 1) ≡ true → at ≡ place + count s p
    → place + length (to_locals m (members s)) ≤ places_in t → length u ≡ length t → at < places_in u
room t u m place at p s h e ha fits same = omega (arith, count_in s p e, count-le s (p + 1) 63 (omega arith), length_locals m s)

-- the next one fits, since all do
at_from : (m : Message) (s k p j : ℕ) → p ≤ j → j < p + k → member s (j + 1) ≡ true → All Small (to_locals m (members_from s k p))
    → Small (to_local m (j + 1))
unfolding members_from
at_from m s zero p j a b h l = absurd (omega arith)
at_from m s (suc k) p j a b h l = go (eqb p j) refl (member s (suc p)) refl l (at_from m s k (suc p) j)
  where
    go : (x : Bool) → eqb p j ≡ x → (y : Bool) → member s (suc p) ≡ y
        → All Small (to_locals m (cond y (suc p ∷ members_from s k (suc p)) (members_from s k (suc p))))
        → (suc p ≤ j → j < suc p + k → member s (j + 1) ≡ true → All Small (to_locals m (members_from s k (suc p)))
        → Small (to_local m (j + 1)))
        → Small (to_local m (j + 1))
    go true e true q (with c cs) ih =
        subst (λ (i : ℕ). Small (to_local m i)) (let g : p ≡ j = eqb-true p j e in let z : suc p ≡ j + 1 = omega arith in z) c
    go true e false q c ih =
        let g : p ≡ j = eqb-true p j e in
        let z : j + 1 ≡ suc p = omega arith in
        absurd (let w : ◌≡◌ {A = Bool} true false = sym h ∙ ap (member s) z ∙ q in let y : ◌≡◌ {A = ℕ} 0 1 = cc in omega arith)
    go false e true q (with c cs) ih = let n : p ≡ j → ⊥ = eqb-false p j e in ih (omega arith) (omega arith) h cs
    go false e false q c ih = let n : p ≡ j → ⊥ = eqb-false p j e in ih (omega arith) (omega arith) h c

pub small_local : (m r : Message) (s p : ℕ) → All Small (to_locals m (members s)) → p < 63 → member s (p + 1) ≡ true
    → r ≡ to_local m (p + 1) → Small r
small_local m r s p l h t e =
    rw e (at_from m s 63 0 p (omega arith) (omega arith) t (subst (λ (ps : List ℕ). All Small (to_locals m ps)) (members-above s) l))

-- the next put, and the rest after it
pub put_step : (t u : List ℕ) (place p : ℕ) (m r : Message) (s : ℕ) → p < 63 → member s (p + 1) ≡ true → r ≡ to_local m (p + 1)
    → u ≡ put_message t place r
    → put_all u (place + 1) (to_locals m (above s (p + 1))) ≡ put_all t place (to_locals m (above s p))
unfolding put_all
put_step t u place p m r s h e hr hu =
    ap₂ (λ (l : List ℕ) (k : ℕ). put_all l k (to_locals m (above s (p + 1)))) (hu ∙ ap (put_message t place) hr) (add-one place)
    ∙ sym (ap (λ (ps : List ℕ). put_all t place (to_locals m ps)) (above_in s p h e))

-- no message: the rest is the same
pub skip_step : (t : List ℕ) (place p : ℕ) (m : Message) (s : ℕ) → p < 63 → member s (p + 1) ≡ false
    → put_all t place (to_locals m (above s (p + 1))) ≡ put_all t place (to_locals m (above s p))
skip_step t place p m s h e = ap (λ (ps : List ℕ). put_all t place (to_locals m ps)) (sym (above_out s p h e))

-- nothing is left
pub put_end : (t : List ℕ) (place p : ℕ) (m : Message) (s : ℕ) → 63 ≤ p → put_all t place (to_locals m (above s p)) ≡ t
unfolding put_all
put_end t place p m s h = ap (λ (ps : List ℕ). put_all t place (to_locals m ps)) (above_end s p h)
