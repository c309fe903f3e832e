-- What a scan carries in two words is the group: one computed test of all marks. Assumes nothing.
use mathlib.Core.Path.{◌≡◌, refl, sym, ap, ap₂, ◌∙◌, subst}
use mathlib.Core.Bool.{Bool, true, false, cond, not, ◌&&◌, ◌||◌}
use mathlib.Core.List.{List, [], ◌∷◌}
use Prim.Native.Nat.{ℕ, ◌+◌, ◌-◌, ◌≤◌, ◌<◌}
use native.Mathlib.Omega.{arith}
use borrow.Author.Tests.{eq-eqb, ne_eqb, le-ltb, lt-ltb, ltb-true}
use lib.Bits.{bit_and}
use lib.Dec.{eqb, ltb}
use lib.ListN.{get_or}
use Rattle.model.specs.Basics.{iff, implies, every}
use Rattle.model.specs.Sound.{live, sends, worked}
use Rattle.model.specs.declared.Version.{Version}
use Rattle.model.proofs.Lists.{conj_at}
use Rattle.model.proofs.SoundSets.{every_at}
use Rattle.row.specs.Layout.{key_of}
use Rattle.scan.specs.declared.join.Bits.{Bits}
use Rattle.std.specs.Prelude.{None, Some}
use Rattle.scan.specs.Join.{Group, start, same, second, either, follows, next, join_if, join_of}
use Rattle.scan.specs.Carried.{bits_of, is_live, is_sent, is_work, group_of}

-- ---- the marks as bits

abbrev apart : ℕ → Bool → Bool → Bool → Bool
apart h l s w = eqb (bit_and h (bits_of l s w)) 0

abbrev agree : ℕ → Bool → Bool → Bool → Bool
agree h l s w =
    iff (apart h l s w) (not (is_live h && l) && not (is_sent h && s) && not (is_work h && w))
    && implies (apart h l s w) (iff (is_live (h + bits_of l s w)) (is_live h || l))
    && implies (apart h l s w) (iff (is_sent (h + bits_of l s w)) (is_sent h || s))
    && implies (apart h l s w) (iff (is_work (h + bits_of l s w)) (is_work h || w))
    && implies (apart h l s w) (ltb (h + bits_of l s w) 8)

abbrev parts : ℕ → Bool → Bool → Bool → List Bool
parts h l s w =
    iff (apart h l s w) (not (is_live h && l) && not (is_sent h && s) && not (is_work h && w))
    ∷ implies (apart h l s w) (iff (is_live (h + bits_of l s w)) (is_live h || l))
    ∷ implies (apart h l s w) (iff (is_sent (h + bits_of l s w)) (is_sent h || s))
    ∷ implies (apart h l s w) (iff (is_work (h + bits_of l s w)) (is_work h || w))
    ∷ implies (apart h l s w) (ltb (h + bits_of l s w) 8) ∷ []

abbrev cases : (Bool → Bool → Bool → Bool) → List Bool
cases f = f true true true ∷ f true true false ∷ f true false true ∷ f true false false ∷ f false true true ∷ f false true false
    ∷ f false false true ∷ f false false false ∷ []

unfoldable right : ℕ → Bool
right h =
    agree h true true true && agree h true true false && agree h true false true && agree h true false false && agree h false true true
    && agree h false true false
    && agree h false false true && agree h false false false

right_at : (h : ℕ) (l s w : Bool) → right h ≡ true → agree h l s w ≡ true
unfolding right
right_at h true true true e = conj_at (cases (agree h)) e 0
right_at h true true false e = conj_at (cases (agree h)) e 1
right_at h true false true e = conj_at (cases (agree h)) e 2
right_at h true false false e = conj_at (cases (agree h)) e 3
right_at h false true true e = conj_at (cases (agree h)) e 4
right_at h false true false e = conj_at (cases (agree h)) e 5
right_at h false false true e = conj_at (cases (agree h)) e 6
right_at h false false false e = conj_at (cases (agree h)) e 7

computed : every (λ (k : ℕ). right (k - 1)) 8 ≡ true
unfolding every right
computed = refl

agrees : (h : ℕ) (l s w : Bool) → h < 8 → agree h l s w ≡ true
agrees h l s w k =
    let cell : right (h + 1 - 1) ≡ true = every_at (λ (i : ℕ). right (i - 1)) 8 (h + 1) computed (omega arith) (omega arith) in
    let a : h + 1 - 1 ≡ h = omega arith in
    right_at h l s w (subst (λ (i : ℕ). right i ≡ true) a cell)

iff-same : (a b : Bool) → iff a b ≡ true → a ≡ b
iff-same true b e = sym e
iff-same false true e = e
iff-same false false e = refl

implied : (a b : Bool) → implies a b ≡ true → a ≡ true → b ≡ true
implied true b e t = e
implied false true e t = refl
implied false false e t = t

module _ (h : ℕ) (l s w : Bool) (k : h < 8) where
  abbrev at : (i : ℕ) → get_or (parts h l s w) i true ≡ true
  at = conj_at (parts h l s w) (agrees h l s w k)

  apart_is : apart h l s w ≡ (not (is_live h && l) && not (is_sent h && s) && not (is_work h && w))
  apart_is = iff-same (apart h l s w) (not (is_live h && l) && not (is_sent h && s) && not (is_work h && w)) (at 0)

  module _ (e : apart h l s w ≡ true) where
    sum_live : is_live (h + bits_of l s w) ≡ (is_live h || l)
    sum_live = iff-same (is_live (h + bits_of l s w)) (is_live h || l)
        (implied (apart h l s w) (iff (is_live (h + bits_of l s w)) (is_live h || l)) (at 1) e)

    sum_sent : is_sent (h + bits_of l s w) ≡ (is_sent h || s)
    sum_sent = iff-same (is_sent (h + bits_of l s w)) (is_sent h || s)
        (implied (apart h l s w) (iff (is_sent (h + bits_of l s w)) (is_sent h || s)) (at 2) e)

    sum_work : is_work (h + bits_of l s w) ≡ (is_work h || w)
    sum_work = iff-same (is_work (h + bits_of l s w)) (is_work h || w)
        (implied (apart h l s w) (iff (is_work (h + bits_of l s w)) (is_work h || w)) (at 3) e)

    sum_few : h + bits_of l s w < 8
    sum_few = ltb-true (h + bits_of l s w) 8 (implied (apart h l s w) (ltb (h + bits_of l s w) 8) (at 4) e)

-- ---- and of this number only

none : 0 < 8
none = omega arith

test_is : (b : Bool) (h : ℕ) (l s w : Bool) → h < 8
    → eqb (bit_and (cond b h 0) (bits_of l s w)) 0
    ≡ (not (second b (is_live h) l) && not (second b (is_sent h) s) && not (second b (is_work h) w))
test_is true h l s w k = apart_is h l s w k
test_is false h l s w k = refl

module _ (h : ℕ) (l s w : Bool) (k : h < 8) where
  now_live : (b : Bool) → eqb (bit_and (cond b h 0) (bits_of l s w)) 0 ≡ true → is_live (cond b h 0 + bits_of l s w)
      ≡ either b (is_live h) l
  now_live true e = sum_live h l s w k e
  now_live false e = sum_live 0 l s w none e

  now_sent : (b : Bool) → eqb (bit_and (cond b h 0) (bits_of l s w)) 0 ≡ true → is_sent (cond b h 0 + bits_of l s w)
      ≡ either b (is_sent h) s
  now_sent true e = sum_sent h l s w k e
  now_sent false e = sum_sent 0 l s w none e

  now_work : (b : Bool) → eqb (bit_and (cond b h 0) (bits_of l s w)) 0 ≡ true → is_work (cond b h 0 + bits_of l s w)
      ≡ either b (is_work h) w
  now_work true e = sum_work h l s w k e
  now_work false e = sum_work 0 l s w none e

  now_few : (b : Bool) → eqb (bit_and (cond b h 0) (bits_of l s w)) 0 ≡ true → cond b h 0 + bits_of l s w < 8
  now_few true e = sum_few h l s w k e
  now_few false e = sum_few 0 l s w none e

-- ---- the ways of `follow`

pub start_seen : group_of (record { last = 0; had = 0 }) ≡ start
unfolding group_of
start_seen = refl

module _ (s : Bits) (v : Version) (few : s.had < 8) (had has : ℕ) (eh : had ≡ cond (same s.last v) s.had 0)
    (es : has ≡ bits_of (live v) (sends v) (worked v)) where
  abbrev b : Bool
  b = same s.last v

  abbrev m : ℕ
  m = bits_of (live v) (sends v) (worked v)

  follows_is : follows (group_of s) v
      ≡ (ltb s.last (key_of v.id) && not (second b (is_live s.had) (live v)) && not (second b (is_sent s.had) (sends v))
      && not (second b (is_work s.had) (worked v)))
  unfolding follows group_of
  follows_is = refl

  three : (x p q r : Bool) → (x && p && q && r) ≡ (x && (p && q && r))
  three true p q r = refl
  three false p q r = refl

  follows_test : follows (group_of s) v ≡ (ltb s.last (key_of v.id) && eqb (bit_and (cond b s.had 0) m) 0)
  follows_test =
      follows_is
      ∙ three (ltb s.last (key_of v.id)) (not (second b (is_live s.had) (live v))) (not (second b (is_sent s.had) (sends v)))
      (not (second b (is_work s.had) (worked v)))
      ∙ ap (λ (x : Bool). ltb s.last (key_of v.id) && x) (sym (test_is b s.had (live v) (sends v) (worked v) few))

  pub follow_late : key_of v.id ≤ s.last → None ≡ join_of (group_of s) v
  unfolding join_of
  follow_late h =
      let e : (ltb s.last (key_of v.id) && eqb (bit_and (cond b s.had 0) m) 0) ≡ false = rw (le-ltb s.last (key_of v.id) h) in
      sym (ap (λ (x : Bool). join_if x (Some (next (group_of s) v)) None) (follows_test ∙ e))

  meet : bit_and had has ≡ bit_and (cond b s.had 0) m
  meet = ap₂ (λ (x y : ℕ). bit_and x y) eh es

  both_false : (x y : Bool) → y ≡ false → (x && y) ≡ false
  both_false true y e = e
  both_false false y e = refl

  pub follow_twice : (bit_and had has ≡ 0 → ⊥) → None ≡ join_of (group_of s) v
  unfolding join_of
  follow_twice n =
      sym (ap (λ (x : Bool). join_if x (Some (next (group_of s) v)) None)
      (follows_test ∙ both_false (ltb s.last (key_of v.id)) (eqb (bit_and (cond b s.had 0) m) 0)
      (ne_eqb (bit_and (cond b s.had 0) m) 0 (λ e. n (meet ∙ e)))))

  module _ (h : s.last < key_of v.id) (z : bit_and had has ≡ 0) where
    free : eqb (bit_and (cond b s.had 0) m) 0 ≡ true
    free = eq-eqb (bit_and (cond b s.had 0) m) 0 (sym meet ∙ z)

    next_is : group_of (record { last = key_of v.id; had = cond b s.had 0 + m }) ≡ next (group_of s) v
    unfolding group_of next
    next_is = λ i. record {
      last = key_of v.id;
      live = now_live s.had (live v) (sends v) (worked v) few b free i;
      sends = now_sent s.had (live v) (sends v) (worked v) few b free i;
      worked = now_work s.had (live v) (sends v) (worked v) few b free i;
    }

    pub follow_go : Some (group_of (record { last = key_of v.id; had = had + has })) ≡ join_of (group_of s) v
    unfolding join_of
    follow_go =
        let e : (ltb s.last (key_of v.id) && eqb (bit_and (cond b s.had 0) m) 0) ≡ true =
        rw (lt-ltb s.last (key_of v.id) h, free) in
        ap₂ (λ (x y : ℕ). Some (group_of (record { last = key_of v.id; had = x + y }))) eh es ∙ ap (λ (g : Group). Some g) next_is
        ∙ sym (ap (λ (x : Bool). join_if x (Some (next (group_of s) v)) None) (follows_test ∙ e))

    pub follow_few : had + has < 8
    follow_few = subst (λ (x : ℕ). x < 8) (sym (ap₂ (λ (x y : ℕ). x + y) eh es)) (now_few s.had (live v) (sends v) (worked v) few b free)
