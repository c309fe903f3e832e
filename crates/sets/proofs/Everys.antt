-- What holds of each system: sets apart, and retries. Assumes nothing.
use mathlib.Core.Path.{◌≡◌, refl, sym, ap, ◌∙◌}
use mathlib.Core.Bool.{Bool, true, false, cond, not, ◌&&◌, ◌||◌, or-true}
use Prim.Native.Nat.{ℕ, zero, suc, ◌%◌, ◌^◌, ◌≤◌, ◌<◌}
use native.Mathlib.Nat.{zero-div, mod-lt, div-one, mod-mod, lt_of_le_of_lt}
use native.Mathlib.Omega.{arith}
use borrow.Author.Tests.{ltb-true, ltb-false, eq-eqb}
use lib.Dec.{eqb, ltb, lit<}
use lib.Bits.{bit_and, and_le_l}
use Rattle.systems.specs.Set.{member}
use Rattle.systems.proofs.Laws.{member_high, member_and, ext}
use Rattle.model.specs.declared.Retries.{Retries}
use Rattle.model.specs.declared.Broadcast.{Broadcast}
use Rattle.model.specs.Basics.{every}
use Rattle.model.specs.Retries.{octal, used}
use Rattle.model.specs.Sound.{apart, retries_in_range, retries_fit}
use Rattle.sets.specs.Order.{retries_sound}
use Rattle.model.proofs.Lists.{clash}
use Rattle.model.proofs.SoundSets.{every_at, every-all}

-- ---- sets apart

member_low : (s : ℕ) → member s 0 ≡ member (s % 2) 0
unfolding member
member_low s = simp (div-one, mod-mod)

-- a set that has none of 1 to 63 is 0 or 1
none_small : (s : ℕ) → s < 2 ^ 64 → ((p : ℕ) → 0 < p → p ≤ 63 → member s p ≡ false) → s ≡ s % 2
none_small s h n =
    let t : s % 2 < 2 = mod-lt s (lit< tt) in
    ext 64 s (s % 2) h (omega arith) (λ p l. same p l t)
  where
    same : (p : ℕ) → p < 64 → s % 2 < 2 → member s p ≡ member (s % 2) p
    same zero l t = member_low s
    same (suc p) l t = n (suc p) (omega arith) (omega arith) ∙ sym (member_high 1 (s % 2) (suc p) t (omega arith))

pub apart_and : (a b : ℕ) → a < 2 ^ 64 → ltb (bit_and a b) 2 ≡ apart a b
unfolding apart
apart_and a b h = go (ltb (bit_and a b) 2) refl (every f 63) refl
  where
    f : ℕ → Bool
    f p = not (member a p && member b p)

    s : ℕ
    s = bit_and a b

    at : (p : ℕ) (c : Bool) → member s p ≡ c → f p ≡ not c
    at p c e = ap not (sym (member_and a b p) ∙ e)

    out : (p : ℕ) (c : Bool) → member s p ≡ c → f p ≡ true → member s p ≡ false
    out p true e t = clash (sym (at p true e) ∙ t)
    out p false e t = e

    go : (x : Bool) → ltb s 2 ≡ x → (y : Bool) → every f 63 ≡ y → x ≡ every f 63
    go true e y q = sym (every-all f 63 (λ p z l. at p false (member_high 1 s p (ltb-true s 2 e) (omega arith))))
    go false e true q =
        let big : 2 ≤ s = ltb-false s 2 e in
        let lt : s < 2 ^ 64 = lt_of_le_of_lt (and_le_l a b) h in
        let z : s ≡ s % 2 = none_small s lt (λ p z l. out p (member s p) refl (every_at f 63 p q z l)) in
        absurd (omega arith)
    go false e false q = sym q

-- ---- retries

cond_same : {A : Type 0} (b : Bool) (x : A) → cond b x x ≡ x
cond_same true x = refl
cond_same false x = refl

used_none : (r : Retries) (p : ℕ) → r.low ≡ 0 → r.mid ≡ 0 → r.high ≡ 0 → used r p ≡ 0
unfolding used octal
used_none r p a b c = rw (a, b, c) (simp (cond_same, zero-div))

-- system p waits or has used no retries
abbrev pub waits : Broadcast → ℕ → Bool
waits c p = member c.waiting p || eqb (used c.retries p) 0

pub retries_none : (c : Broadcast) → c.retries.low ≡ 0 → c.retries.mid ≡ 0 → c.retries.high ≡ 0 → retries_fit c ≡ true
unfolding retries_fit
retries_none c x y z =
    every-all (waits c) 63
    (λ p h l. rw (eq-eqb (used c.retries p) 0 (used_none c.retries p x y z)) (or-true (member c.waiting p)))

pub retries_zero : (c : Broadcast) → c.retries.low ≡ 0 → c.retries.mid ≡ 0 → c.retries.high ≡ 0 → retries_sound c ≡ true
unfolding retries_sound retries_in_range
retries_zero c x y z = rw (retries_none c x y z, x, y, z)
