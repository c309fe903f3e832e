-- Laws of the providers' marks as sets: sound marks, tested by one `and` of the two sets.
-- Assumes nothing.
use Prim.Native.Nat.{ℕ, zero, suc, ◌%◌, ◌^◌, ◌≤◌, ◌<◌}
use mathlib.Core.Path.{◌≡◌, refl, sym, ap, ap₂, ◌∙◌}
use mathlib.Core.Bool.{Bool, true, false, ◌&&◌, false≢true}
use native.Mathlib.Nat.{div-one, lt_of_le_of_lt}
use native.Mathlib.Omega.{arith}
use borrow.Author.Tests.{lt-ltb, eq-eqb, ne_eqb, eqb-true}
use lib.Bits.{bit_and, and_le_l}
use lib.Dec.{eqb}
use Rattle.octets.proofs.Fields.{and_r}
use Rattle.systems.specs.Set.{member}
use Rattle.systems.proofs.Laws.{member_and, ext}
use Rattle.model.specs.Basics.{every, implies}
use Rattle.model.specs.Numbers.{is_set}
use Rattle.model.specs.Books.{sound_marks}
use Rattle.model.specs.declared.Marks.{Marks}
use Rattle.model.proofs.SoundSets.{every_at, every-all}

-- ---- sound marks

-- a provider that runs a Local SMS is present
pub runs-present : (m : Marks) → sound_marks m ≡ true → (p : ℕ) → 0 < p → p ≤ 63 → member m.local p ≡ true → member m.present p ≡ true
unfolding sound_marks
runs-present m e p h k r =
    let w : implies (member m.local p) (member m.present p) ≡ true
    = every_at (λ (q : ℕ). implies (member m.local q) (member m.present q)) 63 p (and_r (is_set m.present && is_set m.local) _ e)
    h k in
    rw r at w

-- bit 0 is no provider's
pub low : (s : ℕ) → eqb (s % 2) 0 ≡ true → member s 0 ≡ false
unfolding member
low s e = ap (λ (x : ℕ). eqb (x % 2) 1) (div-one s) ∙ ap (λ (x : ℕ). eqb x 1) (eqb-true (s % 2) 0 e)

-- SOUND MARKS by bits: no bit 0, and the second set within the first
pub sound_bits : (m : Marks) → m.present < 2 ^ 64 → m.local < 2 ^ 64
    → (eqb (m.present % 2) 0 && eqb (m.local % 2) 0 && eqb (bit_and m.local m.present) m.local) ≡ sound_marks m
unfolding sound_marks
sound_bits m hp hl = rw (lt-ltb m.present (2 ^ 64) hp, lt-ltb m.local (2 ^ 64) hl)
    (go (eqb (m.present % 2) 0) refl (eqb (m.local % 2) 0) refl)
  where
    in? : ℕ → Bool
    in? p = implies (member m.local p) (member m.present p)

    go : (a : Bool) → eqb (m.present % 2) 0 ≡ a → (b : Bool) → eqb (m.local % 2) 0 ≡ b
        → (a && b && eqb (bit_and m.local m.present) m.local) ≡ (a && b && every in? 63)
    go true x true y = same (every in? 63) refl
      where
        meet : every in? 63 ≡ true → (p : ℕ) → p < 64 → member (bit_and m.local m.present) p ≡ member m.local p
        meet e zero k = member_and m.local m.present 0 ∙ ap₂ (λ (a b : Bool). a && b) (low m.local y) (low m.present x)
            ∙ sym (low m.local y)
        meet e (suc p) k = member_and m.local m.present (suc p) ∙ within (member m.local (suc p)) (member m.present (suc p))
            (every_at in? 63 (suc p) e (omega arith) (omega arith))
          where
            within : (a b : Bool) → implies a b ≡ true → (a && b) ≡ a
            within true b h = h
            within false b h = refl

        each : bit_and m.local m.present ≡ m.local → (p : ℕ) → 0 < p → p ≤ 63 → in? p ≡ true
        each e p h k = of (member m.local p) (member m.present p)
            (sym (member_and m.local m.present p) ∙ ap (λ (s : ℕ). member s p) e)
          where
            of : (a b : Bool) → (a && b) ≡ a → implies a b ≡ true
            of true b h = h
            of false b h = refl

        same : (b : Bool) → every in? 63 ≡ b → eqb (bit_and m.local m.present) m.local ≡ b
        same true e = eq-eqb _ _ (ext 64 _ _ (lt_of_le_of_lt (and_le_l m.local m.present) hl) hl (meet e))
        same false e = ne_eqb _ _ (λ q. false≢true (sym e ∙ every-all in? 63 (each q)))
    go true x false y = refl
    go false x b y = refl
