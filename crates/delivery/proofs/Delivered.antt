-- Runs put one after the other, way by way.
-- Assumes nothing.
use mathlib.Core.Path.{◌≡◌, refl, sym, ap, ap₂, ◌∙◌, subst}
use Prim.Native.Nat.{ℕ, ◌+◌, ◌≤◌}
use mathlib.Core.List.{List, [], ◌∷◌, ◌++◌}
use lib.ListN.{length, length-append}
use native.Mathlib.Omega.{arith}
use Rattle.model.specs.Basics.{All, none, with}
use Rattle.verdict.specs.Verdict.{toward, run_of, messages_of}
use Rattle.verdict.specs.declared.To.{To}
use Rattle.verdict.specs.declared.Run.{Run}
use Rattle.verdict.specs.declared.Mail.{Mail}
use Rattle.verdict.specs.declared.Mail.TheVariants.{One, Two}
use Rattle.tray.specs.Tray.{Small, put_message, put_all, Told}
use Rattle.tray.proofs.Laws.{put-append}
use Rattle.model.specs.declared.Message.{Message}

-- ---- messages one by one

pub small_first : (m n : Message) (ms : List Message) → m ≡ n → All Small (n ∷ ms) → Small m
small_first m n ms e (with s ss) = rw e s

pub small_second : (m n k : Message) → m ≡ n → All Small (k ∷ n ∷ []) → Small m
small_second m n k e (with s ss) = small_first m n [] e ss

pub told_one : (m n : Message) (at : ℕ) (t u : List ℕ) → m ≡ n → u ≡ put_message t at m → Told (n ∷ []) at t u 1
unfolding put_all
told_one m n at t u e p = record { tray = p ∙ ap (put_message t at) e; said = refl }

pub told_both : (m n m' n' : Message) (at : ℕ) (t u w : List ℕ) → m ≡ m' → n ≡ n' → u ≡ put_message t at m → w ≡ put_message u (at + 1) n
    → Told (m' ∷ n' ∷ []) at t w 2
unfolding put_all
told_both m n m' n' at t u w e f p q = record {
  tray = q ∙ ap₂ (λ (l : List ℕ) (x : Message). put_message l (at + 1) x) (p ∙ ap (put_message t at) e) f
      ∙ ap (λ (k : ℕ). put_message (put_message t at m') k n') (omega arith);
  said = refl;
}

-- ---- a run by whom it is for
module _ (r : Run) (to : To) (e : r.to ≡ to) where
  pub room_to : (at places : ℕ) → at + length (run_of r) ≤ places → at + length (toward r.say to) ≤ places
  room_to at places l = subst (λ (x : To). at + length (toward r.say x) ≤ places) e l

  pub small_to : All Small (run_of r) → All Small (toward r.say to)
  small_to s = subst (λ (x : To). All Small (toward r.say x)) e s

  pub told_to : (at : ℕ) (t u : List ℕ) (k : ℕ) → Told (toward r.say to) at t u k → Told (run_of r) at t u k
  told_to at t u k g = subst (λ (x : To). Told (toward r.say x) at t u k) (sym e) g

-- ---- mail

all_left : (xs ys : List Message) → All Small (xs ++ ys) → All Small xs
all_left [] ys a = none
all_left (x ∷ xs) ys (with s ss) = with s (all_left xs ys ss)

all_right : (xs ys : List Message) → All Small (xs ++ ys) → All Small ys
all_right [] ys a = a
all_right (x ∷ xs) ys (with s ss) = all_right xs ys ss

pub told_nothing : (t : List ℕ) → Told [] 0 t t 0
unfolding put_all
told_nothing t = record { tray = refl; said = refl }

pub told_mail : (m m' : Mail) (t u : List ℕ) (k : ℕ) → m ≡ m' → Told (messages_of m') 0 t u k → Told (messages_of m) 0 t u k
told_mail m m' t u k e g = subst (λ (x : Mail). Told (messages_of x) 0 t u k) (sym e) g

module _ (m : Mail) (places : ℕ) (l : length (messages_of m) ≤ places) (s : All Small (messages_of m)) where
  pub one_asks : (r : Run) → m ≡ One r → (0 + length (run_of r) ≤ places) × All Small (run_of r)
  one_asks r e =
      let h : length (run_of r) ≤ places = subst (λ (x : Mail). length (messages_of x) ≤ places) e l in
      (omega (arith, h), subst (λ (x : Mail). All Small (messages_of x)) e s)

  module _ (a b : Run) (e : m ≡ Two a b) where
    both : length (run_of a) + length (run_of b) ≤ places
    both =
        let h : length (run_of a ++ run_of b) ≤ places = subst (λ (x : Mail). length (messages_of x) ≤ places) e l in
        omega (arith, h, length-append (run_of a) (run_of b))

    small : All Small (run_of a ++ run_of b)
    small = subst (λ (x : Mail). All Small (messages_of x)) e s

    pub first_asks : (0 + length (run_of a) ≤ places) × All Small (run_of a)
    first_asks = (omega (arith, both), all_left (run_of a) (run_of b) small)

    pub second_asks : (k : ℕ) → k ≡ length (run_of a) → (k + length (run_of b) ≤ places) × All Small (run_of b)
    second_asks k q = (omega (arith, both, q), all_right (run_of a) (run_of b) small)

    pub both_counted : (j k : ℕ) → j ≡ length (run_of a) → k ≡ length (run_of b) → j + k ≤ places
    both_counted j k p q = omega (arith, both, p, q)

pub told_two : (a b : Run) (t u w : List ℕ) (j k : ℕ) → Told (run_of a) 0 t u j → Told (run_of b) j u w k
    → Told (run_of a ++ run_of b) 0 t w (j + k)
told_two a b t u w j k g h =
    let z : length (run_of a) ≡ 0 + length (run_of a) = omega arith in record {
      tray = h.tray ∙ ap₂ (λ (l : List ℕ) (i : ℕ). put_all l i (run_of b)) g.tray (g.said ∙ z) ∙ put-append (run_of a) (run_of b) t 0;
      said = omega (arith, g.said, h.said, length-append (run_of a) (run_of b));
    }
