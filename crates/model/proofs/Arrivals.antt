-- Two answers of different systems, on one broadcast: neither sees the other, and the order does not matter.
-- Assumes nothing.
use mathlib.Core.Path.{◌≡◌, refl, sym, ap, ap₂, ◌∙◌, subst}
use Prim.Native.Nat.{ℕ, ◌+◌, ◌-◌, ◌/◌, ◌%◌, ◌^◌, ◌≤◌, ◌<◌, max}
use mathlib.Core.Bool.{Bool, true, false, cond, not, ◌&&◌}
use lib.Dec.{eqb, ltb}
use native.Mathlib.Nat.{sub_right_comm, zero-div}
use native.Mathlib.Omega.{arith}
use borrow.Author.Tests.{eqb-true, ltb-true, not-false}
use Rattle.systems.specs.Set.{member}
use Rattle.systems.proofs.Laws.{without_other}
use Rattle.model.specs.Versions.{recast}
use Rattle.model.specs.Retries.{used}
use Rattle.model.specs.Closing.{open?, closed, settled}
use Rattle.model.specs.Answers.{answering, awaited, again, succeeds, moves, moved, heard, asked_again}
use Rattle.model.specs.Refusals.{before_start}
use Rattle.model.specs.Outcomes.{number_of, judge, answer_order}
use Rattle.model.proofs.Lists.{clash, and_r}
use Rattle.model.proofs.Digits.{used_other, used_comm}
use Rattle.model.specs.declared.Broadcast.{Broadcast}
use Rattle.model.specs.declared.Version.{Version}
use Rattle.model.specs.declared.Event.{Event}
use Rattle.model.specs.declared.Outcome.{Outcome}
use Rattle.model.specs.declared.Outcome.TheVariants.{Early, Unawaited}

pub member_none : (p : ℕ) → member 0 p ≡ false
unfolding member
member_none p = ap (λ (x : ℕ). eqb x 1) (let z : 0 / 2 ^ p ≡ 0 = zero-div (2 ^ p) in ap (λ (x : ℕ). x % 2) z)

-- what an answer for a version gets, in the order of its kind
abbrev pub holds_for : Event → Version → Outcome → Bool
holds_for e v o =
    cond (eqb (number_of o) (number_of Unawaited)) (not (awaited e v)) (eqb (number_of o) (number_of Early) && before_start e v)

abbrev pub unheard : Event → Version → Outcome
unheard e v = judge (holds_for e v) answer_order

-- ---- two moves

adds_comm : (a b : Bool) (x m n : ℕ) → cond b (cond a (x + m) x + n) (cond a (x + m) x) ≡ cond a (cond b (x + n) x + m) (cond b (x + n) x)
adds_comm true true x m n = omega arith
adds_comm true false x m n = refl
adds_comm false true x m n = refl
adds_comm false false x m n = refl

subs_comm : (a b : Bool) (x m n : ℕ) → cond b (cond a x (x - m)) (cond a x (x - m) - n) ≡ cond a (cond b x (x - n)) (cond b x (x - n) - m)
subs_comm true true x m n = refl
subs_comm true false x m n = refl
subs_comm false true x m n = refl
subs_comm false false x m n = sub_right_comm x m n

module _ (most : ℕ) (small : most ≤ 7) where
  -- the retries that a system has after its answer
  abbrev retries_after : Event → Broadcast → ℕ
  retries_after e c = cond (again most e c) (used c.retries (answering e) + 1) 0

  pub retries_fit_lem : (e : Event) (c : Broadcast) → retries_after e c < 8
  unfolding again
  retries_fit_lem e c = go (again most e c) refl
    where
      go : (b : Bool) → again most e c ≡ b → cond b (used c.retries (answering e) + 1) 0 < 8
      go true q =
          let h : used c.retries (answering e) < most =
          ltb-true _ _ (and_r (eqb e.kind 12) (ltb (used c.retries (answering e)) most) q) in
          omega arith
      go false q = omega arith

  -- the systems that answer, which are not the same
  module _ (e f : Event) (c : Broadcast) (le : 1 ≤ answering e) (lf : 1 ≤ answering f) (n : answering e ≡ answering f → ⊥) where
    -- another system's count
    other_count : used (moved most e c).retries (answering f) ≡ used c.retries (answering f)
    unfolding moved
    other_count = used_other c.retries (answering e) (retries_after e c) (retries_fit_lem e c) (answering f) le lf n

    again_other : again most f (moved most e c) ≡ again most f c
    unfolding again
    again_other = rw other_count

    -- another system's place in the waiting set
    member_other : member c.waiting (answering e) ≡ true → member (moved most e c).waiting (answering f)
        ≡ member c.waiting (answering f)
    unfolding moved
    member_other h = go (again most e c)
      where
        go : (a : Bool) → member (cond a c.waiting (c.waiting - 2 ^ answering e)) (answering f) ≡ member c.waiting (answering f)
        go true = refl
        go false = without_other c.waiting (answering e) (answering f) h (λ q. n (sym q))

    -- the second of two answers, by what the broadcast was before the first
    second : moved most f (moved most e c)
        ≡ moves (again most f c) (succeeds f) (answering f) (used c.retries (answering f)) (moved most e c)
    unfolding moved
    second = ap₂ (λ (a : Bool) (d : ℕ). moves a (succeeds f) (answering f) d (moved most e c)) again_other other_count

  moved_comm : (e f : Event) (c : Broadcast) → 1 ≤ answering e → 1 ≤ answering f → (answering e ≡ answering f → ⊥)
      → moved most f (moved most e c) ≡ moved most e (moved most f c)
  unfolding moved
  moved_comm e f c le lf n =
      second e f c le lf n
      ∙ (λ i. record {
        purpose = c.purpose;
        start = c.start;
        confirmed = adds_comm (not (again most e c) && succeeds e) (not (again most f c) && succeeds f) c.confirmed
            (2 ^ answering e) (2 ^ answering f) i;
        waiting = subs_comm (again most e c) (again most f c) c.waiting (2 ^ answering e) (2 ^ answering f) i;
        failed = adds_comm (not (again most e c) && not (succeeds e)) (not (again most f c) && not (succeeds f)) c.failed
            (2 ^ answering e) (2 ^ answering f) i;
        retries = used_comm c.retries (answering e) (retries_after e c) (retries_fit_lem e c) (answering f) (retries_after f c)
            (retries_fit_lem f c) le lf n i;
      })
      ∙ sym (second f e c lf le (λ x. n (sym x)))

  -- ---- the version

  pub heard_comm : (e f : Event) (v : Version) → 1 ≤ answering e → 1 ≤ answering f → (answering e ≡ answering f → ⊥)
      → heard most f (heard most e v) ≡ heard most e (heard most f v)
  unfolding heard
  heard_comm e f v le lf n =
      λ i. recast v v.status (stamps v.stamp e.time f.time i) v.live v.new (moved_comm e f v.cast le lf n i)
    where
      stamps : (a b c : ℕ) → max (max a b) c ≡ max (max a c) b
      stamps a b c = omega arith

  -- what another's answer gets is not changed by one that is awaited
  pub unheard_other : (e f : Event) (v : Version) → 1 ≤ answering e → 1 ≤ answering f → (answering e ≡ answering f → ⊥) → awaited e v ≡ true
      → unheard f (heard most e v) ≡ unheard f v
  unfolding heard moved
  unheard_other e f v le lf n h = rw (member_other e f v.cast le lf n h)

  pub asked_other : (e f : Event) (v : Version) → 1 ≤ answering e → 1 ≤ answering f → (answering e ≡ answering f → ⊥)
      → asked_again most f (heard most e v) ≡ asked_again most f v
  unfolding asked_again heard moved
  asked_other e f v le lf n = rw (again_other e f v.cast le lf n)

pub nobody : (w : Version) (p : ℕ) → open? w ≡ false → member w.cast.waiting p ≡ false
nobody w p e =
    subst (λ (s : ℕ). member s p ≡ false) (sym (eqb-true w.cast.waiting 0 (not-false (eqb w.cast.waiting 0) e))) (member_none p)

-- nor by the close
pub unheard_settled : (f : Event) (w : Version) → unheard f (settled w) ≡ unheard f w
unfolding settled closed
unheard_settled f w = go (open? w) refl
  where
    go : (b : Bool) → open? w ≡ b → unheard f (cond b w (closed w)) ≡ unheard f w
    go true e = refl
    go false e = rw (nobody w (answering f) e)

-- a broadcast for which somebody waits is open
pub open_waits : (f : Event) (w : Version) → awaited f w ≡ true → open? w ≡ true
open_waits f w h = go (open? w) refl
  where
    go : (b : Bool) → open? w ≡ b → open? w ≡ true
    go true e = e
    go false e = clash (sym (nobody w (answering f) e) ∙ h)
