-- A reply or silence that is heard leaves a version in a broadcast.
-- Assumes nothing.
use mathlib.Core.Path.{◌≡◌, refl, sym, ap, ap₂, ◌∙◌, subst}
use Prim.Native.Nat.{ℕ, ◌+◌, ◌-◌, ◌^◌, ◌≤◌, ◌<◌, max}
use mathlib.Core.Bool.{Bool, true, false, cond, not, ◌&&◌, ◌||◌, or-true}
use mathlib.Core.List.{List, [], ◌∷◌}
use lib.Dec.{eqb, leb, ltb}
use native.Mathlib.Omega.{arith}
use borrow.Author.Tests.{eqb-true, eqb-false, eq-eqb, ltb-true, lt-ltb, leb-true, le-leb}
use lib.Pow.{pow_pos}
use Rattle.systems.specs.Set.{member}
use Rattle.systems.proofs.Laws.{without_same, without_other}
use Rattle.model.specs.Basics.{iff, implies, none, with}
use Rattle.model.specs.Numbers.{is_time, is_set}
use Rattle.model.specs.Retries.{used, with_used}
use Rattle.model.specs.Sound.{cancel_pending, is_sending, is_purposed, activate, apart, sets_apart, retries_fit}
use Rattle.model.specs.Answers.{answering, awaited, again, succeeds, moves, moved, heard}
use Rattle.model.proofs.Lists.{and_l, and_r, both_true, conj_at, conj_all, or_l, iff_true, back_equal}
use Rattle.model.proofs.Arrivals.{retries_fit_lem}
use Rattle.model.proofs.Digits.{used-same, used_other, used-fits}
use Rattle.model.proofs.SoundRows.{CastRanges, cast_ranges, ranges_cast, Row}
use Rattle.model.proofs.SoundSets.{every_at, every-all, set_with, set_without, some_member, some_zero, Apart, apart_says}
use Rattle.model.proofs.SoundSets.{says_apart, apart-turned, apart_with, apart_with_r, apart_without, apart_without_r}
use Rattle.model.proofs.SoundCasts.{Casting, purposed_created, no_canceller}
use Rattle.model.specs.declared.Broadcast.{Broadcast}
use Rattle.model.specs.declared.Event.{Event}
use Rattle.model.specs.declared.Version.{Version}

-- ---- times

pub time_is : (t : ℕ) → 0 < t → t < 2 ^ 32 → is_time t ≡ true
time_is t h k = both_true (leb 1 t) (ltb t (2 ^ 32)) (le-leb 1 t h) (lt-ltb t (2 ^ 32) k)

pub is_time_lem : (t : ℕ) → is_time t ≡ true → (1 ≤ t) × (t < 2 ^ 32)
is_time_lem t h = (leb-true 1 t (and_l (leb 1 t) (ltb t (2 ^ 32)) h), ltb-true t (2 ^ 32) (and_r (leb 1 t) (ltb t (2 ^ 32)) h))

pub time_max : (s t : ℕ) → is_time s ≡ true → is_time t ≡ true → is_time (max s t) ≡ true
time_max s t h k =
    let a = is_time_lem s h in
    let b = is_time_lem t k in
    let u : s < 2 ^ 32 = a.1 in
    let w : t < 2 ^ 32 = b.1 in
    let l : 1 ≤ s = a.0 in
    time_is (max s t) (omega arith) (omega arith)

-- the sets, pair by pair
pub record Parted (c : Broadcast) : Type 0 where
  pub cw : Apart c.confirmed c.waiting
  pub cf : Apart c.confirmed c.failed
  pub wf : Apart c.waiting c.failed

abbrev pairs : Broadcast → List Bool
pairs c = apart c.confirmed c.waiting ∷ apart c.confirmed c.failed ∷ apart c.waiting c.failed ∷ []

pub parted_of : (c : Broadcast) → sets_apart c ≡ true → Parted c
unfolding sets_apart
parted_of c h = record {
  cw = apart_says c.confirmed c.waiting (conj_at (pairs c) h 0);
  cf = apart_says c.confirmed c.failed (conj_at (pairs c) h 1);
  wf = apart_says c.waiting c.failed (conj_at (pairs c) h 2);
}

pub of_parted : (c : Broadcast) → Parted c → sets_apart c ≡ true
unfolding sets_apart
of_parted c r =
    conj_all (pairs c)
    (with (says_apart c.confirmed c.waiting r.cw)
    (with (says_apart c.confirmed c.failed r.cf) (with (says_apart c.waiting c.failed r.wf) none)))

-- ---- a system leaves the waiting, or is asked again
module _ (p d : ℕ) (l : 1 ≤ p) (m : p < 64) (h : d < 8) (c : Broadcast) (w : member c.waiting p ≡ true) (r : Parted c) where
  out_c : member c.confirmed p ≡ false
  out_c = apart-turned c.confirmed c.waiting p r.cw l (omega arith) w

  out_f : member c.failed p ≡ false
  out_f = r.wf.out p l (omega arith) w

  parted_moves : (again success : Bool) (n : ℕ) → Parted (moves again success p n c)
  parted_moves true success n = record { cw = r.cw; cf = r.cf; wf = r.wf }
  parted_moves false true n = record {
    cw = apart_with c.confirmed (c.waiting - 2 ^ p) p (apart_without_r c.confirmed c.waiting p r.cw w) out_c
        (without_same c.waiting p w);
    cf = apart_with c.confirmed c.failed p r.cf out_c out_f;
    wf = apart_without c.waiting c.failed p r.wf w;
  }
  parted_moves false false n = record {
    cw = apart_without_r c.confirmed c.waiting p r.cw w;
    cf = apart_with_r c.confirmed c.failed p r.cf out_c out_f;
    wf = apart_with_r (c.waiting - 2 ^ p) c.failed p (apart_without c.waiting c.failed p r.wf w)
        (without_same c.waiting p w) out_f;
  }

  ranges_moves : (again success : Bool) (n : ℕ) → cond again (n + 1) 0 < 8 → CastRanges c → CastRanges (moves again success p n c)
  ranges_moves a s n k x = record {
    purpose = x.purpose;
    start = x.start;
    confirmed = put (not a && s) c.confirmed x.confirmed out_c;
    waiting = take a;
    failed = put (not a && not s) c.failed x.failed out_f;
    retries = used-fits c.retries p (cond a (n + 1) 0) k l (omega arith) x.retries;
  }
    where
      put : (b : Bool) (s : ℕ) → is_set s ≡ true → member s p ≡ false → is_set (cond b (s + 2 ^ p) s) ≡ true
      put true s i o = set_with s p i l m o
      put false s i o = i

      take : (b : Bool) → is_set (cond b c.waiting (c.waiting - 2 ^ p)) ≡ true
      take true = x.waiting
      take false = set_without c.waiting p x.waiting l w

  abbrev kept_fit : Broadcast → ℕ → Bool
  kept_fit b q = member b.waiting q || eqb (used b.retries q) 0

  fits_moves : (again success : Bool) (n : ℕ) → cond again (n + 1) 0 < 8 → retries_fit c ≡ true
      → retries_fit (moves again success p n c) ≡ true
  unfolding retries_fit
  fits_moves a s n k x = every-all (kept_fit (moves a s p n c)) 63 (λ q lq mq. go q lq mq (eqb q p) refl)
    where
      same : (b : Bool) → cond b (n + 1) 0 < 8
          → (member (cond b c.waiting (c.waiting - 2 ^ p)) p || eqb (used (with_used c.retries p (cond b (n + 1) 0)) p) 0) ≡ true
      same true k = rw w
      same false k = ap (λ (b : Bool). member (c.waiting - 2 ^ p) p || b) (eq-eqb _ 0 (used-same c.retries p 0 k))
          ∙ or-true (member (c.waiting - 2 ^ p) p)

      kept : (q : ℕ) → (q ≡ p → ⊥) → (b : Bool) → member (cond b c.waiting (c.waiting - 2 ^ p)) q ≡ member c.waiting q
      kept q ne true = refl
      kept q ne false = without_other c.waiting p q w ne

      go : (q : ℕ) → 1 ≤ q → q ≤ 63 → (b : Bool) → eqb q p ≡ b → kept_fit (moves a s p n c) q ≡ true
      go q lq mq true e = subst (λ (j : ℕ). kept_fit (moves a s p n c) j ≡ true) (sym (eqb-true q p e)) (same a k)
      go q lq mq false e =
          let ne : q ≡ p → ⊥ = eqb-false q p e in
          ap₂ (λ (x : Bool) (y : ℕ). x || eqb y 0) (kept q ne a)
          (used_other c.retries p (cond a (n + 1) 0) k q l lq (λ z. ne (sym z)))
          ∙ every_at (kept_fit c) 63 q x lq mq

-- ---- the version
module _ (most : ℕ) (small : most ≤ 7) (e : Event) (v : Version) (row : Row v) (aw : awaited e v ≡ true) (l : 1 ≤ answering e)
    (m : answering e < 64)
    (time : is_time e.time ≡ true) where
  waited : ltb 0 v.cast.waiting ≡ true
  waited = some_member v.cast.waiting (answering e) aw

  pub is_sending_lem : is_sending v.status ≡ true
  is_sending_lem = rw waited at row.waiting

  at3 : (P : ℕ → Type 0) → P v.status → P 3
  at3 P h = subst P (eqb-true v.status 3 is_sending_lem) h

  pub casting_heard : Casting (heard most e v)
  unfolding heard moved
  casting_heard = record {
    ranges = record {
      tn = row.ranges.tn;
      number = row.ranges.number;
      status = row.ranges.status;
      stamp = time_max v.stamp e.time row.ranges.stamp time;
      new = row.ranges.new;
      old = row.ranges.old;
      canceller = row.ranges.canceller;
      cast = ranges_cast (moved most e v.cast)
          (ranges_moves (answering e) 0 l m (omega arith) v.cast aw parts (again most e v.cast) (succeeds e)
          (used v.cast.retries (answering e))
          (retries_fit_lem most small e v.cast) (cast_ranges v.cast row.ranges.cast));
    };
    providers = row.providers;
    new = row.new;
    old = row.old;
    created = purposed_created v row (back (λ (s : ℕ). is_purposed s ≡ true) refl);
    cause = row.cause;
    sending = is_sending_lem;
    uncancelled = no_canceller v row (back (λ (s : ℕ). eqb s cancel_pending ≡ false) refl);
    apart = of_parted (moved most e v.cast)
        (parted_moves (answering e) 0 l m (omega arith) v.cast aw parts (again most e v.cast) (succeeds e)
        (used v.cast.retries (answering e)));
    retries = fits_moves (answering e) 0 l m (omega arith) v.cast aw parts (again most e v.cast) (succeeds e)
        (used v.cast.retries (answering e))
        (retries_fit_lem most small e v.cast) row.retries;
    start = iff_true (ltb 0 v.cast.start) (rw is_sending_lem at row.start);
    aimed = iff_true (ltb 0 v.cast.purpose) (at3 (λ (s : ℕ). iff (ltb 0 v.cast.purpose) (is_purposed s) ≡ true)
        (and_l (iff (ltb 0 v.cast.purpose) (is_purposed v.status)) _ row.purpose));
    lasting = rw is_sending_lem at row.live;
    confirmed = more (v.live && eqb v.cast.purpose activate) (not (again most e v.cast) && succeeds e) row.confirmed;
    within = row.within;
  }
    where
      parts : Parted v.cast
      parts = parted_of v.cast row.apart

      back : (P : ℕ → Type 0) → P 3 → P v.status
      back P h = back_equal v.status 3 P is_sending_lem h

      -- a live version that is sending has a confirmed system, and keeps it
      more : (x b : Bool) → implies x (ltb 0 v.cast.confirmed || (eqb v.cast.waiting 0 && eqb v.cast.failed 0)) ≡ true
          → implies x (ltb 0 (cond b (v.cast.confirmed + 2 ^ answering e) v.cast.confirmed)
          || (eqb (moved most e v.cast).waiting 0 && eqb (moved most e v.cast).failed 0)) ≡ true
      more false b h = refl
      more true true h = or_l _ _
          (lt-ltb 0 (v.cast.confirmed + 2 ^ answering e) (let q : 0 < 2 ^ answering e = pow_pos (answering e) in omega arith))
      more true false h = or_l _ _
          (first (ltb 0 v.cast.confirmed) (eqb v.cast.failed 0) (rw (some_not v.cast.waiting waited) at h))
        where
          some_not : (s : ℕ) → ltb 0 s ≡ true → eqb s 0 ≡ false
          some_not s h = some_zero s ∙ ap not h

          first : (a b : Bool) → (a || (false && b)) ≡ true → a ≡ true
          first true b h = refl
          first false b h = h
