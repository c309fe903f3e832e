-- A version in a broadcast: sound while the broadcast is open, and when it closes; and the version that its close retires.
-- Assumes nothing.
use mathlib.Core.Path.{◌≡◌, refl, sym, ap, ◌∙◌, subst}
use Prim.Native.Nat.{ℕ}
use mathlib.Core.Bool.{Bool, true, false, cond, not, ◌&&◌, ◌||◌}
use mathlib.Core.List.{[], ◌∷◌}
use lib.Dec.{eqb, leb, ltb}
use borrow.Author.Tests.{eqb-true, not-false}
use Rattle.model.specs.Versions.{recast, repurposed}
use Rattle.model.specs.Basics.{among, iff, implies}
use Rattle.model.specs.Numbers.{is_time}
use Rattle.model.specs.Sound.{conflict, cancel_pending, sending, failure, partial_failure, active, old, is_worked, is_sending, needs_new}
use Rattle.model.specs.Sound.{is_status, is_live}
use Rattle.model.specs.Sound.{is_purposed, activate, providers_fit, new_whole, old_whole, sides_needed, cause_fits, sets_apart, retries_fit}
use Rattle.model.specs.Sound.{live_confirmed, within_fits, sends}
use Rattle.model.specs.Closing.{open?, close_by, close_to, closed, retired}
use Rattle.model.proofs.Lists.{clash, and_r, both_true, or_l, iff_false, back_equal}
use Rattle.model.proofs.SoundRows.{CastRanges, cast_ranges, ranges_cast, Ranges, Row}
use Rattle.model.proofs.SoundSets.{some_zero}
use Rattle.model.specs.declared.Broadcast.{Broadcast}
use Rattle.model.specs.declared.Version.{Version}

-- a version in a broadcast, whether or not anybody is still asked
pub record Casting (w : Version) : Type 0 where
  pub ranges : Ranges w
  pub providers : providers_fit w ≡ true
  pub new : new_whole w.new ≡ true
  pub old : old_whole w.old ≡ true
  pub created : w.new.created ≡ true
  pub cause : cause_fits w.old ≡ true
  pub sending : is_sending w.status ≡ true
  pub uncancelled : ltb 0 w.canceller ≡ false
  pub apart : sets_apart w.cast ≡ true
  pub retries : retries_fit w.cast ≡ true
  pub start : ltb 0 w.cast.start ≡ true
  pub aimed : ltb 0 w.cast.purpose ≡ true
  pub lasting : (w.live || eqb w.cast.purpose activate) ≡ true
  pub confirmed : live_confirmed w ≡ true
  pub within : within_fits w ≡ true

at_sending : (P : ℕ → Type 0) (s : ℕ) → is_sending s ≡ true → P sending → P s
at_sending P s h p = subst P (sym (eqb-true s sending h)) p

waits : (s : ℕ) → not (eqb s 0) ≡ true → ltb 0 s ≡ true
waits s h = not_not (ltb 0 s) (ap not (sym (some_zero s)) ∙ h)
  where
    not_not : (b : Bool) → not (not b) ≡ true → b ≡ true
    not_not true q = refl
    not_not false q = q

pub row_open : (w : Version) → Casting w → open? w ≡ true → Row w
unfolding sides_needed
row_open w c o = record {
  ranges = c.ranges;
  providers = c.providers;
  new = c.new;
  old = c.old;
  one = or_l w.new.created w.old.created c.created;
  needed =
      at_sending
      (λ (s : ℕ).
      (implies (eqb s conflict) w.old.created && implies (eqb s cancel_pending) (w.new.created && w.old.created)
      && implies (needs_new s) w.new.created)
      ≡ true)
      w.status c.sending c.created;
  cause = c.cause;
  canceller = rw c.uncancelled (at_sending (λ (s : ℕ). iff false (eqb s cancel_pending) ≡ true) w.status c.sending refl);
  apart = c.apart;
  retries = c.retries;
  start = rw c.start c.sending;
  waiting = rw (waits w.cast.waiting o) c.sending;
  purpose =
      at_sending
      (λ (s : ℕ).
      (iff (ltb 0 w.cast.purpose) (is_purposed s) && implies (among s (failure ∷ partial_failure ∷ [])) (eqb w.cast.purpose activate))
      ≡ true)
      w.status c.sending (rw c.aimed);
  live = rw c.sending c.lasting;
  confirmed = c.confirmed;
  within = c.within;
}

-- ---- the close

-- what the status at the close brings, by: nobody failed (a), nobody confirmed (b), the purpose is activate
pub record AtClose (s : ℕ) (a b act : Bool) : Type 0 where
  pub small : is_status s ≡ true
  pub not_sending : is_sending s ≡ false
  pub not_worked : is_worked s ≡ false
  pub no1 : eqb s conflict ≡ false
  pub no2 : eqb s cancel_pending ≡ false
  pub few : (p : ℕ) → leb p 3 ≡ true → leb (cond (eqb s old) 0 p) 3 ≡ true
  pub aims : (p : ℕ) → ltb 0 p ≡ true → iff (ltb 0 (cond (eqb s old) 0 p)) (is_purposed s) ≡ true
  pub activates : (p : ℕ) → eqb p activate ≡ act
      → implies (among s (failure ∷ partial_failure ∷ [])) (eqb (cond (eqb s old) 0 p) activate) ≡ true
  pub live : iff (is_live s) (is_live s) ≡ true
  pub confirms : (p : ℕ) → eqb p activate ≡ act
      → implies (is_live s && eqb (cond (eqb s old) 0 p) activate) (not b || (true && a)) ≡ true

close_old : (a b act : Bool) → AtClose old a b act
close_old a b act = record {
  small = refl;
  not_sending = refl;
  not_worked = refl;
  no1 = refl;
  no2 = refl;
  few = λ p h. refl;
  aims = λ p h. refl;
  activates = λ p h. refl;
  live = refl;
  confirms = λ p h. refl;
}

-- every other status at the close keeps the purpose
close_kept : (s : ℕ) (a b act : Bool) → among s (failure ∷ partial_failure ∷ active ∷ []) ≡ true
    → implies (among s (failure ∷ partial_failure ∷ [])) act ≡ true
    → implies (is_live s && act) (not b || (true && a)) ≡ true → AtClose s a b act
close_kept s a b act m f k = go (eqb s 4) refl (eqb s 5) refl (eqb s 6) refl
  where
    at : (n : ℕ) → eqb s n ≡ true → AtClose n a b act → AtClose s a b act
    at n e r = subst (λ (j : ℕ). AtClose j a b act) (sym (eqb-true s n e)) r

    kept : (n : ℕ) → eqb s n ≡ true → eqb n old ≡ false → is_status n ≡ true → is_sending n ≡ false → is_worked n ≡ false
        → eqb n conflict ≡ false
        → eqb n cancel_pending ≡ false → is_purposed n ≡ true → (x : Bool) → is_live n ≡ x → AtClose n a b act
    kept n e n7 l n3 w n1 n2 u x y = record {
      small = l;
      not_sending = n3;
      not_worked = w;
      no1 = n1;
      no2 = n2;
      few = λ p h. rw n7 h;
      aims = λ p h. rw (n7, h, u);
      activates = λ p h. rw (n7, h) (subst (λ (j : ℕ). implies (among j (failure ∷ partial_failure ∷ [])) act ≡ true) (eqb-true s n e) f);
      live = rw y (same x);
      confirms = λ p h. rw (n7, h)
          (subst (λ (j : ℕ). implies (is_live j && act) (not b || (true && a)) ≡ true) (eqb-true s n e) k);
    }
      where
        same : (z : Bool) → iff z z ≡ true
        same true = refl
        same false = refl

    go : (x : Bool) → eqb s 4 ≡ x → (y : Bool) → eqb s 5 ≡ y → (z : Bool) → eqb s 6 ≡ z → AtClose s a b act
    go true p y q z r = at 4 p (kept 4 p refl refl refl refl refl refl refl false refl)
    go false p true q z r = at 5 q (kept 5 q refl refl refl refl refl refl refl true refl)
    go false p false q true r = at 6 r (kept 6 r refl refl refl refl refl refl refl true refl)
    go false p false q false r = clash (rw (p, q, r) at m)

at_close : (a b act dis : Bool) → AtClose (close_by a b act dis) a b act
at_close true true true dis = close_kept active true true true refl refl refl
at_close true false true dis = close_kept active true false true refl refl refl
at_close false true true dis = close_kept failure false true true refl refl refl
at_close false false true dis = close_kept partial_failure false false true refl refl refl
at_close true b false true = close_old true b false
at_close false true false true = close_kept active false true false refl refl refl
at_close false false false true = close_old false false false
at_close true true false false = close_kept active true true false refl refl refl
at_close true false false false = close_kept active true false false refl refl refl
at_close false true false false = close_kept active false true false refl refl refl
at_close false false false false = close_kept active false false false refl refl refl

pub at_closed : (c : Broadcast) → AtClose (close_to c) (eqb c.failed 0) (eqb c.confirmed 0) (eqb c.purpose activate)
unfolding close_to
at_closed c = at_close (eqb c.failed 0) (eqb c.confirmed 0) (eqb c.purpose activate) (eqb c.purpose 3)

-- a broadcast that ended in a status
abbrev ended : ℕ → Broadcast → Broadcast
ended s c = repurposed c (cond (eqb s old) 0 c.purpose) 0

pub row_closed : (w : Version) → Casting w → open? w ≡ false → Row (closed w)
unfolding closed sides_needed sets_apart retries_fit
row_closed w c o = go (close_to w.cast) (at_closed w.cast)
  where
    empty : eqb w.cast.waiting 0 ≡ true
    empty = not-false (eqb w.cast.waiting 0) o

    r : CastRanges w.cast
    r = cast_ranges w.cast c.ranges.cast

    none_waits : ltb 0 w.cast.waiting ≡ false
    none_waits = off (ltb 0 w.cast.waiting) (sym (some_zero w.cast.waiting) ∙ empty)
      where
        off : (b : Bool) → not b ≡ true → b ≡ false
        off true h = clash h
        off false h = refl

    some_confirmed : (b : Bool) → eqb w.cast.confirmed 0 ≡ b → ltb 0 w.cast.confirmed ≡ not b
    some_confirmed b e = turned (ltb 0 w.cast.confirmed) b (sym (some_zero w.cast.confirmed) ∙ e)
      where
        turned : (x b : Bool) → not x ≡ b → x ≡ not b
        turned true b q = ap not q
        turned false b q = ap not q

    go : (s : ℕ) → AtClose s (eqb w.cast.failed 0) (eqb w.cast.confirmed 0) (eqb w.cast.purpose activate)
        → Row (recast w s w.stamp (is_live s) w.new (ended s w.cast))
    go s a = record {
      ranges = record {
        tn = c.ranges.tn;
        number = c.ranges.number;
        status = a.small;
        stamp = c.ranges.stamp;
        new = c.ranges.new;
        old = c.ranges.old;
        canceller = c.ranges.canceller;
        cast = ranges_cast (ended s w.cast) (record {
          purpose = a.few w.cast.purpose r.purpose;
          start = refl;
          confirmed = r.confirmed;
          waiting = r.waiting;
          failed = r.failed;
          retries = r.retries;
        });
      };
      providers = c.providers;
      new = c.new;
      old = c.old;
      one = or_l w.new.created w.old.created c.created;
      needed = rw (a.no1, a.no2) (need (needs_new s) c.created);
      cause = c.cause;
      canceller = rw (c.uncancelled, a.no2);
      apart = c.apart;
      retries = c.retries;
      start = rw a.not_sending;
      waiting = rw (none_waits, a.not_sending);
      purpose = both_true _ _ (a.aims w.cast.purpose c.aimed) (a.activates w.cast.purpose refl);
      live = rw a.not_sending a.live;
      confirmed = rw (some_confirmed (eqb w.cast.confirmed 0) refl, empty) (a.confirms w.cast.purpose refl);
      within = c.within;
    }
      where
        need : (x : Bool) → w.new.created ≡ true → implies x w.new.created ≡ true
        need true h = h
        need false h = refl

-- ---- the live version that a close retires

-- a live version that is not sending is in partial-failure or active
pub live_status : (x : Version) → Row x → x.live ≡ true → sends x ≡ false → is_live x.status ≡ true
live_status x row l n = is (is_live x.status) (rw (n, l) at row.live)
  where
    is : (b : Bool) → iff true b ≡ true → b ≡ true
    is b h = h

-- what partial-failure and active are, and are not
settled-status : (s : ℕ) → is_live s ≡ true → (is_purposed s ≡ true) × (eqb s cancel_pending ≡ false)
settled-status s h = go (eqb s 5) refl (eqb s 6) refl
  where
    at : (n : ℕ) → eqb s n ≡ true → (is_purposed n ≡ true) × (eqb n cancel_pending ≡ false) → (is_purposed s ≡ true)
        × (eqb s cancel_pending ≡ false)
    at n e p = back_equal s n (λ (j : ℕ). (is_purposed j ≡ true) × (eqb j cancel_pending ≡ false)) e p

    go : (a : Bool) → eqb s 5 ≡ a → (b : Bool) → eqb s 6 ≡ b → (is_purposed s ≡ true) × (eqb s cancel_pending ≡ false)
    go true p b q = at 5 p (refl, refl)
    go false p true q = at 6 q (refl, refl)
    go false p false q = clash (rw (p, q) at h)

purposed_needs : (s : ℕ) → is_purposed s ≡ true → needs_new s ≡ true
purposed_needs s p = rw p

-- in a status with a purpose the new side has created
pub purposed_created : (x : Version) → Row x → is_purposed x.status ≡ true → x.new.created ≡ true
unfolding sides_needed
purposed_created x row p =
    let s : ℕ = x.status in
    is (needs_new s) x.new.created (purposed_needs s p)
    (and_r (implies (eqb s conflict) x.old.created && implies (eqb s cancel_pending) (x.new.created && x.old.created))
    _ row.needed)
  where
    is : (a c : Bool) → a ≡ true → implies a c ≡ true → c ≡ true
    is true c e h = h
    is false c e h = clash e

-- outside cancel-pending nobody is marked as canceller
pub no_canceller : (x : Version) → Row x → eqb x.status cancel_pending ≡ false → ltb 0 x.canceller ≡ false
no_canceller x row n = iff_false (ltb 0 x.canceller) (rw n at row.canceller)

pub row_retired : (stamp : ℕ) (x : Version) → is_time stamp ≡ true → Row x → x.live ≡ true → sends x ≡ false → Row (retired stamp x)
unfolding retired sides_needed sets_apart retries_fit
row_retired stamp x time row l n =
    let s = settled-status x.status (live_status x row l n) in
    let r : CastRanges x.cast = cast_ranges x.cast row.ranges.cast in
    record {
      ranges = record {
        tn = row.ranges.tn;
        number = row.ranges.number;
        status = refl;
        stamp = time;
        new = row.ranges.new;
        old = row.ranges.old;
        canceller = row.ranges.canceller;
        cast = ranges_cast (repurposed x.cast 0 x.cast.start)
            (record {
              purpose = refl;
              start = r.start;
              confirmed = r.confirmed;
              waiting = r.waiting;
              failed = r.failed;
              retries = r.retries;
            });
      };
      providers = row.providers;
      new = row.new;
      old = row.old;
      one = row.one;
      needed = purposed_created x row s.0;
      cause = row.cause;
      canceller = rw (no_canceller x row s.1);
      apart = row.apart;
      retries = row.retries;
      start = rw n at row.start;
      waiting = rw n at row.waiting;
      purpose = refl;
      live = refl;
      confirmed = refl;
      within = row.within;
    }
