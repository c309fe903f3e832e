-- An accepted event of kind 5, 9, 10 or 14 puts its version in a broadcast.
-- Assumes nothing.
use mathlib.Core.Path.{◌≡◌, refl, sym, ap, ◌∙◌}
use Prim.Native.Nat.{ℕ, ◌^◌, ◌≤◌}
use mathlib.Core.Bool.{Bool, true, false, cond, ◌&&◌, ◌||◌, or-true, and-false}
use mathlib.Core.List.{[], ◌∷◌}
use lib.Dec.{eqb, leb, ltb}
use native.Mathlib.Omega.{arith}
use borrow.Author.Tests.{eqb-true, lt-ltb}
use Rattle.systems.specs.Set.{member, meet}
use Rattle.model.specs.Basics.{among, iff, implies}
use Rattle.model.specs.Numbers.{ten_digits, is_time, is_provider, is_set}
use Rattle.model.specs.Retries.{used, no_retries}
use Rattle.model.specs.Sound.{pending, cancel_pending, failure, partial_failure, active, is_purposed, is_sending, activate, modify}
use Rattle.model.specs.Sound.{disconnect, is_live, new_whole, retries_fit, retries_in_range}
use Rattle.model.specs.Record.{is_broadcast, named, unused, well_formed}
use Rattle.model.specs.Standing.{standing_of, stands_for, status_for, unready}
use Rattle.model.specs.Broadcast.{resends, purpose_for, asked_for, new_for, opened}
use Rattle.model.proofs.Lists.{clash, and_l, and_r, both_true, conj_at, or_but, iff_true, iff_false, at_equal, back_equal}
use Rattle.model.proofs.Arrivals.{member_none}
use Rattle.model.proofs.Digits.{used_none}
use Rattle.model.proofs.Formed.{Fields, fields, at_kind}
use Rattle.model.proofs.SoundRows.{CastRanges, cast_ranges, ranges_cast, Row}
use Rattle.model.proofs.SoundSets.{every-all, set_none, set-meet, Apart, meet_in, meet_none}
use Rattle.model.proofs.SoundCasts.{Casting, purposed_created, no_canceller}
use Rattle.model.proofs.SoundAnswers.{time_is, parted_of, of_parted}
use Rattle.model.specs.declared.Event.{Event}
use Rattle.model.specs.declared.Version.{Version}

-- who has the standing of a side has created
pub stands_new : (e : Event) (v : Version) → standing_of e v ≡ 0 → v.new.created ≡ true
unfolding standing_of
stands_new e v h = go (eqb e.sender 0) v.new.created (eqb e.sender v.new.provider)
    (v.old.created && eqb e.sender v.old.provider) h
  where
    go : (a b c d : Bool) → ◌≡◌ {A = ℕ} (cond a 2 (cond (b && c) 0 (cond d 1 3))) 0 → b ≡ true
    go a true c d q = refl
    go true false c d q = absurd (omega arith)
    go false false c true q = absurd (omega arith)
    go false false c false q = absurd (omega arith)

pub stands_old : (e : Event) (v : Version) → standing_of e v ≡ 1 → v.old.created ≡ true
unfolding standing_of
stands_old e v h = go (eqb e.sender 0) (v.new.created && eqb e.sender v.new.provider) v.old.created
    (eqb e.sender v.old.provider) h
  where
    go : (a b c d : Bool) → ◌≡◌ {A = ℕ} (cond a 2 (cond b 0 (cond (c && d) 1 3))) 1 → c ≡ true
    go a b true d q = refl
    go true b false d q = absurd (omega arith)
    go false true false d q = absurd (omega arith)
    go false false false d q = absurd (omega arith)

pub none_used : retries_in_range no_retries ≡ true
unfolding retries_in_range
none_used = refl

-- what an event of these kinds may count on
pub record Allowed (e : Event) (v : Version) : Type 0 where
  pub stands : stands_for e.kind (standing_of e v) ≡ true
  pub allowed : status_for e.kind v.status ≡ true
  pub ready : unready e v ≡ false

module _ (e : Event) (v : Version) (al : Allowed e v) where
  pub status_of : (n : ℕ) → eqb e.kind n ≡ true → status_for n v.status ≡ true
  status_of n q = at_equal e.kind n (λ (k : ℕ). status_for k v.status ≡ true) q al.allowed

  pub stands_of : (n : ℕ) → eqb e.kind n ≡ true → stands_for n (standing_of e v) ≡ true
  stands_of n q = at_equal e.kind n (λ (k : ℕ). stands_for k (standing_of e v) ≡ true) q al.stands

module _ (selected : ℕ) (set : is_set selected ≡ true) (e : Event) (formed : well_formed e ≡ true) (v : Version) (row : Row v)
    (k : is_broadcast e.kind ≡ true) (al : Allowed e v) where
  live_active : eqb v.status active ≡ true → v.live ≡ true
  live_active q =
      iff_true v.live (at_equal v.status 6
      (λ (s : ℕ). cond (is_sending s) (v.live || eqb v.cast.purpose activate)
      (iff v.live (is_live s)) ≡ true) q row.live)

  not_live : eqb v.status pending ≡ true → v.live ≡ false
  not_live q =
      iff_false v.live (at_equal v.status 0
      (λ (s : ℕ). cond (is_sending s) (v.live || eqb v.cast.purpose activate)
      (iff v.live (is_live s)) ≡ true) q row.live)

  -- what the purpose, the confirmed and the asked must be
  record Aim (purpose confirmed waiting : ℕ) : Type 0 where
    small : leb purpose 3 ≡ true
    some : ltb 0 purpose ≡ true
    lasting : (v.live || eqb purpose activate) ≡ true
    conf : is_set confirmed ≡ true
    wait : is_set waiting ≡ true
    cw : Apart confirmed waiting
    confirms : implies (v.live && eqb purpose activate) (ltb 0 confirmed || (eqb waiting 0 && true)) ≡ true
    created : v.new.created ≡ true
    uncancelled : eqb v.status cancel_pending ≡ false

  nobody-apart : (s : ℕ) → Apart 0 s
  nobody-apart s = record { out = λ p l m h. clash (sym (member_none p) ∙ h) }

  -- 5: pending
  aim_activate : eqb v.status pending ≡ true → v.new.created ≡ true → Aim activate 0 selected
  aim_activate q c = record {
    small = refl;
    some = refl;
    lasting = or-true v.live;
    conf = set_none;
    wait = set;
    cw = nobody-apart selected;
    confirms = rw (not_live q);
    created = c;
    uncancelled = back_equal v.status 0 (λ (s : ℕ). eqb s cancel_pending ≡ false) q refl;
  }

  -- 9, 10: active
  aim_other : (p : ℕ) → leb p 3 ≡ true → ltb 0 p ≡ true → eqb p activate ≡ false → eqb v.status active ≡ true → Aim p 0 selected
  aim_other p small some other q = record {
    small = small;
    some = some;
    lasting = rw (live_active q);
    conf = set_none;
    wait = set;
    cw = nobody-apart selected;
    confirms = rw (other, and-false v.live);
    created = purposed_created v row (back_equal v.status 6 (λ (s : ℕ). is_purposed s ≡ true) q refl);
    uncancelled = back_equal v.status 6 (λ (s : ℕ). eqb s cancel_pending ≡ false) q refl;
  }

  -- 14: failed, partial-failure, active
  record Resent : Type 0 where
    purposed : is_purposed v.status ≡ true
    lasting : (v.live || eqb v.cast.purpose activate) ≡ true
    uncancelled : eqb v.status cancel_pending ≡ false

  resent : among v.status (failure ∷ partial_failure ∷ active ∷ []) ≡ true → Resent
  resent h = go (eqb v.status 4) refl (eqb v.status 5) refl (eqb v.status 6) refl
    where
      aims : (n : ℕ) → eqb v.status n ≡ true → implies (among n (failure ∷ partial_failure ∷ [])) (eqb v.cast.purpose activate) ≡ true
      aims n q =
          at_equal v.status n (λ (s : ℕ). implies (among s (failure ∷ partial_failure ∷ [])) (eqb v.cast.purpose activate) ≡ true) q
          (and_r (iff (ltb 0 v.cast.purpose) (is_purposed v.status)) _ row.purpose)

      by : (n : ℕ) → eqb v.status n ≡ true → is_purposed n ≡ true → eqb n cancel_pending ≡ false
          → (v.live || eqb v.cast.purpose activate) ≡ true → Resent
      by n q p c l = record {
        purposed = back_equal v.status n (λ (s : ℕ). is_purposed s ≡ true) q p;
        lasting = l;
        uncancelled =
            back_equal v.status n (λ (s : ℕ). eqb s cancel_pending ≡ false) q c;
      }

      go : (a : Bool) → eqb v.status 4 ≡ a → (b : Bool) → eqb v.status 5 ≡ b → (c : Bool) → eqb v.status 6 ≡ c → Resent
      go true p b q c r = by 4 p refl refl (ap (λ (x : Bool). v.live || x) (aims 4 p) ∙ or-true v.live)
      go false p true q c r = by 5 q refl refl (ap (λ (x : Bool). v.live || x) (aims 5 q) ∙ or-true v.live)
      go false p false q true r = by 6 r refl refl (rw (live_active r))
      go false p false q false r = clash (rw (p, q, r) at h)

  aim_resend : among v.status (failure ∷ partial_failure ∷ active ∷ []) ≡ true
      → Aim v.cast.purpose v.cast.confirmed (meet v.cast.failed selected)
  aim_resend h = record {
    small = r.purpose;
    some = iff_true (ltb 0 v.cast.purpose)
        (rw s.purposed at (and_l (iff (ltb 0 v.cast.purpose) (is_purposed v.status)) _ row.purpose));
    lasting = s.lasting;
    conf = r.confirmed;
    wait = both-set;
    cw = record { out = λ p l m q. go p l m q (member (meet v.cast.failed selected) p) refl };
    confirms = more (v.live && eqb v.cast.purpose activate) (ltb 0 v.cast.confirmed) (eqb v.cast.failed 0)
        refl row.confirmed;
    created = purposed_created v row s.purposed;
    uncancelled = s.uncancelled;
  }
    where
      s : Resent
      s = resent h

      r : CastRanges v.cast
      r = cast_ranges v.cast row.ranges.cast

      both-set : is_set (meet v.cast.failed selected) ≡ true
      both-set = set-meet v.cast.failed selected

      go : (p : ℕ) → 1 ≤ p → p ≤ 63 → member v.cast.confirmed p ≡ true → (b : Bool) → member (meet v.cast.failed selected) p ≡ b
          → member (meet v.cast.failed selected) p ≡ false
      go p l m q true e =
          clash (sym ((parted_of v.cast row.apart).cf.out p l m q) ∙ meet_in v.cast.failed selected p l m e)
      go p l m q false e = e

      more : (x y z : Bool) → eqb v.cast.failed 0 ≡ z → implies x (y || (eqb v.cast.waiting 0 && z)) ≡ true
          → implies x (y || (eqb (meet v.cast.failed selected) 0 && true)) ≡ true
      more false y z e q = refl
      more true true z e q = refl
      more true false z e q =
          let f : z ≡ true = and_r (eqb v.cast.waiting 0) z q in
          let n : v.cast.failed ≡ 0 = eqb-true v.cast.failed 0 (e ∙ f) in
          rw (n, meet_none selected)

  aim : Aim (purpose_for e v) (cond (resends e) v.cast.confirmed 0) (asked_for selected e v)
  unfolding asked_for
  aim = go (eqb e.kind 14) refl (eqb e.kind 5) refl (eqb e.kind 9) refl (eqb e.kind 10) refl
    where
      go : (a : Bool) → eqb e.kind 14 ≡ a → (b : Bool) → eqb e.kind 5 ≡ b → (c : Bool) → eqb e.kind 9 ≡ c
          → (d : Bool) → eqb e.kind 10 ≡ d
          → Aim (cond a v.cast.purpose (cond b activate (cond c modify disconnect))) (cond a v.cast.confirmed 0)
          (cond a (meet v.cast.failed selected) selected)
      go true p b q c x d y = aim_resend (status_of e v al 14 p)
      go false p true q c x d y = aim_activate (status_of e v al 5 q) (stands_new e v (eqb-true (standing_of e v) 0 (stands_of e v al 5 q)))
      go false p false q true x d y = aim_other modify refl refl refl (status_of e v al 9 x)
      go false p false q false x true y = aim_other disconnect refl refl refl (status_of e v al 10 y)
      go false p false q false x false y = clash (rw (p, q, x, y) at k)

  -- 9 replaces the LRN of a side that has created
  new_whole_lem : new_whole (new_for e v) ≡ true
  unfolding new_whole
  new_whole_lem = go (eqb e.kind 9) refl
    where
      lrn : eqb e.kind 9 ≡ true → ten_digits e.lrn.0 ≡ true
      lrn q =
          conj_at (unused e.other ∷ unused e.mark ∷ unused e.cause ∷ ten_digits e.lrn.0 ∷ named e.version
          ∷ unused e.due ∷ [])
          (at_kind e formed 9 (eqb-true e.kind 9 q)) 3

      due : is_time v.new.due ≡ true
      due = and_l (is_time v.new.due) (ten_digits v.new.lrn.0) (rw aim.created at row.new)

      go : (b : Bool) → eqb e.kind 9 ≡ b
          → new_whole (cond b (record { provider = v.new.provider; created = v.new.created; lrn = e.lrn; due = v.new.due }) v.new)
          ≡ true
      go true q = rw aim.created (both_true (is_time v.new.due) (ten_digits e.lrn.0) due (lrn q))
      go false q = row.new

  new_same : ((new_for e v).provider ≡ v.new.provider) × ((new_for e v).created ≡ v.new.created)
  new_same = go (eqb e.kind 9)
    where
      go : (b : Bool)
          → ((cond b (record { provider = v.new.provider; created = v.new.created; lrn = e.lrn; due = v.new.due }) v.new).provider
          ≡ v.new.provider)
          × ((cond b (record { provider = v.new.provider; created = v.new.created; lrn = e.lrn; due = v.new.due }) v.new).created
          ≡ v.new.created)
      go true = (refl, refl)
      go false = (refl, refl)

  pub purpose_lasts : eqb (opened selected e v).cast.purpose activate ≡ false → v.live ≡ true
  unfolding opened
  purpose_lasts h = or_but v.live (eqb (purpose_for e v) activate) aim.lasting h

  pub casting_opened : Casting (opened selected e v)
  unfolding opened retries_fit
  casting_opened =
      let f : Fields e = fields e formed in
      record {
        ranges = record {
          tn = row.ranges.tn;
          number = row.ranges.number;
          status = refl;
          stamp = time_is e.time f.timed f.time;
          new = ap is_provider new_same.0 ∙ row.ranges.new;
          old = row.ranges.old;
          canceller = row.ranges.canceller;
          cast = ranges_cast (opened selected e v).cast (record {
            purpose = aim.small;
            start = lt-ltb e.time (2 ^ 32) f.time;
            confirmed = aim.conf;
            waiting = aim.wait;
            failed = set_none;
            retries = none_used;
          });
        };
        providers = ap (λ (p : ℕ). iff v.within (eqb p v.old.provider)) new_same.0 ∙ row.providers;
        new = new_whole_lem;
        old = row.old;
        created = new_same.1 ∙ aim.created;
        cause = row.cause;
        sending = refl;
        uncancelled = no_canceller v row aim.uncancelled;
        apart = of_parted (opened selected e v).cast (record { cw = aim.cw; cf = none_in _; wf = none_in _ });
        retries = every-all (λ (p : ℕ). member (asked_for selected e v) p || eqb (used no_retries p) 0) 63
            (λ p l m. rw (used_none p) (or-true (member (asked_for selected e v) p)));
        start = lt-ltb 0 e.time f.timed;
        aimed = aim.some;
        lasting = aim.lasting;
        confirmed = aim.confirms;
        within = row.within;
      }
    where
      none_in : (s : ℕ) → Apart s 0
      none_in s = record { out = λ p l m h. member_none p }
