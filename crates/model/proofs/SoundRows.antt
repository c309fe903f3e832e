-- A sound version, clause by clause; and what is outside a broadcast stays sound when its sides and status change.
-- Assumes nothing.
use mathlib.Core.Path.{◌≡◌, refl, sym, ap, ap₂, ◌∙◌, subst}
use Prim.Native.Nat.{ℕ, ◌^◌}
use mathlib.Core.Bool.{Bool, true, false, cond, not, ◌&&◌, ◌||◌}
use mathlib.Core.List.{List, [], ◌∷◌}
use lib.Dec.{eqb, leb, ltb}
use lib.ListN.{get_or}
use borrow.Author.Tests.{eqb-true}
use Rattle.model.specs.Versions.{restated}
use Rattle.model.specs.Basics.{among, iff, implies, none, with}
use Rattle.model.specs.Numbers.{ten_digits, is_number, is_time, is_provider, is_set}
use Rattle.model.specs.Sound.{pending, conflict, cancel_pending, failure, partial_failure, canceled, is_worked, is_sending}
use Rattle.model.specs.Sound.{needs_new, is_status, is_live}
use Rattle.model.specs.Sound.{is_purposed, in_range, cast_in_range, retries_in_range, providers_fit, new_whole, old_whole, one_created}
use Rattle.model.specs.Sound.{sides_needed, cause_fits, canceller_fits, sets_apart, retries_fit, start_fits, waiting_fits, purpose_fits}
use Rattle.model.specs.Sound.{live_fits, live_confirmed, within_fits, sound_version}
use Rattle.model.proofs.Lists.{clash, conj_at, conj_all, both_true}
use Rattle.model.specs.declared.NewSide.{NewSide}
use Rattle.model.specs.declared.OldSide.{OldSide}
use Rattle.model.specs.declared.Broadcast.{Broadcast}
use Rattle.model.specs.declared.Version.{Version}

-- ---- the clauses

pub record CastRanges (c : Broadcast) : Type 0 where
  pub purpose : leb c.purpose 3 ≡ true
  pub start : ltb c.start (2 ^ 32) ≡ true
  pub confirmed : is_set c.confirmed ≡ true
  pub waiting : is_set c.waiting ≡ true
  pub failed : is_set c.failed ≡ true
  pub retries : retries_in_range c.retries ≡ true

abbrev cast_clauses : Broadcast → List Bool
cast_clauses c =
    leb c.purpose 3 ∷ ltb c.start (2 ^ 32) ∷ is_set c.confirmed ∷ is_set c.waiting ∷ is_set c.failed
    ∷ retries_in_range c.retries ∷ []

pub cast_ranges : (c : Broadcast) → cast_in_range c ≡ true → CastRanges c
unfolding cast_in_range
cast_ranges c h =
    let of : (i : ℕ) → get_or (cast_clauses c) i true ≡ true = conj_at (cast_clauses c) h in
    record { purpose = of 0; start = of 1; confirmed = of 2; waiting = of 3; failed = of 4; retries = of 5 }

pub ranges_cast : (c : Broadcast) → CastRanges c → cast_in_range c ≡ true
unfolding cast_in_range
ranges_cast c r =
    conj_all (cast_clauses c)
    (with r.purpose (with r.start (with r.confirmed (with r.waiting (with r.failed (with r.retries none))))))

pub record Ranges (v : Version) : Type 0 where
  pub tn : ten_digits v.id.tn.0 ≡ true
  pub number : is_number v.id.number ≡ true
  pub status : is_status v.status ≡ true
  pub stamp : is_time v.stamp ≡ true
  pub new : is_provider v.new.provider ≡ true
  pub old : is_provider v.old.provider ≡ true
  pub canceller : leb v.canceller 2 ≡ true
  pub cast : cast_in_range v.cast ≡ true

abbrev range_clauses : Version → List Bool
range_clauses v =
    ten_digits v.id.tn.0 ∷ is_number v.id.number ∷ is_status v.status ∷ is_time v.stamp ∷ is_provider v.new.provider
    ∷ is_provider v.old.provider ∷ leb v.canceller 2 ∷ cast_in_range v.cast ∷ []

pub ranges_of : (v : Version) → in_range v ≡ true → Ranges v
unfolding in_range
ranges_of v h =
    let of : (i : ℕ) → get_or (range_clauses v) i true ≡ true = conj_at (range_clauses v) h in
    record { tn = of 0; number = of 1; status = of 2; stamp = of 3; new = of 4; old = of 5; canceller = of 6; cast = of 7 }

pub of_ranges : (v : Version) → Ranges v → in_range v ≡ true
unfolding in_range
of_ranges v r =
    conj_all (range_clauses v)
    (with r.tn (with r.number
    (with r.status (with r.stamp (with r.new (with r.old (with r.canceller (with r.cast none))))))))

pub record Row (v : Version) : Type 0 where
  pub ranges : Ranges v
  pub providers : providers_fit v ≡ true
  pub new : new_whole v.new ≡ true
  pub old : old_whole v.old ≡ true
  pub one : one_created v ≡ true
  pub needed : sides_needed v ≡ true
  pub cause : cause_fits v.old ≡ true
  pub canceller : canceller_fits v ≡ true
  pub apart : sets_apart v.cast ≡ true
  pub retries : retries_fit v.cast ≡ true
  pub start : start_fits v ≡ true
  pub waiting : waiting_fits v ≡ true
  pub purpose : purpose_fits v ≡ true
  pub live : live_fits v ≡ true
  pub confirmed : live_confirmed v ≡ true
  pub within : within_fits v ≡ true

abbrev clauses : Version → List Bool
clauses v =
    in_range v ∷ providers_fit v ∷ new_whole v.new ∷ old_whole v.old ∷ one_created v ∷ sides_needed v ∷ cause_fits v.old ∷ canceller_fits v
    ∷ sets_apart v.cast ∷ retries_fit v.cast ∷ start_fits v ∷ waiting_fits v ∷ purpose_fits v ∷ live_fits v ∷ live_confirmed v
    ∷ within_fits v ∷ []

pub row_of : (v : Version) → sound_version v ≡ true → Row v
unfolding sound_version
row_of v h =
    let of : (i : ℕ) → get_or (clauses v) i true ≡ true = conj_at (clauses v) h in
    record {
      ranges = ranges_of v (of 0);
      providers = of 1;
      new = of 2;
      old = of 3;
      one = of 4;
      needed = of 5;
      cause = of 6;
      canceller = of 7;
      apart = of 8;
      retries = of 9;
      start = of 10;
      waiting = of 11;
      purpose = of 12;
      live = of 13;
      confirmed = of 14;
      within = of 15;
    }

pub of_row : (v : Version) → Row v → sound_version v ≡ true
unfolding sound_version
of_row v r =
    conj_all (clauses v)
    (with (of_ranges v r.ranges)
    (with r.providers (with r.new
    (with r.old (with r.one
    (with r.needed (with r.cause
    (with r.canceller (with r.apart
    (with r.retries (with r.start (with r.waiting (with r.purpose (with r.live (with r.confirmed
    (with r.within none))))))))))))))))

-- ---- statuses outside a broadcast
pub record Calm (s : ℕ) : Type 0 where
  pub no3 : is_sending s ≡ false
  pub aimless : is_purposed s ≡ false
  pub no45 : among s (failure ∷ partial_failure ∷ []) ≡ false
  pub no56 : is_live s ≡ false
  pub alone : needs_new s ≡ false
  pub small : is_status s ≡ true

pub calm0 : Calm pending
calm0 = record { no3 = refl; aimless = refl; no45 = refl; no56 = refl; alone = refl; small = refl }

pub calm1 : Calm conflict
calm1 = record { no3 = refl; aimless = refl; no45 = refl; no56 = refl; alone = refl; small = refl }

pub calm2 : Calm cancel_pending
calm2 = record { no3 = refl; aimless = refl; no45 = refl; no56 = refl; alone = refl; small = refl }

pub calm8 : Calm canceled
calm8 = record { no3 = refl; aimless = refl; no45 = refl; no56 = refl; alone = refl; small = refl }

pub calm_cond : (b : Bool) {x y : ℕ} → Calm x → Calm y → Calm (cond b x y)
calm_cond true p q = p
calm_cond false p q = q

pub calm_worked : (s : ℕ) → is_worked s ≡ true → Calm s
calm_worked s h = go (eqb s 0) refl (eqb s 1) refl (eqb s 2) refl
  where
    at : (n : ℕ) → eqb s n ≡ true → Calm n → Calm s
    at n e c = subst Calm (sym (eqb-true s n e)) c

    go : (a : Bool) → eqb s 0 ≡ a → (b : Bool) → eqb s 1 ≡ b → (c : Bool) → eqb s 2 ≡ c → Calm s
    go true p b q c r = at 0 p calm0
    go false p true q c r = at 1 q calm1
    go false p false q true r = at 2 r calm2
    go false p false q false r = clash (rw (p, q, r) at h)

-- ---- other sides, another status, canceller and window, outside a broadcast

-- what a status outside a broadcast asks of the sides and the canceller
pub record Sided (s : ℕ) (n : NewSide) (o : OldSide) (c : ℕ) : Type 0 where
  pub new : new_whole n ≡ true
  pub old : old_whole o ≡ true
  pub one : (n.created || o.created) ≡ true
  pub clashing : implies (eqb s conflict) o.created ≡ true
  pub cancelling : implies (eqb s cancel_pending) (n.created && o.created) ≡ true
  pub cause : cause_fits o ≡ true
  pub small : leb c 2 ≡ true
  pub canceller : iff (ltb 0 c) (eqb s cancel_pending) ≡ true

iff_at : (a : Bool) {x y : Bool} → x ≡ y → iff a x ≡ true → iff a y ≡ true
iff_at a e h = subst (λ b. iff a b ≡ true) e h

pub row_calm : (v : Version) (s t : ℕ) (n : NewSide) (o : OldSide) (c : ℕ) (x : Bool) → Row v → Calm v.status → Calm s → is_time t ≡ true
    → n.provider ≡ v.new.provider → o.provider ≡ v.old.provider → Sided s n o c
    → implies v.within (not o.created && not x) ≡ true → Row (restated v s t n o c x)
unfolding sides_needed
row_calm v s t n o c x row p q time pn po d single = record {
  ranges = record {
    tn = row.ranges.tn;
    number = row.ranges.number;
    status = q.small;
    stamp = time;
    new = ap is_provider pn ∙ row.ranges.new;
    old = ap is_provider po ∙ row.ranges.old;
    canceller = d.small;
    cast = row.ranges.cast;
  };
  providers = ap₂ (λ (a b : ℕ). iff v.within (eqb a b)) pn po ∙ row.providers;
  new = d.new;
  old = d.old;
  one = d.one;
  needed =
      both_true (implies (eqb s conflict) o.created && implies (eqb s cancel_pending) (n.created && o.created)) _
      (both_true (implies (eqb s conflict) o.created) _ d.clashing d.cancelling) (rw q.alone);
  cause = d.cause;
  canceller = d.canceller;
  apart = row.apart;
  retries = row.retries;
  start = iff_at (ltb 0 v.cast.start) (p.no3 ∙ sym q.no3) row.start;
  waiting = iff_at (ltb 0 v.cast.waiting) (p.no3 ∙ sym q.no3) row.waiting;
  purpose = rw (q.aimless, q.no45) (rw (p.aimless, p.no45) at row.purpose);
  live = rw (q.no3, q.no56) (rw (p.no3, p.no56) at row.live);
  confirmed = row.confirmed;
  within = single;
}
