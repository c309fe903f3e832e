-- Outside a broadcast: what creates, modifies, cancels, resolves and windows make of a version is sound.
-- Assumes nothing.
use mathlib.Core.Path.{◌≡◌, refl}
use Prim.Native.Nat.{ℕ, suc, ◌≤◌}
use mathlib.Core.Bool.{Bool, true, false, cond, not, ◌&&◌, ◌||◌, or-true}
use mathlib.Core.List.{[], ◌∷◌}
use lib.Dec.{eqb, leb, ltb}
use lib.ListN.{get_or}
use native.Mathlib.Omega.{arith}
use borrow.Author.Tests.{eqb-true, ltb-true, lt-ltb, leb-true, le-leb, not-true}
use Rattle.model.specs.Basics.{among, iff, implies}
use Rattle.model.specs.Numbers.{ten_digits, is_time}
use Rattle.model.specs.Sound.{pending, conflict, cancel_pending, canceled, yes, no, is_worked, new_whole, old_whole, sides_needed}
use Rattle.model.specs.Sound.{cause_fits}
use Rattle.model.specs.Record.{is_create, named, unused, authorizes, well_formed}
use Rattle.model.specs.Standing.{standing_of, unready}
use Rattle.model.specs.Creates.{new_from, old_from, status_by, fits, concurred}
use Rattle.model.specs.Changes.{new_modified, old_modified, turned, cancelled, acknowledged, resolved, window_turned, window_marked}
use Rattle.model.proofs.Lists.{clash, and_l, and_r, both_true, conj_at, back_equal}
use Rattle.model.proofs.Formed.{Fields, fields, at_kind}
use Rattle.model.specs.Versions.{restated}
use Rattle.model.proofs.SoundRows.{Row, Calm, calm0, calm1, calm2, calm8, calm_cond, calm_worked, Sided, row_calm}
use Rattle.model.proofs.SoundCasts.{no_canceller}
use Rattle.model.proofs.Typed.{new_fields, old_fields, fitted, between}
use Rattle.model.proofs.SoundAnswers.{time_is}
use Rattle.model.proofs.SoundOpened.{stands_new, stands_old, Allowed, status_of, stands_of}
use Rattle.model.specs.declared.NewSide.{NewSide}
use Rattle.model.specs.declared.OldSide.{OldSide}
use Rattle.model.specs.declared.Event.{Event}
use Rattle.model.specs.declared.Version.{Version}

-- ---- the sides of a sound version

pub needed_in : (v : Version) → Row v → (implies (eqb v.status conflict) v.old.created ≡ true)
    × (implies (eqb v.status cancel_pending) (v.new.created && v.old.created) ≡ true)
unfolding sides_needed
needed_in v row =
    let a = implies (eqb v.status conflict) v.old.created in
    let b = implies (eqb v.status cancel_pending) (v.new.created && v.old.created) in
    let h : (a && b) ≡ true = and_l (a && b) _ row.needed in
    (and_l a b h, and_r a b h)

-- the sides stay
sided : (v : Version) → Row v → (s c : ℕ) → implies (eqb s conflict) v.old.created ≡ true
    → implies (eqb s cancel_pending) (v.new.created && v.old.created) ≡ true
    → leb c 2 ≡ true → iff (ltb 0 c) (eqb s cancel_pending) ≡ true → Sided s v.new v.old c
sided v row s c a b l i =
    record { new = row.new; old = row.old; one = row.one; clashing = a; cancelling = b; cause = row.cause; small = l; canceller = i }

-- nobody is marked, and the status is not cancel-pending
unmarked : (v : Version) → Row v → eqb v.status cancel_pending ≡ false → (s : ℕ) → eqb s cancel_pending ≡ false
    → iff (ltb 0 v.canceller) (eqb s cancel_pending) ≡ true
unmarked v row n s q = rw (no_canceller v row n, q)

-- "no" is said by a side that has created
no_created : (o : OldSide) → old_whole o ≡ true → eqb o.authorization no ≡ true → o.created ≡ true
unfolding old_whole
no_created o h q = go o.created refl h
  where
    go : (b : Bool) → o.created ≡ b → cond b (is_time o.due && among o.authorization (yes ∷ no ∷ []))
        (eqb o.due 0 && eqb o.authorization 0) ≡ true → o.created ≡ true
    go true e k = e
    go false e k =
        let z : o.authorization ≡ 0 = eqb-true o.authorization 0 (and_r (eqb o.due 0) (eqb o.authorization 0) k) in
        let t : o.authorization ≡ 2 = eqb-true o.authorization 2 q in
        absurd (omega arith)

-- ---- the values that an event brings

pub new_from_lem : (e : Event) (p : ℕ) → Fields e → named e.due ≡ true → ten_digits e.lrn.0 ≡ true → new_whole (new_from e p) ≡ true
unfolding new_whole
new_from_lem e p f d l = both_true (is_time e.due) (ten_digits e.lrn.0) (time_is e.due (ltb-true 0 e.due d) f.due) l

-- an authorization with its cause
answered : (mark cause : ℕ) → authorizes mark cause ≡ true → (among mark (yes ∷ no ∷ []) ≡ true)
    × (cond (eqb mark no) (leb 1 cause && leb cause 99) (eqb cause 0) ≡ true)
answered mark cause h = go (eqb mark 1) refl (eqb mark 2) refl h
  where
    go : (a : Bool) → eqb mark 1 ≡ a → (b : Bool) → eqb mark 2 ≡ b → ((a && unused cause) || (b && named cause && leb cause 99)) ≡ true
        → (among mark (yes ∷ no ∷ []) ≡ true) × (cond (eqb mark no) (leb 1 cause && leb cause 99) (eqb cause 0) ≡ true)
    go true p true q k = absurd (let x : mark ≡ 1 = eqb-true mark 1 p in let y : mark ≡ 2 = eqb-true mark 2 q in omega arith)
    go true p false q k = rw (p, q) (refl, off (unused cause) k)
      where
        off : (x : Bool) → (x || false) ≡ true → x ≡ true
        off true z = refl
        off false z = z
    go false p true q k = rw (p, q) (
      refl,
      both_true (leb 1 cause) (leb cause 99) (le-leb 1 cause (ltb-true 0 cause (and_l (named cause) (leb cause 99) k)))
          (and_r (named cause) (leb cause 99) k),
    )
    go false p false q k = clash k

pub old_from_lem : (e : Event) (o : OldSide) → o.authorization ≡ e.mark → o.cause ≡ e.cause → o.due ≡ e.due → o.created ≡ true
    → Fields e → named e.due ≡ true
    → authorizes e.mark e.cause ≡ true → (old_whole o ≡ true) × (cause_fits o ≡ true)
unfolding old_whole cause_fits
old_from_lem e o pa pc pd cr f d a =
    let r = answered e.mark e.cause a in (
      rw (cr, pd, pa) (both_true (is_time e.due) (among e.mark (yes ∷ no ∷ [])) (time_is e.due (ltb-true 0 e.due d) f.due)
          r.0),
      rw (pa, pc) r.1,
    )

-- ---- an event of a kind that may come, on a worked version
module _ (e : Event) (formed : well_formed e ≡ true) (v : Version) (row : Row v) where
  f : Fields e
  f = fields e formed

  time : is_time e.time ≡ true
  time = time_is e.time f.timed f.time

  -- the status goes to s, the sides stay
  turned_row : (s c : ℕ) (x : Bool) → is_worked v.status ≡ true → Calm s → implies (eqb s conflict) v.old.created ≡ true
      → implies (eqb s cancel_pending) (v.new.created && v.old.created) ≡ true → leb c 2 ≡ true
      → iff (ltb 0 c) (eqb s cancel_pending) ≡ true → implies v.within (not v.old.created && not x) ≡ true → Row (turned e v s c x)
  turned_row s c x w q a b l i single =
      row_calm v s e.time v.new v.old c x row (calm_worked v.status w) q time refl refl (sided v row s c a b l i) single

  module _ (al : Allowed e v) where
    -- pending or conflict
    pub open_status : among v.status (pending ∷ conflict ∷ []) ≡ true → (is_worked v.status ≡ true)
        × (eqb v.status cancel_pending ≡ false)
    open_status h = go (eqb v.status 0) refl (eqb v.status 1) refl
      where
        at : (n : ℕ) → eqb v.status n ≡ true → (is_worked n ≡ true) × (eqb n cancel_pending ≡ false) → (is_worked v.status ≡ true)
            × (eqb v.status cancel_pending ≡ false)
        at n q p = back_equal v.status n (λ (s : ℕ). (is_worked s ≡ true) × (eqb s cancel_pending ≡ false)) q p

        go : (a : Bool) → eqb v.status 0 ≡ a → (b : Bool) → eqb v.status 1 ≡ b → (is_worked v.status ≡ true)
            × (eqb v.status cancel_pending ≡ false)
        go true p b q = at 0 p (refl, refl)
        go false p true q = at 1 q (refl, refl)
        go false p false q = clash (rw (p, q) at h)

    -- 3
    pub row_new_modified : eqb e.kind 3 ≡ true → Row (new_modified e v)
    unfolding new_modified new_whole
    row_new_modified k =
        let s = open_status (status_of e v al 3 k) in
        let made : v.new.created ≡ true = stands_new e v (eqb-true (standing_of e v) 0 (stands_of e v al 3 k)) in
        let of : (i : ℕ) → get_or (unused e.other ∷ unused e.mark ∷ unused e.cause ∷ ten_digits e.lrn.0 ∷ named e.version
        ∷ named e.due ∷ []) i true ≡ true
        = conj_at (unused e.other ∷ unused e.mark ∷ unused e.cause ∷ ten_digits e.lrn.0 ∷ named e.version ∷ named e.due
        ∷ []) (at_kind e formed 3 (eqb-true e.kind 3 k)) in
        row_calm v v.status e.time (record { provider = v.new.provider; created = v.new.created; lrn = e.lrn; due = e.due })
        v.old v.canceller v.window row
        (calm_worked v.status s.0) (calm_worked v.status s.0) time refl refl
        (record {
          new = rw made (new_from_lem e v.new.provider f (of 5) (of 3));
          old = row.old;
          one = row.one;
          clashing = (needed_in v row).0;
          cancelling = (needed_in v row).1;
          cause = row.cause;
          small = row.ranges.canceller;
          canceller = row.canceller;
        })
        row.within

    -- 4
    pub row_old_modified : eqb e.kind 4 ≡ true → Row (old_modified e v)
    unfolding old_modified
    row_old_modified k =
        let s = open_status (status_of e v al 4 k) in
        let made : v.old.created ≡ true = stands_old e v (eqb-true (standing_of e v) 1 (stands_of e v al 4 k)) in
        let of : (i : ℕ) → get_or (unused e.other ∷ authorizes e.mark e.cause ∷ unused e.lrn.0 ∷ named e.version
        ∷ named e.due ∷ []) i true ≡ true
        = conj_at (unused e.other ∷ authorizes e.mark e.cause ∷ unused e.lrn.0 ∷ named e.version ∷ named e.due ∷ [])
        (at_kind e formed 4 (eqb-true e.kind 4 k)) in
        let o : OldSide = record
        { provider = v.old.provider; created = v.old.created; authorization = e.mark; cause = e.cause; due = e.due } in
        let w = old_from_lem e o refl refl refl made f (of 4) (of 1) in
        row_calm v (cond (eqb e.mark no) conflict pending) e.time v.new o v.canceller v.window row
        (calm_worked v.status s.0)
        (calm_cond (eqb e.mark no) calm1 calm0) time refl refl
        (record {
          new = row.new;
          old = w.0;
          one = row.one;
          clashing = always (eqb (cond (eqb e.mark no) conflict pending) conflict) made;
          cancelling = rw (plain (eqb e.mark no));
          cause = w.1;
          small = row.ranges.canceller;
          canceller = unmarked v row s.1 (cond (eqb e.mark no) conflict pending) (plain (eqb e.mark no));
        })
        row.within
      where
        always : (x : Bool) → v.old.created ≡ true → implies x v.old.created ≡ true
        always true h = h
        always false h = refl

        plain : (x : Bool) → eqb (cond x conflict pending) cancel_pending ≡ false
        plain true = refl
        plain false = refl

    -- 6
    pub row_cancelled : eqb e.kind 6 ≡ true → Row (cancelled e v)
    unfolding cancelled
    row_cancelled k = go v.new.created refl v.old.created refl
      where
        s : (is_worked v.status ≡ true) × (eqb v.status cancel_pending ≡ false)
        s = open_status (status_of e v al 6 k)

        side : standing_of e v ≤ 1
        side = leb-true (standing_of e v) 1 (stands_of e v al 6 k)

        alone : Row (turned e v canceled v.canceller v.window)
        alone = turned_row canceled v.canceller v.window s.0 calm8 refl refl row.ranges.canceller
            (unmarked v row s.1 canceled refl) row.within

        go : (a : Bool) → v.new.created ≡ a → (b : Bool) → v.old.created ≡ b
            → Row (cond (a && b) (turned e v cancel_pending (suc (standing_of e v)) v.window)
            (turned e v canceled v.canceller v.window))
        go true p true q =
            turned_row cancel_pending (suc (standing_of e v)) v.window s.0 calm2 refl
            (both_true v.new.created v.old.created p q)
            (le-leb (suc (standing_of e v)) 2 (omega (arith, side))) (rw (lt-ltb 0 (suc (standing_of e v)) (omega arith)))
            row.within
        go true p false q = alone
        go false p b q = alone

    -- 7
    pub row_acknowledged : eqb e.kind 7 ≡ true → Row (acknowledged e v)
    unfolding acknowledged
    row_acknowledged k = turned_row canceled 0 v.window
        (back_equal v.status 2 (λ (s : ℕ). is_worked s ≡ true) (status_of e v al 7 k) refl) calm8 refl refl refl refl
        row.within

    -- 8
    pub row_resolved : eqb e.kind 8 ≡ true → Row (resolved e v)
    unfolding resolved old_whole cause_fits
    row_resolved k =
        let q : eqb v.status conflict ≡ true = status_of e v al 8 k in
        let made : v.old.created ≡ true = rw q at (needed_in v row).0 in
        let due : is_time v.old.due ≡ true = and_l (is_time v.old.due) _ (rw made at row.old) in
        row_calm v pending e.time v.new
        (record { provider = v.old.provider; created = v.old.created; authorization = yes; cause = 0; due = v.old.due })
        v.canceller v.window row (calm_worked v.status (back_equal v.status 1 (λ (s : ℕ). is_worked s ≡ true) q refl))
        calm0 time refl refl
        (record {
          new = row.new;
          old = rw made (both_true (is_time v.old.due) true due refl);
          one = row.one;
          clashing = refl;
          cancelling = refl;
          cause = refl;
          small = row.ranges.canceller;
          canceller = unmarked v row (back_equal v.status 1 (λ (s : ℕ). eqb s cancel_pending ≡ false) q refl) pending refl;
        })
        row.within

    -- 13
    pub window_status : eqb e.kind 13 ≡ true → is_worked v.status ≡ true
    window_status k = go (eqb v.status 0) refl (eqb v.status 2) refl (status_of e v al 13 k)
      where
        go : (a : Bool) → eqb v.status 0 ≡ a → (b : Bool) → eqb v.status 2 ≡ b → (a || (b || false)) ≡ true
            → is_worked v.status ≡ true
        go true p b q h = back_equal v.status 0 (λ (s : ℕ). is_worked s ≡ true) p refl
        go false p true q h = back_equal v.status 2 (λ (s : ℕ). is_worked s ≡ true) q refl
        go false p false q h = clash h

    pub row_window_turned : eqb e.kind 13 ≡ true → Row (window_turned e v)
    unfolding window_turned
    row_window_turned k = go (eqb v.status cancel_pending) refl (eqb v.canceller 1) refl
      where
        go : (a : Bool) → eqb v.status cancel_pending ≡ a → (b : Bool) → eqb v.canceller 1 ≡ b
            → Row (cond a (turned e v (cond b canceled conflict) 0 v.window) (turned e v canceled v.canceller v.window))
        go true p true q = turned_row canceled 0 v.window (window_status k) calm8 refl refl refl refl row.within
        go true p false q =
            turned_row conflict 0 v.window (window_status k) calm1
            (and_r v.new.created v.old.created (rw p at (needed_in v row).1)) refl refl refl row.within
        go false p b q = turned_row canceled v.canceller v.window (window_status k) calm8 refl refl row.ranges.canceller
            (unmarked v row p canceled refl) row.within

    pub row_window_marked : eqb e.kind 13 ≡ true → Row (window_marked e v)
    unfolding window_marked unready
    row_window_marked k =
        turned_row v.status v.canceller true (window_status k) (calm_worked v.status (window_status k)) (needed_in v row).0
        (needed_in v row).1
        row.ranges.canceller row.canceller (rw between)
      where
        between : v.within ≡ false
        between = rw (back_equal e.kind 13 (λ (n : ℕ). eqb n 5 ≡ false) k refl, k) at al.ready

  -- 1 and 2, concurrence
  pub row_concurred : is_create e.kind ≡ true → is_worked v.status ≡ true → fits e v ≡ true → Row (concurred e v)
  unfolding concurred
  row_concurred k w h = go (eqb e.kind 1) refl (eqb e.kind 2) refl
    where
      open? : eqb v.status cancel_pending ≡ false
      open? = not-true (eqb v.status cancel_pending) (fitted e v h 0)

      by : (n : NewSide) (o : OldSide) → n.provider ≡ v.new.provider → o.provider ≡ v.old.provider → new_whole n ≡ true
          → old_whole o ≡ true → cause_fits o ≡ true
          → (n.created || o.created) ≡ true → (v.old.created ≡ true → o.created ≡ true)
          → implies v.within (not o.created && not v.window) ≡ true → (x : Bool) → eqb o.authorization no ≡ x
          → Row (restated v (cond x conflict v.status) e.time n o v.canceller v.window)
      by n o pn po wn wo c one up single x q =
          row_calm v (cond x conflict v.status) e.time n o v.canceller v.window row (calm_worked v.status w)
          (calm_cond x calm1 (calm_worked v.status w)) time pn po
          (record {
            new = wn;
            old = wo;
            one = one;
            clashing = in_conflict x q;
            cancelling = rw (no2 x);
            cause = c;
            small = row.ranges.canceller;
            canceller = unmarked v row open? (cond x conflict v.status) (no2 x);
          })
          single
        where
          no2 : (x : Bool) → eqb (cond x conflict v.status) cancel_pending ≡ false
          no2 true = refl
          no2 false = open?

          lift : (a b c : Bool) → implies a b ≡ true → (b ≡ true → c ≡ true) → implies a c ≡ true
          lift true b c h g = g h
          lift false b c h g = refl

          in_conflict : (x : Bool) → eqb o.authorization no ≡ x
              → implies (eqb (cond x conflict v.status) conflict) o.created ≡ true
          in_conflict true q = no_created o wo q
          in_conflict false q = lift (eqb v.status conflict) v.old.created o.created (needed_in v row).0 up

      go : (a : Bool) → eqb e.kind 1 ≡ a → (b : Bool) → eqb e.kind 2 ≡ b
          → Row (restated v (status_by (cond a v.old (old_from e v.old.provider)) v.status) e.time
          (cond a (new_from e v.new.provider) v.new) (cond a v.old (old_from e v.old.provider)) v.canceller v.window)
      go true p b q =
          by (new_from e v.new.provider) v.old refl refl
          (new_from_lem e v.new.provider f (new_fields e formed p 5) (new_fields e formed p 3)) row.old row.cause refl (λ z. z)
          row.within (eqb v.old.authorization no) refl
      go false p true q =
          let o : OldSide = old_from e v.old.provider in
          let r = old_from_lem e o refl refl refl refl f (old_fields e formed q 4) (old_fields e formed q 1) in
          by v.new o refl refl row.new r.0 r.1 (or-true v.new.created) (λ z. refl) (rw (between e formed k v row h))
          (eqb e.mark no) refl
      go false p false q = clash (rw (p, q) at k)
