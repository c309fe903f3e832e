-- A fresh version is sound.
-- Assumes nothing.
use mathlib.Core.Path.{◌≡◌, refl}
use Prim.Native.Nat.{ℕ, suc, ◌<◌}
use mathlib.Core.Bool.{Bool, true, false, cond, not, ◌&&◌, ◌||◌}
use mathlib.Core.List.{List}
use lib.Dec.{eqb, leb}
use native.Mathlib.Omega.{arith}
use borrow.Author.Tests.{le-leb}
use Rattle.systems.specs.Set.{member}
use Rattle.model.specs.Basics.{iff, implies, every}
use Rattle.model.specs.Numbers.{ten_digits, is_number, is_time, is_provider}
use Rattle.model.specs.Retries.{octal, used}
use Rattle.model.specs.Sound.{pending, conflict, cancel_pending, no, new_whole, old_whole, cause_fits, sides_needed, sets_apart, apart}
use Rattle.model.specs.Sound.{retries_fit, retries_in_range, cast_in_range}
use Rattle.model.specs.Record.{is_create, is_within, well_formed}
use Rattle.model.specs.Creates.{new_from, old_from, new_absent, old_absent, status_by, no_broadcast, fresh_version}
use Rattle.model.specs.Given.{newest}
use Rattle.model.proofs.Lists.{clash, both_true}
use Rattle.model.proofs.Formed.{Fields, fields}
use Rattle.model.proofs.SoundRows.{Row, Calm, calm0, calm1, calm_cond}
use Rattle.model.proofs.SoundAnswers.{time_is}
use Rattle.model.proofs.SoundSides.{new_from_lem, old_from_lem}
use Rattle.model.proofs.Typed.{new_fields, old_fields, create_sides, untyped}
use Rattle.model.specs.declared.Id.{Id}
use Rattle.model.specs.declared.NewSide.{NewSide}
use Rattle.model.specs.declared.OldSide.{OldSide}
use Rattle.model.specs.declared.Event.{Event}
use Rattle.model.specs.declared.Version.{Version}

none_apart : sets_apart no_broadcast ≡ true
unfolding sets_apart apart every member
none_apart = refl

none_fit : retries_fit no_broadcast ≡ true
unfolding retries_fit every member used octal
none_fit = refl

none_cast : cast_in_range no_broadcast ≡ true
unfolding cast_in_range retries_in_range
none_cast = refl

abbrev blank : Bool → Id → ℕ → ℕ → NewSide → OldSide → Version
blank within id status stamp new old =
    record {
      id = id;
      status = status;
      stamp = stamp;
      live = false;
      new = new;
      old = old;
      canceller = 0;
      window = false;
      within = within;
      cast = no_broadcast;
    }

blank_row : (w : Bool) (id : Id) (s t : ℕ) (n : NewSide) (o : OldSide) → ten_digits id.tn.0 ≡ true → is_number id.number ≡ true
    → is_time t ≡ true → is_provider n.provider ≡ true → is_provider o.provider ≡ true → iff w (eqb n.provider o.provider) ≡ true
    → implies w (not o.created && true) ≡ true
    → new_whole n ≡ true → old_whole o ≡ true
    → cause_fits o ≡ true → (n.created || o.created) ≡ true → Calm s → eqb s cancel_pending ≡ false
    → implies (eqb s conflict) o.created ≡ true → Row (blank w id s t n o)
unfolding sides_needed
blank_row w id s t n o tn number time pn po d single wn wo c one q no2 clashes = record {
  ranges = record { tn = tn; number = number; status = q.small; stamp = time; new = pn; old = po; canceller = refl; cast = none_cast };
  providers = d;
  new = wn;
  old = wo;
  one = one;
  needed = both_true (implies (eqb s conflict) o.created && implies (eqb s cancel_pending) (n.created && o.created)) _
      (both_true (implies (eqb s conflict) o.created) _ clashes (rw no2)) (rw q.alone);
  cause = c;
  canceller = rw no2;
  apart = none_apart;
  retries = none_fit;
  start = rw q.no3;
  waiting = rw q.no3;
  purpose = rw (q.aimless, q.no45);
  live = rw (q.no3, q.no56);
  confirmed = refl;
  within = single;
}

-- an absent side
no_side : (p : ℕ) → old_whole (old_absent p) ≡ true
unfolding old_whole
no_side p = refl

no_cause : (p : ℕ) → cause_fits (old_absent p) ≡ true
unfolding cause_fits
no_cause p = refl

no_new : (p : ℕ) → new_whole (new_absent p) ≡ true
unfolding new_whole
no_new p = refl

module _ (e : Event) (formed : well_formed e ≡ true) (r : List Version) (room : newest r < 65535) where
  f : Fields e
  f = fields e formed

  pub row_fresh : is_create e.kind ≡ true → Row (fresh_version e r)
  unfolding fresh_version
  row_fresh k = go (eqb e.kind 1) refl (eqb e.kind 2) refl
    where
      id : Id
      id = record { tn = e.tn; number = suc (newest r) }

      number : is_number (suc (newest r)) ≡ true
      number = both_true (leb 1 (suc (newest r))) (leb (suc (newest r)) 65535) (le-leb 1 (suc (newest r)) (omega arith))
          (le-leb (suc (newest r)) 65535 (omega arith))

      time : is_time e.time ≡ true
      time = time_is e.time f.timed f.time

      alone : (w : Bool) → implies w true ≡ true
      alone true = refl
      alone false = refl

      go : (a : Bool) → eqb e.kind 1 ≡ a → (b : Bool) → eqb e.kind 2 ≡ b
          → Row (blank (is_within e) (record { tn = e.tn; number = suc (newest r) })
          (status_by (cond a (old_absent (cond a e.other e.sender)) (old_from e (cond a e.other e.sender))) pending) e.time
          (cond a (new_from e (cond a e.sender e.other)) (new_absent (cond a e.sender e.other)))
          (cond a (old_absent (cond a e.other e.sender)) (old_from e (cond a e.other e.sender))))
      go true p b q =
          let d = rw p at (create_sides e formed k) in
          blank_row (is_within e) id pending e.time (new_from e e.sender) (old_absent e.other) f.number number time d.0 d.1
          d.2 (alone (is_within e))
          (new_from_lem e e.sender f (new_fields e formed p 5) (new_fields e formed p 3)) (no_side e.other) (no_cause e.other)
          refl calm0 refl refl
      go false p true q =
          let d = rw p at (create_sides e formed k) in
          let w = old_from_lem e (old_from e e.sender) refl refl refl refl f (old_fields e formed q 4) (old_fields e formed q 1) in
          rw (untyped e formed p)
          (blank_row false id (cond (eqb e.mark no) conflict pending) e.time (new_absent e.other) (old_from e e.sender)
          f.number number time d.0 d.1
          (rw (untyped e formed p) at d.2) refl (no_new e.other) w.0 w.1 refl (calm_cond (eqb e.mark no) calm1 calm0)
          (plain (eqb e.mark no)) (alone (eqb (cond (eqb e.mark no) conflict pending) conflict)))
        where
          plain : (x : Bool) → eqb (cond x conflict pending) cancel_pending ≡ false
          plain true = refl
          plain false = refl
      go false p false q = clash (rw (p, q) at k)
