-- A sound version has room in its row's bits. Assumes nothing.
use mathlib.Core.Path.{◌≡◌, refl, sym, ◌∙◌}
use mathlib.Core.Bool.{Bool, true, false, cond, ◌&&◌, or-false}
use mathlib.Core.List.{[], ◌∷◌}
use Prim.Native.Nat.{ℕ, ◌/◌, ◌%◌, ◌^◌, ◌≤◌, ◌<◌}
use native.Mathlib.Omega.{arith}
use borrow.Author.Tests.{ltb-true, leb-true, eqb-true}
use lib.Dec.{eqb, ltb, leb}
use lib.ListN.{get_or}
use Rattle.model.specs.declared.NewSide.{NewSide}
use Rattle.model.specs.declared.OldSide.{OldSide}
use Rattle.model.specs.declared.Retries.{Retries}
use Rattle.model.specs.declared.Version.{Version}
use Rattle.model.specs.Basics.{among}
use Rattle.model.specs.Numbers.{ten_digits, is_provider, is_time, is_number}
use Rattle.model.specs.Sound.{yes, no, retries_in_range, new_whole, old_whole, cause_fits, sound_version, last_status}
use Rattle.model.proofs.Lists.{and_l, and_r, conj_at}
use Rattle.model.proofs.SoundSets.{in_set}
use Rattle.model.proofs.SoundRows.{row_of, cast_ranges}
use Rattle.row.specs.Layout.{Room}

-- ---- numbers

ten_digits_lem : (x : ℕ) → ten_digits x ≡ true → (2000000000 ≤ x) × (x < 10000000000)
ten_digits_lem x e =
    let of : (i : ℕ) → get_or (leb 2000000000 x ∷ ltb x 10000000000 ∷ leb 2 (x / 1000000 % 10) ∷ []) i true ≡ true
    = conj_at (leb 2000000000 x ∷ ltb x 10000000000 ∷ leb 2 (x / 1000000 % 10) ∷ []) e in
    (leb-true _ _ (of 0), ltb-true _ _ (of 1))

time_lt : (t : ℕ) → is_time t ≡ true → t < 4294967296
time_lt t e = ltb-true _ _ (and_r (leb 1 t) (ltb t 4294967296) e)

number_le : (n : ℕ) → is_number n ≡ true → n ≤ 65535
number_le n e = leb-true _ _ (and_r (leb 1 n) (leb n 65535) e)

provider_le : (p : ℕ) → is_provider p ≡ true → p ≤ 63
provider_le p e = leb-true _ _ (and_r (leb 1 p) (leb p 63) e)

zero_lt : (n m : ℕ) → 0 < m → eqb n 0 ≡ true → n < m
zero_lt n m h e =
    let z : n ≡ 0 = eqb-true _ _ e in
    omega arith

-- ---- the sides, and the retries

chosen : {P : Type 0} (b x y : Bool) → cond b x y ≡ true → (x ≡ true → P) → (y ≡ true → P) → P
chosen true x y e f g = f e
chosen false x y e f g = g e

new_room : (s : NewSide) → new_whole s ≡ true → (s.due < 4294967296) × (s.lrn.0 < 17179869184)
unfolding new_whole
new_room s e =
    chosen s.created (is_time s.due && ten_digits s.lrn.0) (eqb s.due 0 && eqb s.lrn.0 0) e
    (λ x. (
      time_lt s.due (and_l (is_time s.due) (ten_digits s.lrn.0) x),
      omega (arith, ten_digits_lem s.lrn.0 (and_r (is_time s.due) (ten_digits s.lrn.0) x)),
    ))
    (λ x. (
      zero_lt s.due 4294967296 (omega arith) (and_l (eqb s.due 0) (eqb s.lrn.0 0) x),
      zero_lt s.lrn.0 17179869184 (omega arith) (and_r (eqb s.due 0) (eqb s.lrn.0 0) x),
    ))

authorized : (a : ℕ) (b : Bool) → eqb a yes ≡ b → among a (yes ∷ no ∷ []) ≡ true → a < 4
authorized a true q e = let z : a ≡ 1 = eqb-true _ _ q in omega arith
authorized a false q e = let z : a ≡ 2 = eqb-true _ _ (sym (or-false (eqb a no)) ∙ rw q at e) in omega arith

old_room : (s : OldSide) → old_whole s ≡ true → (s.due < 4294967296) × (s.authorization < 4)
unfolding old_whole
old_room s e =
    chosen s.created (is_time s.due && among s.authorization (yes ∷ no ∷ [])) (eqb s.due 0 && eqb s.authorization 0) e
    (λ x. (
      time_lt s.due (and_l (is_time s.due) (among s.authorization (yes ∷ no ∷ [])) x),
      authorized s.authorization (eqb s.authorization yes) refl
          (and_r (is_time s.due) (among s.authorization (yes ∷ no ∷ [])) x),
    ))
    (λ x. (
      zero_lt s.due 4294967296 (omega arith) (and_l (eqb s.due 0) (eqb s.authorization 0) x),
      zero_lt s.authorization 4 (omega arith) (and_r (eqb s.due 0) (eqb s.authorization 0) x),
    ))

cause_lt : (s : OldSide) → cause_fits s ≡ true → s.cause < 128
unfolding cause_fits
cause_lt s e =
    chosen (eqb s.authorization no) (leb 1 s.cause && leb s.cause 99) (eqb s.cause 0) e
    (λ x. let h : s.cause ≤ 99 = leb-true _ _ (and_r (leb 1 s.cause) (leb s.cause 99) x) in omega arith)
    (λ x. zero_lt s.cause 128 (omega arith) x)

retries_lt : (r : Retries) → retries_in_range r ≡ true → (r.low < 2 ^ 63) × ((r.mid < 2 ^ 63) × (r.high < 2 ^ 63))
unfolding retries_in_range
retries_lt r e =
    let of : (i : ℕ) → get_or (ltb r.low (2 ^ 63) ∷ ltb r.mid (2 ^ 63) ∷ ltb r.high (2 ^ 63) ∷ []) i true ≡ true
    = conj_at (ltb r.low (2 ^ 63) ∷ ltb r.mid (2 ^ 63) ∷ ltb r.high (2 ^ 63) ∷ []) e in
    (ltb-true _ _ (of 0), (ltb-true _ _ (of 1), ltb-true _ _ (of 2)))

-- ---- the whole version

pub sound_room : (v : Version) → sound_version v ≡ true → Room v
sound_room v e =
    let r = row_of v e in
    let g = r.ranges in
    let c = cast_ranges v.cast g.cast in
    let status : v.status ≤ last_status = leb-true _ _ g.status in
    let canceller : v.canceller ≤ 2 = leb-true _ _ g.canceller in
    let purpose : v.cast.purpose ≤ 3 = leb-true _ _ c.purpose in
    let retries = retries_lt v.cast.retries c.retries in
    let new = new_room v.new r.new in
    let old = old_room v.old r.old in
    record {
      small = record {
        tn = omega (arith, ten_digits_lem v.id.tn.0 g.tn);
        status = omega arith;
        lrn = new.1;
        new = omega (arith, provider_le v.new.provider g.new);
        old = omega (arith, provider_le v.old.provider g.old);
        authorization = old.1;
        cause = cause_lt v.old r.cause;
        canceller = omega arith;
        purpose = omega arith;
      };
      number = omega (arith, number_le v.id.number g.number);
      new_due = new.0;
      old_due = old.0;
      stamp = time_lt v.stamp g.stamp;
      start = ltb-true _ _ c.start;
      confirmed = (in_set v.cast.confirmed c.confirmed).low;
      waiting = (in_set v.cast.waiting c.waiting).low;
      failed = (in_set v.cast.failed c.failed).low;
      low = omega (arith, retries);
      mid = omega (arith, retries);
      high = omega (arith, retries);
    }

-- a sound version's TN is not 0
pub sound_tn : (v : Version) → sound_version v ≡ true → 0 < v.id.tn.0
sound_tn v e = omega (arith, ten_digits_lem v.id.tn.0 (row_of v e).ranges.tn)
