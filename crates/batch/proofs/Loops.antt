-- The loop over the records: what is left to do from here gives the whole.
-- Assumes nothing.
use mathlib.Core.Path.{◌≡◌, refl, sym, ap, ◌∙◌, subst}
use Prim.Native.Nat.{ℕ, suc, ◌+◌, ◌-◌, ◌*◌, ◌/◌, ◌≤◌, ◌<◌}
use native.Mathlib.Nat.{mul_comm}
use native.Mathlib.Omega.{arith}
use native.Mathlib.Numerals.{add-one}
use mathlib.Core.Bool.{true, false}
use mathlib.Core.List.{List, [], ◌∷◌}
use lib.Dec.{leb}
use lib.ListN.{length, take, drop, length-drop, drop_of_length-le}
use lib.Seq.{drop-cons}
use borrow.Author.Tests.{lt-leb, le-leb}
use Rattle.packing.specs.Layout.{RECORD}
use Rattle.model.specs.declared.Marks.{Marks}
use Rattle.rows.proofs.Pieces.{chunks-length, get_d_chunks}
use Rattle.scan.specs.Sound.{SoundTable}
use Rattle.std.specs.Prelude.{Option, Some}
use Rattle.tray.specs.Tray.{places_in}
use Rattle.checks.specs.Checks.{fitting, soundness_lent}
use Rattle.engine.proofs.Keeping.{result_few}
use Rattle.model.proofs.Lists.{and_l}
use Rattle.batch.specs.Batch.{records_in, Stand, after, result_at, steps, begin, Went, Turned}

-- the tray behind m messages has so many places
places_are : (y : List ℕ) (m : ℕ) → places_in (drop (24 * m) y) ≡ (length y - 24 * m) / 24
places_are y m = ap (λ (n : ℕ). n / 24) (length-drop (24 * m) y)

-- where 64 places are left behind the messages, the rest fits as before
pub fits-behind : (most : ℕ) (y₀ y : List ℕ) (m : ℕ) → fitting most (places_in y₀) ≡ true → 64 ≤ (length y - 24 * m) / 24
    → fitting most (places_in (drop (24 * m) y)) ≡ true
fits-behind most y₀ y m h r =
    rw (and_l (leb most 7) (leb 64 (places_in y₀)) h)
    (le-leb 64 (places_in (drop (24 * m) y)) (subst (λ (n : ℕ). 64 ≤ n) (sym (places_are y m)) r))

-- two bytes for each event
pub outs_room : (i n : ℕ) (o₀ o : List ℕ) → i < n → 2 * n ≤ length o₀ → length o ≡ length o₀ → 2 * i + 2 ≤ length o
outs_room i n o₀ o h r e = omega arith

module _ (l : Option Marks) (b : List ℕ) (most : ℕ) (es t₀ y₀ o₀ : List ℕ) where
  abbrev whole : Stand
  whole = steps l b most (records_in es) (begin t₀ y₀ o₀)

  pub record Here (t y o : List ℕ) (used m i : ℕ) : Type 0 where
    pub sound : SoundTable t used
    pub scanned : soundness_lent l b t ≡ Some used
    pub turns : i ≤ length es / RECORD
    pub room : 24 * m ≤ length y
    pub table_same : length t ≡ length t₀
    pub tray_same : length y ≡ length y₀
    pub outs_same : length o ≡ length o₀
    pub rest : steps l b most (drop i (records_in es)) (record { table = t; tray = y; outs = o; events = i; messages = m }) ≡ whole

  pub here_first : (n : ℕ) → SoundTable t₀ n → soundness_lent l b t₀ ≡ Some n → Here t₀ y₀ o₀ n 0 0
  here_first n s q = record {
    sound = s;
    scanned = q;
    turns = omega arith;
    room = omega arith;
    table_same = refl;
    tray_same = refl;
    outs_same = refl;
    rest = refl;
  }

  -- the record in its turn
  next_record : (i : ℕ) → i < length es / RECORD → drop i (records_in es) ≡ take RECORD (drop (24 * i) es) ∷ drop (suc i) (records_in es)
  next_record i h =
      drop-cons (records_in es) i [] (subst (λ (n : ℕ). i < n) (sym (chunks-length RECORD (length es / RECORD) es)) h)
      ∙ ap (λ (e : List ℕ). e ∷ drop (suc i) (records_in es))
      (get_d_chunks RECORD (length es / RECORD) i es h ∙ ap (λ (n : ℕ). take RECORD (drop n es)) (mul_comm i RECORD))

  went : (s : Stand) → s ≡ whole
      → Went 0 whole s.table s.tray s.outs (record { outcome = 0; events = s.events; messages = s.messages })
  went s q =
      subst (λ (w : Stand). Went 0 w s.table s.tray s.outs (record { outcome = 0; events = s.events; messages = s.messages })) q
      (record { said = refl; done = refl; told = refl; left = refl; laid = refl; noted = refl })

  module _ (t y o : List ℕ) (used m i : ℕ) (h : Here t y o used m i) where
    abbrev S : Stand
    S = record { table = t; tray = y; outs = o; events = i; messages = m }

    -- too few places are left
    pub went_full : i < length es / RECORD → (length y - 24 * m) / 24 < 64
        → Went 0 whole t y o (record { outcome = 0; events = i; messages = m })
    unfolding steps
    went_full c f =
        let p : leb 64 (places_in (drop (24 * m) y)) ≡ false =
        lt-leb 64 (places_in (drop (24 * m) y)) (subst (λ (n : ℕ). n < 64) (sym (places_are y m)) f) in
        went S
        (sym (ap (λ (rs : List (List ℕ)). steps l b most rs S) (next_record i c) ∙ rw p) ∙ h.rest)

    -- no record is left
    pub went_all : length es / RECORD ≤ i → Went 0 whole t y o (record { outcome = 0; events = i; messages = m })
    unfolding steps
    went_all c =
        went S
        (sym (ap (λ (rs : List (List ℕ)). steps l b most rs S)
        (drop_of_length-le (records_in es) (subst (λ (n : ℕ). n ≤ i) (sym (chunks-length RECORD (length es / RECORD) es)) c))) ∙ h.rest)

    pub went_done : i ≡ length es / RECORD → Went 0 whole t y o (record { outcome = 0; events = length es / RECORD; messages = m })
    went_done e =
        subst (λ (k : ℕ). Went 0 whole t y o (record { outcome = 0; events = k; messages = m })) e (went_all (omega arith))

    abbrev E : List ℕ
    E = take (24 * i + 24 - 24 * i) (drop (24 * i) es)

    record_is : E ≡ take RECORD (drop (24 * i) es)
    record_is = ap (λ (n : ℕ). take n (drop (24 * i) es)) (let z : 24 * i + 24 - 24 * i ≡ 24 = omega arith in z)

    -- one record more
    pub here-next : (v z u : List ℕ) (used' m' : ℕ) → i < length es / RECORD → 64 ≤ (length y - 24 * m) / 24
        → length v ≡ length t → length z ≡ length y → length u ≡ length o
        → Turned l b (result_at l b most E S) S (record { table = v; tray = z; outs = u; events = suc i; messages = m' }) used'
        → Here v z u used' m' (i + 1)
    unfolding steps
    here-next v z u used' m' c f lt ly lo d =
        let p : leb 64 (places_in (drop (24 * m) y)) ≡ true =
        le-leb 64 (places_in (drop (24 * m) y)) (subst (λ (n : ℕ). 64 ≤ n) (sym (places_are y m)) f) in
        let few : length (result_at l b most E S).sent ≤ 63 = result_few l b most E t (drop (24 * m) y) in
        let told : m' ≡ m + length (result_at l b most E S).sent = ap (λ (s : Stand). s.messages) d.is in
        let R : Stand = record { table = v; tray = z; outs = u; events = suc i; messages = m' } in
        let q : steps l b most (drop i (records_in es)) S ≡ steps l b most (drop (suc i) (records_in es)) R =
        ap (λ (rs : List (List ℕ)). steps l b most rs S) (next_record i c)
        ∙ rw p
        (ap (λ (e : List ℕ). steps l b most (drop (suc i) (records_in es)) (after (result_at l b most e S) S)) (sym record_is)
        ∙ ap (steps l b most (drop (suc i) (records_in es))) (sym d.is)) in
        record {
          sound = d.sound;
          scanned = d.scanned;
          turns = omega arith;
          room = omega (arith, ly, told, few, f);
          table_same = lt ∙ h.table_same;
          tray_same = ly ∙ h.tray_same;
          outs_same = lo ∙ h.outs_same;
          rest = ap (λ (j : ℕ). steps l b most (drop j (records_in es))
              (record { table = v; tray = z; outs = u; events = j; messages = m' })) (add-one i) ∙ sym q ∙ h.rest;
        }
