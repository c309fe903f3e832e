-- The versions of one TN stand together, and those of a line one name after the other. Assumes nothing.
use mathlib.Core.Path.{◌≡◌, refl, sym, ap, ◌∙◌}
use mathlib.Core.Bool.{Bool, true, false, cond, ◌||◌}
use mathlib.Core.List.{List, [], ◌∷◌, ◌++◌, append-nil}
use Prim.Native.Nat.{ℕ, ◌+◌, ◌*◌, ◌/◌, ◌≤◌, ◌<◌}
use native.Mathlib.Nat.{ne_of_gt, ne_of_lt}
use native.Mathlib.Omega.{arith}
use borrow.Author.Tests.{eq-eqb, ne_eqb, le-ltb, eqb-true, ltb-true, ltb-false}
use lib.Dec.{eqb, ltb}
use lib.Seq.{slice}
use Rattle.model.specs.declared.Version.{Version}
use Rattle.model.specs.Table.{rows_of}
use Rattle.model.proofs.TableLaws.{Rising}
use Rattle.row.specs.Layout.{key_of}
use Rattle.table.specs.Find.{past, lower_of, key_for, keys, place_in}
use Rattle.scan.specs.Sound.{itself}
use Rattle.table.specs.Survey.{rows_beyond, rows_under}
use Rattle.rows.proofs.Sounds.{AllSound, RisingFrom, number_lt, key_lower}

-- ---- the rows between two places

rows_none : (n k : ℕ) (vs : List Version) → AllSound vs → RisingFrom k vs → n < k / 65536 → rows_of itself n vs ≡ []
rows_none n k [] a r h = refl
rows_none n k (v ∷ vs) a r h =
    let b : v.id.number < 65536 = number_lt v a.0 in
    let l : k < key_of v.id = r.0 in
    let u : n < v.id.tn.0 = omega arith in
    let w : n < key_of v.id / 65536 = omega arith in
    ap (λ (c : Bool). cond c (v ∷ rows_of itself n vs) (rows_of itself n vs)) (ne_eqb v.id.tn.0 n (ne_of_gt u))
    ∙ rows_none n (key_of v.id) vs a.1 r.1 w

place_zero : (q k : ℕ) (vs : List Version) → RisingFrom k vs → q ≤ k → place_in q vs ≡ 0
unfolding place_in lower_of
place_zero q k [] r h = refl
place_zero q k (v ∷ vs) r h = ap (λ (b : Bool). past b (lower_of q (keys vs))) (le-ltb (key_for v) q (omega (arith, r.0)))

-- the rows of number n are those from its first key to the next number's
pub rows_between : (n k : ℕ) (vs : List Version) → AllSound vs → RisingFrom k vs
    → slice (place_in (n * 65536) vs) (place_in ((n + 1) * 65536) vs) vs ≡ rows_of itself n vs
unfolding place_in lower_of
rows_between n k [] a r = refl
rows_between n k (v ∷ vs) a r =
    go (ltb (key_for v) (n * 65536)) (ltb (key_for v) ((n + 1) * 65536)) refl refl (rows_between n (key_for v) vs a.1 r.1)
    (number_lt v a.0)
  where
    lo : ℕ
    lo = place_in (n * 65536) vs

    hi : ℕ
    hi = place_in ((n + 1) * 65536) vs

    rows : List Version
    rows = rows_of itself n vs

    go : (a b : Bool) → ltb (key_for v) (n * 65536) ≡ a → ltb (key_for v) ((n + 1) * 65536) ≡ b → slice lo hi vs ≡ rows
        → v.id.number < 65536
        → slice (past a lo) (past b hi) (v ∷ vs) ≡ cond (eqb v.id.tn.0 n) (v ∷ rows) rows
    go true true p q i z =
        let l : key_for v < n * 65536 = ltb-true _ _ p in
        let u : v.id.tn.0 < n = omega arith in
        i ∙ sym (ap (λ (b : Bool). cond b (v ∷ rows) rows) (ne_eqb v.id.tn.0 n (ne_of_lt u)))
    go true false p q i z =
        let l : key_for v < n * 65536 = ltb-true _ _ p in
        let u : (n + 1) * 65536 ≤ key_for v = ltb-false _ _ q in
        absurd (omega arith)
    go false true p q i z =
        let l : n * 65536 ≤ key_for v = ltb-false _ _ p in
        let u : key_for v < (n + 1) * 65536 = ltb-true _ _ q in
        let e : v.id.tn.0 ≡ n = omega arith in
        let z : lo ≡ 0 = place_zero (n * 65536) (key_for v) vs r.1 l in
        ap (λ (l : List Version). v ∷ l) (ap (λ (j : ℕ). slice j hi vs) (sym z) ∙ i)
        ∙ sym (ap (λ (b : Bool). cond b (v ∷ rows) rows) (eq-eqb v.id.tn.0 n e))
    go false false p q i z =
        let l : (n + 1) * 65536 ≤ key_for v = ltb-false _ _ q in
        let u : n < v.id.tn.0 = omega arith in
        let w : n < key_of v.id / 65536 = omega arith in
        sym (ap (λ (b : Bool). cond b (v ∷ rows) rows) (ne_eqb v.id.tn.0 n (ne_of_gt u)) ∙ rows_none n (key_for v) vs a.1 r.1 w)

pub place_up : (vs : List Version) (j k : ℕ) → j ≤ k → place_in j vs ≤ place_in k vs
unfolding place_in lower_of
place_up [] j k h = omega arith
place_up (v ∷ vs) j k h = go (ltb (key_for v) j) (ltb (key_for v) k) refl refl (place_up vs j k h)
  where
    go : (a b : Bool) → ltb (key_for v) j ≡ a → ltb (key_for v) k ≡ b → place_in j vs ≤ place_in k vs
        → past a (place_in j vs) ≤ past b (place_in k vs)
    go true true p q i = omega arith
    go true false p q i =
        let x : key_for v < j = ltb-true _ _ p in
        let y : k ≤ key_for v = ltb-false _ _ q in
        absurd (omega arith)
    go false b p q i = omega arith

-- the rows under two TNs: the smaller one's, then the larger one's
pub rows_two : (m n k : ℕ) (vs : List Version) → m < n → AllSound vs → RisingFrom k vs
    → rows_of itself m vs ++ rows_of itself n vs ≡ rows_under m n vs
rows_two m n k [] h a r = refl
rows_two m n k (v ∷ vs) h a r = go (eqb v.id.tn.0 m) refl (eqb v.id.tn.0 n) refl (rows_two m n (key_of v.id) vs h a.1 r.1)
  where
    A : List Version
    A = rows_of itself m vs

    B : List Version
    B = rows_of itself n vs

    go : (x : Bool) → eqb v.id.tn.0 m ≡ x → (y : Bool) → eqb v.id.tn.0 n ≡ y → A ++ B ≡ rows_under m n vs
        → cond x (v ∷ A) A ++ cond y (v ∷ B) B ≡ cond (x || y) (v ∷ rows_under m n vs) (rows_under m n vs)
    go true p true q ih = absurd (omega (arith, eqb-true v.id.tn.0 m p, eqb-true v.id.tn.0 n q, h))
    go true p false q ih = ap (λ (l : List Version). v ∷ l) ih
    go false p true q ih =
        let b : v.id.number < 65536 = number_lt v a.0 in
        let e : v.id.tn.0 ≡ n = eqb-true _ _ q in
        let none : A ≡ [] = rows_none m (key_of v.id) vs a.1 r.1 (omega arith) in
        ap (λ (l : List Version). l ++ (v ∷ B)) none ∙ ap (λ (l : List Version). v ∷ l) (ap (λ (l : List Version). l ++ B) (sym none) ∙ ih)
    go false p false q ih = ih

-- a line of one name
pub rows_one : (n : ℕ) (vs : List Version) → rows_of itself n vs ≡ rows_under n n vs
rows_one n [] = refl
rows_one n (v ∷ vs) = go (eqb v.id.tn.0 n) (rows_one n vs)
  where
    go : (b : Bool) → rows_of itself n vs ≡ rows_under n n vs
        → cond b (v ∷ rows_of itself n vs) (rows_of itself n vs) ≡ cond (b || b) (v ∷ rows_under n n vs) (rows_under n n vs)
    go true ih = ap (λ (l : List Version). v ∷ l) ih
    go false ih = ih

-- a line of one name or two
pub rows_line : (m n k : ℕ) (vs : List Version) → m ≤ n → AllSound vs → RisingFrom k vs
    → rows_of itself m vs ++ rows_beyond m n vs ≡ rows_under m n vs
rows_line m n k vs h a r = go (ltb m n) refl
  where
    go : (b : Bool) → ltb m n ≡ b → rows_of itself m vs ++ cond b (rows_of itself n vs) [] ≡ rows_under m n vs
    go true q = rows_two m n k vs (ltb-true m n q) a r
    go false q =
        let e : m ≡ n = omega (arith, h, ltb-false m n q) in
        append-nil (rows_of itself m vs) ∙ rows_one m vs ∙ ap (λ (j : ℕ). rows_under m j vs) e

-- a list whose keys rise is strictly rising by name
pub rises_type : (vs : List Version) (k : ℕ) → AllSound vs → RisingFrom k vs → Rising vs
rises_type [] k a r = tt
rises_type (v ∷ []) k a r = (tt, tt)
rises_type (v ∷ (w ∷ ws)) k a r =
    (key_lower v.id w.id (number_lt v a.0) (number_lt w a.1.0) r.1.0, rises_type (w ∷ ws) (key_of v.id) a.1 r.1)
