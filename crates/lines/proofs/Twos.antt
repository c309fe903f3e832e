-- The rows of a line may stand together exactly where no two of them have what a line may have once. Assumes nothing.
use mathlib.Core.Path.{◌≡◌, refl, sym, ap, ◌∙◌, subst}
use mathlib.Core.Bool.{Bool, true, false, cond, ◌&&◌}
use mathlib.Core.List.{List, [], ◌∷◌}
use Prim.Native.Nat.{ℕ, zero, suc, ◌≤◌, ◌<◌, zero-le, suc-le-suc}
use native.Mathlib.Nat.{not-suc-le-zero, le_of_suc-le-suc}
use native.Mathlib.Omega.{arith}
use borrow.Author.Tests.{eq-eqb, eqb-true, leb-true, le-leb}
use lib.Dec.{leb}
use lib.ListN.{length, get_or}
use Rattle.model.specs.declared.Version.{Version}
use Rattle.model.specs.Basics.{all, implies, keep, none, with}
use Rattle.model.specs.Table.{in_line, rows_of}
use Rattle.model.specs.Sound.{count, live, sends, worked, numbered, one_each, none_twice, sound_line}
use Rattle.model.proofs.Lists.{and_l, and_r, both_true, conj_at, conj_all}
use Rattle.table.specs.Survey.{version_at}
use Rattle.model.specs.Sound.{sound_lines}

-- ---- a test of all versions, by their places

pub all_at : (p : Version → Bool) (vs : List Version) → all p vs ≡ true → (i : ℕ) → i < length vs → p (version_at vs i) ≡ true
all_at p [] e i h = absurd (not-suc-le-zero h)
all_at p (v ∷ vs) e zero h = and_l (p v) (all p vs) e
all_at p (v ∷ vs) e (suc i) h = all_at p vs (and_r (p v) (all p vs) e) i (le_of_suc-le-suc h)

pub at_all : (p : Version → Bool) (vs : List Version) → ((i : ℕ) → i < length vs → p (version_at vs i) ≡ true) → all p vs ≡ true
at_all p [] f = refl
at_all p (v ∷ vs) f = both_true (p v) (all p vs) (f 0 (suc-le-suc zero-le)) (at_all p vs (λ i h. f (suc i) (suc-le-suc h)))

all_kept : (f q : Version → Bool) (vs : List Version) → all f (keep q vs) ≡ all (λ (v : Version). implies (q v) (f v)) vs
all_kept f q [] = refl
all_kept f q (v ∷ vs) = go (q v) (all_kept f q vs)
  where
    go : (b : Bool) → all f (keep q vs) ≡ all (λ (v : Version). implies (q v) (f v)) vs
        → all f (cond b (v ∷ keep q vs) (keep q vs)) ≡ (implies b (f v) && all (λ (v : Version). implies (q v) (f v)) vs)
    go true ih = ap (λ (b : Bool). f v && b) ih
    go false ih = ih

-- ---- at most one passes: no two do

module _ (p : Version → Bool) where
  none_passes : (vs : List Version) → count p vs ≡ 0 → (i : ℕ) → i < length vs → p (version_at vs i) ≡ true → ⊥
  none_passes [] c i h e = not-suc-le-zero h
  none_passes (v ∷ vs) c zero h e =
      let z : length (cond true (v ∷ keep p vs) (keep p vs)) ≡ 0 =
      subst (λ (b : Bool). length (cond b (v ∷ keep p vs) (keep p vs)) ≡ 0) e c in
      omega arith
  none_passes (v ∷ vs) c (suc i) h e = none_passes vs (go (p v) c) i (le_of_suc-le-suc h) e
    where
      go : (b : Bool) → length (cond b (v ∷ keep p vs) (keep p vs)) ≡ 0 → count p vs ≡ 0
      go true z = absurd (omega arith)
      go false z = z

  passes_none : (vs : List Version) → ((i : ℕ) → i < length vs → p (version_at vs i) ≡ true → ⊥) → count p vs ≡ 0
  passes_none [] f = refl
  passes_none (v ∷ vs) f = go (p v) refl (passes_none vs (λ i h e. f (suc i) (suc-le-suc h) e))
    where
      go : (b : Bool) → p v ≡ b → count p vs ≡ 0 → length (cond b (v ∷ keep p vs) (keep p vs)) ≡ 0
      go true e ih = absurd (f 0 (suc-le-suc zero-le) e)
      go false e ih = ih

  one_two : (vs : List Version) → count p vs ≤ 1 → (i j : ℕ) → i < j → j < length vs → p (version_at vs i) ≡ true
      → p (version_at vs j) ≡ true → ⊥
  one_two [] c i j l h a b = not-suc-le-zero h
  one_two (v ∷ vs) c i zero l h a b = not-suc-le-zero l
  one_two (v ∷ vs) c zero (suc j) l h a b =
      let z : length (cond true (v ∷ keep p vs) (keep p vs)) ≤ 1 =
      subst (λ (b : Bool). length (cond b (v ∷ keep p vs) (keep p vs)) ≤ 1) a c in
      let o : count p vs ≡ 0 = omega arith in
      none_passes vs o j (le_of_suc-le-suc h) b
  one_two (v ∷ vs) c (suc i) (suc j) l h a b = one_two vs (go (p v) c) i j (le_of_suc-le-suc l) (le_of_suc-le-suc h) a b
    where
      go : (b : Bool) → length (cond b (v ∷ keep p vs) (keep p vs)) ≤ 1 → count p vs ≤ 1
      go true z = omega arith
      go false z = z

  two_one : (vs : List Version)
      → ((i j : ℕ) → i < j → j < length vs → p (version_at vs i) ≡ true → p (version_at vs j) ≡ true → ⊥) → count p vs ≤ 1
  two_one [] f = zero-le
  two_one (v ∷ vs) f = go (p v) refl (two_one vs (λ i j l h. f (suc i) (suc j) (suc-le-suc l) (suc-le-suc h)))
    where
      go : (b : Bool) → p v ≡ b → count p vs ≤ 1 → length (cond b (v ∷ keep p vs) (keep p vs)) ≤ 1
      go true e ih =
          let o : count p vs ≡ 0 = passes_none vs (λ j h. f 0 (suc j) (suc-le-suc zero-le) (suc-le-suc h) e) in
          omega arith
      go false e ih = ih

count_kept : (p q : Version → Bool) (vs : List Version) → count p (keep q vs) ≡ count (λ (v : Version). q v && p v) vs
count_kept p q [] = refl
count_kept p q (v ∷ vs) = go (q v) (p v) refl (count_kept p q vs)
  where
    go : (a b : Bool) → p v ≡ b → count p (keep q vs) ≡ count (λ (v : Version). q v && p v) vs
        → count p (cond a (v ∷ keep q vs) (keep q vs))
        ≡ length (cond (a && b) (v ∷ keep (λ (v : Version). q v && p v) vs) (keep (λ (v : Version). q v && p v) vs))
    go true true e ih = rw e (ap suc ih)
    go true false e ih = rw e ih
    go false b e ih = ih

-- ---- the rows of one line

module _ (line : ℕ → ℕ) (l : ℕ) (t : List Version) (p : Version → Bool) where
  abbrev line_at : ℕ → ℕ
  line_at i = line (version_at t i).id.tn.0

  abbrev both : Version → Bool
  both v = in_line line l v.id && p v

  pub parted : count p (rows_of line l t) ≤ 1 → (i j : ℕ) → i < j → j < length t → line_at i ≡ l → line_at j ≡ l
      → p (version_at t i) ≡ true → p (version_at t j) ≡ true → ⊥
  parted c i j d h a b x y =
      let k : count both t ≤ 1 = subst (λ (n : ℕ). n ≤ 1) (count_kept p (λ (v : Version). in_line line l v.id) t) c in
      one_two both t k i j d h
      (both_true (in_line line l (version_at t i).id) (p (version_at t i)) (eq-eqb _ _ a) x)
      (both_true (in_line line l (version_at t j).id) (p (version_at t j)) (eq-eqb _ _ b) y)

  pub joint : ((i j : ℕ) → i < j → j < length t → line_at i ≡ l → line_at j ≡ l → p (version_at t i) ≡ true → p (version_at t j) ≡ true → ⊥)
      → count p (rows_of line l t) ≤ 1
  joint f =
      subst (λ (n : ℕ). n ≤ 1) (sym (count_kept p (λ (v : Version). in_line line l v.id) t))
      (two_one both t
      (λ i j d h x y. f i j d h (eqb-true _ _ (and_l (in_line line l (version_at t i).id) (p (version_at t i)) x))
      (eqb-true _ _ (and_l (in_line line l (version_at t j).id) (p (version_at t j)) y))
      (and_r (in_line line l (version_at t i).id) (p (version_at t i)) x)
      (and_r (in_line line l (version_at t j).id) (p (version_at t j)) y)))

-- ---- two versions that may stand in one line

pub record Clear (v w : Version) : Type 0 where
  pub number : v.id.number ≡ w.id.number → ⊥
  pub lives : live v ≡ true → live w ≡ true → ⊥
  pub sent : sends v ≡ true → sends w ≡ true → ⊥
  pub work : worked v ≡ true → worked w ≡ true → ⊥

pub clear_back : (v w : Version) → Clear v w → Clear w v
clear_back v w c = record {
  number = λ e. c.number (sym e);
  lives = λ a b. c.lives b a;
  sent = λ a b. c.sent b a;
  work = λ a b. c.work b a;
}

-- every two of one line may
abbrev pub AllClear : (ℕ → ℕ) → List Version → Type 0
AllClear line t =
    (i j : ℕ) → i < j → j < length t → line (version_at t i).id.tn.0 ≡ line (version_at t j).id.tn.0
    → Clear (version_at t i) (version_at t j)

module _ (line : ℕ → ℕ) (t : List Version) where
  abbrev rows : ℕ → List Version
  rows i = rows_of line (line (version_at t i).id.tn.0) t

  abbrev three : List Version → List Bool
  three r = leb (count live r) 1 ∷ leb (count sends r) 1 ∷ leb (count worked r) 1 ∷ []

  abbrev alone : List Version → Version → Bool
  alone r v = leb (count (numbered v.id.number) r) 1

  pub lines_clear : sound_lines line t ≡ true → AllClear line t
  unfolding sound_lines sound_line one_each none_twice
  lines_clear e i j d h q =
      let l : ℕ = line (version_at t i).id.tn.0 in
      let r : List Version = rows_of line (line (version_at t i).id.tn.0) t in
      let s : (one_each r && none_twice r) ≡ true =
      all_at (λ (v : Version). sound_line (rows_of line (line v.id.tn.0) t)) t e i (omega arith) in
      let of : (k : ℕ) → get_or (three r) k true ≡ true = conj_at (three r) (and_l (one_each r) (none_twice r) s) in
      let n : implies (in_line line l (version_at t i).id) (alone r (version_at t i)) ≡ true =
      all_at (λ (v : Version). implies (in_line line l v.id) (alone r v)) t
      (sym (all_kept (alone r) (λ (v : Version). in_line line l v.id) t) ∙ and_r (one_each r) (none_twice r) s) i (omega arith) in
      let m : alone r (version_at t i) ≡ true = subst (λ (b : Bool). implies b (alone r (version_at t i)) ≡ true) (eq-eqb l l refl) n in
      record {
        number = λ z.
            parted line l t (numbered (version_at t i).id.number) (leb-true _ _ m) i j d h refl (sym q)
            (eq-eqb (version_at t i).id.number (version_at t i).id.number refl) (eq-eqb _ _ (sym z));
        lives = parted line l t live (leb-true _ _ (of 0)) i j d h refl (sym q);
        sent = parted line l t sends (leb-true _ _ (of 1)) i j d h refl (sym q);
        work = parted line l t worked (leb-true _ _ (of 2)) i j d h refl (sym q);
      }

  pub clear_lines : AllClear line t → sound_lines line t ≡ true
  unfolding sound_lines sound_line one_each none_twice
  clear_lines f = at_all (λ (v : Version). sound_line (rows_of line (line v.id.tn.0) t)) t (λ k h. together k)
    where
      alone_at : (k m : ℕ) → alone (rows k) (version_at t m) ≡ true
      alone_at k m =
          le-leb _ _ (joint line (line (version_at t k).id.tn.0) t (numbered (version_at t m).id.number)
          (λ i j d h a b x y. (f i j d h (a ∙ sym b)).number (eqb-true _ _ x ∙ sym (eqb-true _ _ y))))

      kept : (k m : ℕ) → (b : Bool) → implies b (alone (rows k) (version_at t m)) ≡ true
      kept k m true = alone_at k m
      kept k m false = refl

      together : (k : ℕ) → (one_each (rows k) && none_twice (rows k)) ≡ true
      together k =
          let l : ℕ = line (version_at t k).id.tn.0 in
          both_true (one_each (rows k)) (none_twice (rows k))
          (conj_all (three (rows k))
          (with (le-leb _ _ (joint line l t live (λ i j d h a b. (f i j d h (a ∙ sym b)).lives)))
          (with (le-leb _ _ (joint line l t sends (λ i j d h a b. (f i j d h (a ∙ sym b)).sent)))
          (with (le-leb _ _ (joint line l t worked (λ i j d h a b. (f i j d h (a ∙ sym b)).work))) none))))
          (all_kept (alone (rows k)) (λ (v : Version). in_line line l v.id) t
          ∙ at_all (λ (v : Version). implies (in_line line l v.id) (alone (rows k) v)) t
          (λ m h. kept k m (in_line line l (version_at t m).id)))
