-- What each number has at most once, over any test of a version: row by row, and counted. Assumes nothing.
use mathlib.Core.Path.{◌≡◌, refl, sym, ap, ap₂, subst}
use mathlib.Core.Bool.{Bool, true, false, cond, false≢true}
use mathlib.Core.Logic.{◌⊎◌, inl, inr, ⊎_elim}
use mathlib.Core.List.{List, [], ◌∷◌}
use Prim.Native.Nat.{ℕ, ◌+◌, ◌/◌, ◌≤◌, ◌<◌}
use native.Mathlib.Nat.{ne_of_gt}
use native.Mathlib.Omega.{arith}
use borrow.Author.Tests.{eq-eqb, ne_eqb, eqb-true, eqb-false, leb-true, le-leb}
use lib.Dec.{eqb, leb}
use Rattle.model.specs.declared.Version.{Version}
use Rattle.model.specs.Basics.{all}
use Rattle.model.specs.Table.{rows_of}
use Rattle.model.specs.Sound.{count}
use Rattle.row.specs.Layout.{key_of}
use Rattle.model.proofs.Lists.{and_l, and_r}
use Rattle.scan.specs.Join.{second, either}
use Rattle.scan.specs.Sound.{itself}
use Rattle.rows.proofs.Sounds.{AllSound, RisingFrom, number_lt}

-- 1 where the test holds of a version of that number
abbrev pub one : Bool → Bool → ℕ
one true true = 1
one true false = 0
one false b = 0

one_le : (a b : Bool) → one a b ≤ 1
one_le true true = omega arith
one_le true false = omega arith
one_le false b = omega arith

-- not both: together they count as either
sum-le : (c f x : Bool) → second true f x ≡ false → one c x + one c f ≤ one c (either true f x)
sum-le true true true h = absurd (false≢true (sym h))
sum-le true true false h = omega arith
sum-le true false true h = omega arith
sum-le true false false h = omega arith
sum-le false f x h = omega arith

either-le : (c d s f x : Bool) → (s ≡ true → c ≡ d) → one c (either s f x) ≤ one c x + one d f
either-le c d true true x h = rw (h refl) (omega arith)
either-le c d true false x h = omega arith
either-le c d false f x h = omega arith

module _ (p : Version → Bool) where
  abbrev here : ℕ → Version → ℕ
  here n v = one (eqb v.id.tn.0 n) (p v)

  -- how many versions of number n pass the test
  abbrev pub tally : ℕ → List Version → ℕ
  tally n [] = 0
  tally n (v ∷ vs) = here n v + tally n vs

  pub tally_counts : (n : ℕ) (vs : List Version) → count p (rows_of itself n vs) ≡ tally n vs
  tally_counts n [] = refl
  tally_counts n (v ∷ vs) = go (eqb v.id.tn.0 n) (p v) refl (tally_counts n vs)
    where
      go : (a b : Bool) → p v ≡ b → count p (rows_of itself n vs) ≡ tally n vs
          → count p (cond a (v ∷ rows_of itself n vs) (rows_of itself n vs)) ≡ one a (p v) + tally n vs
      go true true e ih = rw e (omega (arith, ih))
      go true false e ih = rw e (omega (arith, ih))
      go false b e ih = omega (arith, ih)

  -- row by row: number m came last, and had the test or not
  abbrev pub Flags : ℕ → Bool → List Version → Type 0
  Flags m f [] = Unit {0}
  Flags m f (v ∷ vs) = (second (eqb v.id.tn.0 m) f (p v) ≡ false) × Flags v.id.tn.0 (either (eqb v.id.tn.0 m) f (p v)) vs

  low_none : (vs : List Version) (k n : ℕ) → AllSound vs → RisingFrom k vs → n < k / 65536 → tally n vs ≡ 0
  low_none [] k n a r l = refl
  low_none (v ∷ vs) k n a r l =
      let b : v.id.number < 65536 = number_lt v a.0 in
      let lt : k < key_of v.id = r.0 in
      let up : n < v.id.tn.0 = omega arith in
      let next : n < key_of v.id / 65536 = omega arith in
      ap₂ (λ (x y : ℕ). x + y) (ap (λ (c : Bool). one c (p v)) (ne_eqb v.id.tn.0 n (ne_of_gt up)))
      (low_none vs (key_of v.id) n a.1 r.1 next)

  -- row by row gives the counts
  pub flags_tally : (vs : List Version) (k m : ℕ) (f : Bool) → AllSound vs → RisingFrom k vs → m ≡ k / 65536 → Flags m f vs → (n : ℕ)
      → tally n vs + one (eqb m n) f ≤ 1
  flags_tally [] k m f a r e h n = omega (arith, one_le (eqb m n) f)
  flags_tally (v ∷ vs) k m f a r e h n =
      let b : v.id.number < 65536 = number_lt v a.0 in
      let t : v.id.tn.0 ≡ key_of v.id / 65536 = omega arith in
      let lt : k < key_of v.id = r.0 in
      go (eqb v.id.tn.0 m) refl h.0
      (flags_tally vs (key_of v.id) v.id.tn.0 (either (eqb v.id.tn.0 m) f (p v)) a.1 r.1 t h.1 n)
      (λ g. low_none vs (key_of v.id) n a.1 r.1 (omega arith)) (omega arith)
    where
      go : (s : Bool) → eqb v.id.tn.0 m ≡ s → second (eqb v.id.tn.0 m) f (p v) ≡ false
          → tally n vs + one (eqb v.id.tn.0 n) (either (eqb v.id.tn.0 m) f (p v)) ≤ 1
          → (n < v.id.tn.0 → tally n vs ≡ 0) → m ≤ v.id.tn.0
          → here n v + tally n vs + one (eqb m n) f ≤ 1
      go true s c ih low le =
          let q : one (eqb m n) f ≡ one (eqb v.id.tn.0 n) f = ap (λ (j : ℕ). one (eqb j n) f) (sym (eqb-true _ _ s)) in
          let u = sum-le (eqb v.id.tn.0 n) f (p v) (subst (λ (b : Bool). second b f (p v) ≡ false) s c) in
          let w : tally n vs + one (eqb v.id.tn.0 n) (either true f (p v)) ≤ 1
          = subst (λ (b : Bool). tally n vs + one (eqb v.id.tn.0 n) (either b f (p v)) ≤ 1) s ih in
          omega arith
      go false s c ih low le =
          let w : tally n vs + here n v ≤ 1 = subst (λ (b : Bool). tally n vs + one (eqb v.id.tn.0 n) (either b f (p v)) ≤ 1) s ih in
          apart (eqb m n) refl w
        where
          apart : (y : Bool) → eqb m n ≡ y → tally n vs + here n v ≤ 1 → here n v + tally n vs + one (eqb m n) f ≤ 1
          apart true z w =
              let ne : v.id.tn.0 ≡ m → ⊥ = eqb-false _ _ s in
              let e : m ≡ n = eqb-true _ _ z in
              let up : n < v.id.tn.0 = omega arith in
              let none : tally n vs ≡ 0 = low up in
              let away : here n v ≡ 0 = ap (λ (c : Bool). one c (p v)) (ne_eqb v.id.tn.0 n (ne_of_gt up)) in
              omega (arith, one_le (eqb m n) f)
          apart false z w =
              let o : one (eqb m n) f ≡ 0 = ap (λ (b : Bool). one b f) z in
              omega arith

  -- and the counts give row by row
  pub tally_flags : (vs : List Version) (m : ℕ) (f : Bool) → ((n : ℕ) → tally n vs + one (eqb m n) f ≤ 1) → Flags m f vs
  tally_flags [] m f h = tt
  tally_flags (v ∷ vs) m f h = (
    first (eqb v.id.tn.0 m) refl f refl (p v) refl (h v.id.tn.0),
    tally_flags vs v.id.tn.0 (either (eqb v.id.tn.0 m) f (p v))
        (λ n. omega (
          arith,
          h n,
          either-le (eqb v.id.tn.0 n) (eqb m n) (eqb v.id.tn.0 m) f (p v)
              (λ s. ap (λ (j : ℕ). eqb j n) (eqb-true _ _ s)),
        )),
  )
    where
      first : (s : Bool) → eqb v.id.tn.0 m ≡ s → (g : Bool) → f ≡ g → (x : Bool) → p v ≡ x
          → here v.id.tn.0 v + tally v.id.tn.0 vs + one (eqb m v.id.tn.0) f ≤ 1
          → second (eqb v.id.tn.0 m) f (p v) ≡ false
      first true s true g true x l =
          let e : v.id.tn.0 ≡ m = eqb-true _ _ s in
          let a : here v.id.tn.0 v ≡ 1 = ap₂ one (eq-eqb v.id.tn.0 v.id.tn.0 refl) x in
          let b : one (eqb m v.id.tn.0) f ≡ 1 = ap₂ one (eq-eqb m v.id.tn.0 (sym e)) g in
          absurd (omega arith)
      first true s true g false x l = rw (s, g, x)
      first true s false g x y l = rw (s, g)
      first false s g y x z l = rw s

  -- of each number at most one passes
  abbrev pub AtMostOne : List Version → Type 0
  AtMostOne vs = (n : ℕ) → tally n vs ≤ 1

  -- the same as a test of each number that the table names
  abbrev pub one_of : List Version → Version → Bool
  one_of t v = leb (count p (rows_of itself v.id.tn.0 t)) 1

  pub one_each_lem : (t : List Version) → AtMostOne t → (vs : List Version) → all (one_of t) vs ≡ true
  one_each_lem t h [] = refl
  one_each_lem t h (v ∷ vs) = rw (
    le-leb (count p (rows_of itself v.id.tn.0 t)) 1 (omega (arith, tally_counts v.id.tn.0 t, h v.id.tn.0)),
    one_each_lem t h vs,
  )

  each_named : (t vs : List Version) (n : ℕ) → all (one_of t) vs ≡ true → (tally n vs ≡ 0) ⊎ (tally n t ≤ 1)
  each_named t [] n h = inl refl
  each_named t (v ∷ vs) n h =
      ⊎_elim (go (eqb v.id.tn.0 n) refl (and_l (one_of t v) (all (one_of t) vs) h)) inr
      (each_named t vs n (and_r (one_of t v) (all (one_of t) vs) h))
    where
      go : (b : Bool) → eqb v.id.tn.0 n ≡ b → one_of t v ≡ true → tally n vs ≡ 0 → (tally n (v ∷ vs) ≡ 0) ⊎ (tally n t ≤ 1)
      go true e o z =
          let q : v.id.tn.0 ≡ n = eqb-true _ _ e in
          let l : count p (rows_of itself v.id.tn.0 t) ≤ 1 = leb-true _ _ o in
          inr (omega (arith, tally_counts n t, subst (λ (j : ℕ). count p (rows_of itself j t) ≤ 1) q l))
      go false e o z = inl (ap₂ (λ (x y : ℕ). x + y) (ap (λ (c : Bool). one c (p v)) e) z)

  pub each_one : (t : List Version) → all (one_of t) t ≡ true → AtMostOne t
  each_one t h n = ⊎_elim (λ z. omega (arith, z)) (λ z. z) (each_named t t n h)
