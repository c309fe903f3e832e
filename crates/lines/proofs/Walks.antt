-- A test of all rows of a table whose keys rise, made from a place on: the rows before it and behind the last pass anyway. Assumes nothing.
use mathlib.Core.Path.{◌≡◌, refl, sym, ap, ◌∙◌}
use mathlib.Core.Bool.{Bool, true, false, ◌&&◌}
use mathlib.Core.List.{List, [], ◌∷◌}
use Prim.Native.Nat.{ℕ, zero, suc, ◌+◌, ◌≤◌, ◌<◌, zero-le, suc-le-suc}
use native.Mathlib.Nat.{not-suc-le-zero, le_of_suc-le-suc}
use native.Mathlib.Numerals.{add-one}
use native.Mathlib.Omega.{arith}
use borrow.Author.Tests.{ltb-true, ltb-false}
use lib.Dec.{ltb}
use lib.ListN.{length, drop, drop_of_length-le}
use lib.Seq.{drop-cons}
use Rattle.model.specs.declared.Version.{Version}
use Rattle.model.specs.Basics.{all}
use Rattle.model.proofs.Lists.{both_true}
use Rattle.row.specs.Layout.{unpack}
use Rattle.rows.proofs.Sounds.{AllSound, RisingFrom, number_lt}
use Rattle.table.specs.Find.{past, key_for, place_in, lower_of}
use Rattle.table.specs.Survey.{version_at}
use Rattle.table.proofs.Changed.{rises_at}

-- ---- keys from a place on

pub place_at : (k j : ℕ) (vs : List Version) (i : ℕ) → RisingFrom j vs → place_in k vs ≤ i → i < length vs → k ≤ key_for (version_at vs i)
unfolding place_in lower_of
place_at k j [] i r l h = absurd (not-suc-le-zero h)
place_at k j (v ∷ vs) zero r l h = go (ltb (key_for v) k) refl l
  where
    go : (b : Bool) → ltb (key_for v) k ≡ b → past b (place_in k vs) ≤ 0 → k ≤ key_for v
    go true e z = absurd (not-suc-le-zero z)
    go false e z = ltb-false _ _ e
place_at k j (v ∷ vs) (suc i) r l h = go (ltb (key_for v) k) refl l (λ z. place_at k (key_for v) vs i r.1 z (le_of_suc-le-suc h))
  where
    go : (b : Bool) → ltb (key_for v) k ≡ b → past b (place_in k vs) ≤ suc i → (place_in k vs ≤ i → k ≤ key_for (version_at vs i))
        → k ≤ key_for (version_at vs i)
    go true e z ih = ih (le_of_suc-le-suc z)
    go false e z ih =
        let m : k ≤ key_for v = ltb-false _ _ e in
        let n : key_for v < key_for (version_at vs i) = rises_at (v ∷ vs) j 0 (suc i) r (suc-le-suc zero-le) h in
        omega arith

-- ---- a test of all rows

module _ (p : Version → Bool) where
  pub all-every : (vs : List Version) → ((v : Version) → p v ≡ true) → all p vs ≡ true
  all-every [] f = refl
  all-every (v ∷ vs) f = both_true (p v) (all p vs) (f v) (all-every vs f)

  pub before_place : (k : ℕ) (vs : List Version) → ((v : Version) → key_for v < k → p v ≡ true) → all p (drop (place_in k vs) vs) ≡ all p vs
  unfolding place_in lower_of
  before_place k [] f = refl
  before_place k (v ∷ vs) f = go (ltb (key_for v) k) refl (before_place k vs f)
    where
      go : (b : Bool) → ltb (key_for v) k ≡ b → all p (drop (place_in k vs) vs) ≡ all p vs
          → all p (drop (past b (place_in k vs)) (v ∷ vs)) ≡ all p (v ∷ vs)
      go true e ih = ih ∙ sym (ap (λ (b : Bool). b && all p vs) (f v (ltb-true _ _ e)))
      go false e ih = refl

  above-all : (k j : ℕ) (vs : List Version) → AllSound vs → RisingFrom j vs → k ≤ j
      → ((v : Version) → v.id.number < 65536 → k ≤ key_for v → p v ≡ true) → all p vs ≡ true
  above-all k j [] a r h f = refl
  above-all k j (v ∷ vs) a r h f =
      both_true (p v) (all p vs) (f v (number_lt v a.0) (omega (arith, r.0)))
      (above-all k (key_for v) vs a.1 r.1 (omega (arith, r.0)) f)

  behind-all : (k j : ℕ) (vs : List Version) (i : ℕ) → AllSound vs → RisingFrom j vs → i < length vs → k ≤ key_for (version_at vs i)
      → ((v : Version) → v.id.number < 65536 → k ≤ key_for v → p v ≡ true) → all p (drop i vs) ≡ true
  behind-all k j [] i a r h l f = absurd (not-suc-le-zero h)
  behind-all k j (v ∷ vs) zero a r h l f =
      both_true (p v) (all p vs) (f v (number_lt v a.0) l) (above-all k (key_for v) vs a.1 r.1 l f)
  behind-all k j (v ∷ vs) (suc i) a r h l f = behind-all k (key_for v) vs i a.1 r.1 (le_of_suc-le-suc h) l f

  -- the rows from place i on decide
  module _ (vs : List Version) (i : ℕ) (s : all p (drop i vs) ≡ all p vs) where
    -- no row is left
    pub walk_out : length vs ≤ i → all p vs ≡ true
    walk_out h = sym s ∙ ap (all p) (drop_of_length-le vs {i = i} h)

    module _ (h : i < length vs) where
      turn : all p vs ≡ (p (version_at vs i) && all p (drop (i + 1) vs))
      turn =
          sym s ∙ ap (all p) (drop-cons vs i (unpack []) h) ∙ ap (λ (k : ℕ). p (version_at vs i) && all p (drop k vs)) (sym (add-one i))

      -- the row fails
      pub walk_fails : p (version_at vs i) ≡ false → all p vs ≡ false
      walk_fails e = turn ∙ ap (λ (b : Bool). b && all p (drop (i + 1) vs)) e

      -- it passes
      pub walk_on : p (version_at vs i) ≡ true → all p (drop (i + 1) vs) ≡ all p vs
      walk_on e = sym (turn ∙ ap (λ (b : Bool). b && all p (drop (i + 1) vs)) e)

      -- it stands behind all that could fail
      pub walk_past : (k : ℕ) → AllSound vs → RisingFrom 0 vs → k ≤ key_for (version_at vs i)
          → ((v : Version) → v.id.number < 65536 → k ≤ key_for v → p v ≡ true) → all p vs ≡ true
      walk_past k a r l f = sym s ∙ behind-all k 0 vs i a r h l f
