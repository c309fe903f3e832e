-- What one pass over the places of a list says of it as a whole.
-- Assumes nothing.
use Prim.Native.Nat.{ℕ, zero, suc, ◌+◌, ◌-◌, ◌≤◌, ◌<◌}
use mathlib.Core.Path.{◌≡◌, refl, sym, ap, ◌∙◌}
use mathlib.Core.Bool.{Bool, true, false, cond, ◌&&◌}
use mathlib.Core.List.{List, [], ◌∷◌}
use native.Mathlib.Numerals.{add-one}
use native.Mathlib.Omega.{arith}
use borrow.Author.Tests.{eq-eqb, ne_eqb}
use lib.Dec.{eqb}
use Rattle.books.specs.Packed.{used_from, free_from, packed_from}
use Rattle.books.specs.Places.{rest_of}
use Rattle.soundbooks.specs.Scan.{Test, chain, scan}

-- THE PASS says whether the places are packed and each used one passes
pub scan_is : (good : Test) (w : ℕ → ℕ) (m i last : ℕ) → scan good w m i last ≡ (packed_from w m i && chain good last (used_from w m i))
unfolding scan packed_from used_from
scan_is good w zero i last = refl
scan_is good w (suc m) i last = go (eqb (w i) 0) (scan_is good w m (suc i) (w i))
  where
    swap : (a b c : Bool) → (a && (b && c)) ≡ (b && (a && c))
    swap true b c = refl
    swap false true c = refl
    swap false false c = refl

    one : (a : Bool) → a ≡ (a && true)
    one true = refl
    one false = refl

    go : (b : Bool) → scan good w m (suc i) (w i) ≡ (packed_from w m (suc i) && chain good (w i) (used_from w m (suc i)))
        → cond b (free_from w m (suc i)) (good last (w i) (used_from w m (suc i)) && scan good w m (suc i) (w i))
        ≡ (cond b (free_from w m (suc i)) (packed_from w m (suc i)) && chain good last (cond b [] (w i ∷ used_from w m (suc i))))
    go true h = one (free_from w m (suc i))
    go false h = ap (λ (a : Bool). good last (w i) (used_from w m (suc i)) && a) h
        ∙ swap (good last (w i) (used_from w m (suc i))) (packed_from w m (suc i)) (chain good (w i) (used_from w m (suc i)))

-- ---- the steps of the pass, as the code takes them: place i is x, of n in all

module _ (good : Test) (w : ℕ → ℕ) (n i last x : ℕ) (h : i < n) (hx : x ≡ w i) where
  pub scan_free : x ≡ 0 → scan good w (n - i) i last ≡ free_from w (n - (i + 1)) (i + 1)
  unfolding scan
  scan_free z =
      let e : n - i ≡ suc (n - (i + 1)) = omega arith in
      rw (e, eq-eqb (w i) 0 (sym hx ∙ z), add-one i)

  scan-used : (x ≡ 0 → ⊥) → scan good w (n - i) i last ≡ (good last x (rest_of w n (i + 1)) && scan good w (n - (i + 1)) (i + 1) x)
  unfolding scan
  scan-used nz =
      let e : n - i ≡ suc (n - (i + 1)) = omega arith in
      rw (e, ne_eqb (w i) 0 (λ q. nz (hx ∙ q)), hx, add-one i)

  pub scan_bad : (r : Bool) → (x ≡ 0 → ⊥) → r ≡ good last x (rest_of w n (i + 1)) → r ≡ false → scan good w (n - i) i last ≡ false
  scan_bad r nz hr f = scan-used nz ∙ ap (λ (b : Bool). b && scan good w (n - (i + 1)) (i + 1) x) (sym hr ∙ f)

  pub scan-next : (r : Bool) → (x ≡ 0 → ⊥) → r ≡ good last x (rest_of w n (i + 1)) → r ≡ true
      → scan good w (n - i) i last ≡ scan good w (n - (i + 1)) (i + 1) x
  scan-next r nz hr t = scan-used nz ∙ ap (λ (b : Bool). b && scan good w (n - (i + 1)) (i + 1) x) (sym hr ∙ t)

pub scan_end : (good : Test) (w : ℕ → ℕ) (n i last : ℕ) → n ≤ i → scan good w (n - i) i last ≡ true
unfolding scan
scan_end good w n i last h =
    let e : n - i ≡ 0 = omega arith in
    rw e

-- a test that does not look at the place before
pub scan_forgets : (good : ℕ → List ℕ → Bool) (w : ℕ → ℕ) (m i a b : ℕ) → scan (λ (last x : ℕ) (xs : List ℕ). good x xs) w m i a
    ≡ scan (λ (last x : ℕ) (xs : List ℕ). good x xs) w m i b
unfolding scan
scan_forgets good w zero i a b = refl
scan_forgets good w (suc m) i a b = refl
