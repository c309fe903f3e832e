-- The pass over the places of the split list: what a place decides, and what it leaves to the places behind it. Assumes nothing.
use mathlib.Core.Path.{◌≡◌, sym, ap, ◌∙◌, subst}
use mathlib.Core.Bool.{Bool, true, false, ◌&&◌}
use mathlib.Core.List.{List, ◌∷◌, map}
use Prim.Native.Nat.{ℕ, ◌+◌, ◌/◌, ◌%◌, ◌^◌, ◌≤◌, ◌<◌}
use Rattle.model.specs.declared.Version.{Version}
use Rattle.model.specs.Basics.{all}
use Rattle.model.specs.Numbers.{is_code}
use Rattle.model.specs.Books.{Split}
use Rattle.model.proofs.Lists.{and_l, and_r}
use Rattle.books.specs.Packed.{split_of}
use Rattle.books.specs.Places.{rest_of}
use Rattle.books.proofs.Places.{used_none, used_more, used_end}
use Rattle.lines.specs.Pairs.{pair_fits, pairs_fit}
use Rattle.model.proofs.Partners.{codes, code_below}

-- the pairs from place i on, of n places in all
abbrev pub pairs_from : (ℕ → ℕ) → ℕ → ℕ → List Split
pairs_from w n i = map split_of (rest_of w n i)

-- they are pairs of codes, and decide
pub record Left (w : ℕ → ℕ) (n i : ℕ) (xs : List Split) (t : List Version) : Type 0 where
  pub known : all codes (pairs_from w n i) ≡ true
  pub decides : pairs_fit (pairs_from w n i) t ≡ pairs_fit xs t

module _ (w : ℕ → ℕ) (n i : ℕ) (xs : List Split) (t : List Version) (l : Left w n i xs t) where
  -- no place is left
  pub pairs_end : n ≤ i → pairs_fit xs t ≡ true
  unfolding pairs_fit
  pairs_end h = sym l.decides ∙ ap (λ (r : List ℕ). pairs_fit (map split_of r) t) (used_end w n i h)

  module _ (x : ℕ) (hx : x ≡ w i) where
    -- a free place ends the pairs
    pub pairs_free : x ≡ 0 → pairs_fit xs t ≡ true
    unfolding pairs_fit
    pairs_free z = sym l.decides ∙ ap (λ (r : List ℕ). pairs_fit (map split_of r) t) (used_none w n i x hx z)

    module _ (h : i < n) (nz : x ≡ 0 → ⊥) where
      more : pairs_from w n i ≡ split_of x ∷ pairs_from w n (i + 1)
      more = ap (map split_of) (used_more w n i x h hx nz)

      seen : (codes (split_of x) && all codes (pairs_from w n (i + 1))) ≡ true
      seen = subst (λ (r : List Split). all codes r ≡ true) more l.known

      pub pair_codes : (x / 2 ^ 32 < 1000000) × (x % 2 ^ 32 < 1000000)
      pair_codes =
          let k : codes (split_of x) ≡ true = and_l (codes (split_of x)) (all codes (pairs_from w n (i + 1))) seen in (
            code_below (x / 2 ^ 32) (and_l (is_code (x / 2 ^ 32)) (is_code (x % 2 ^ 32)) k),
            code_below (x % 2 ^ 32)
                (and_r (is_code (x / 2 ^ 32)) (is_code (x % 2 ^ 32)) k),
          )

      module _ (b : Bool) (e : b ≡ pair_fits (x / 2 ^ 32) (x % 2 ^ 32) t) where
        split : pairs_fit xs t ≡ (b && pairs_fit (pairs_from w n (i + 1)) t)
        unfolding pairs_fit
        split =
            sym l.decides ∙ ap (λ (r : List Split). pairs_fit r t) more
            ∙ ap (λ (a : Bool). a && pairs_fit (pairs_from w n (i + 1)) t) (sym e)

        pub pairs_fail : b ≡ false → pairs_fit xs t ≡ false
        pairs_fail f = split ∙ ap (λ (a : Bool). a && pairs_fit (pairs_from w n (i + 1)) t) f

        pub pairs_on : b ≡ true → Left w n (i + 1) xs t
        pairs_on f = record {
          known = and_r (codes (split_of x)) (all codes (pairs_from w n (i + 1))) seen;
          decides = sym (split ∙ ap (λ (a : Bool). a && pairs_fit (pairs_from w n (i + 1)) t) f);
        }
