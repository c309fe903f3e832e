-- The rows under a pair's two codes gone through side by side: the place in the one that a row of the other has reached, and what the pass
-- finds at each row. Assumes nothing.
use mathlib.Core.Path.{◌≡◌, refl, sym, ap, ap₂, ◌∙◌, subst}
use mathlib.Core.Bool.{Bool, true, false, not, ◌&&◌}
use mathlib.Core.List.{List, [], ◌∷◌}
use Prim.Native.Nat.{ℕ, ◌+◌, ◌*◌, ◌/◌, ◌%◌, ◌≤◌, ◌<◌}
use native.Mathlib.Numerals.{add-one}
use native.Mathlib.Omega.{arith}
use borrow.Author.Tests.{eq-eqb, ne_eqb, eqb-false, not-true}
use lib.Dec.{eqb}
use lib.ListN.{length, drop, get_or, length-map}
use Rattle.model.specs.declared.Version.{Version}
use Rattle.model.specs.Basics.{all, implies}
use Rattle.model.specs.Books.{under_code}
use Rattle.model.proofs.Lists.{and_l, and_r, both_true}
use Rattle.row.specs.Layout.{unpack}
use Rattle.rows.proofs.Lists.{get_d_map}
use Rattle.table.specs.Find.{key_for, keys, place_in, lower_of}
use Rattle.table.specs.Survey.{version_at}
use Rattle.table.proofs.Changed.{rises_at}
use Rattle.table.proofs.Finds.{lower_up, lower_here}
use Rattle.table.proofs.Numbered.{place_up}
use Rattle.table.proofs.Sought.{place_le}
use Rattle.lines.specs.declared.Held.{Held}
use Rattle.lines.specs.Pairs.{has_name, held_of, meet, name_under, lacks, none_of, spares, fits, under, none_under, pair_fits}
use Rattle.lines.proofs.Walks.{place_at, all-every, before_place, walk_out, walk_fails, walk_on, walk_past}
use Rattle.lines.proofs.Passes.{Listed, number_at}

-- ---- the place of a number, from a place before it on

module _ (k : ℕ) (vs : List Version) (i : ℕ) (l : i ≤ place_in k vs) where
  pub reach_out : length vs ≤ i → i ≡ place_in k vs
  reach_out h = let m : place_in k vs ≤ length vs = place_le k vs in omega arith

  module _ (h : i < length vs) where
    key_is : get_or (keys vs) i 0 ≡ key_for (version_at vs i)
    key_is = get_d_map key_for vs i (unpack []) 0 h

    pub reach_here : k ≤ key_for (version_at vs i) → i ≡ place_in k vs
    unfolding place_in
    reach_here q = lower_here k (keys vs) i l (simp length-map h) (omega (arith, key_is))

    pub reach_on : key_for (version_at vs i) < k → i + 1 ≤ place_in k vs
    unfolding place_in
    reach_on q = subst (λ (j : ℕ). j ≤ lower_of k (keys vs)) (sym (add-one i))
        (lower_up k (keys vs) i l (simp length-map h) (omega (arith, key_is)))

-- ---- a row beside those of its TN under the code c

all_from : (p q : Version → Bool) (vs : List Version) → all p vs ≡ true → ((v : Version) → p v ≡ true → q v ≡ true) → all q vs ≡ true
all_from p q [] h f = refl
all_from p q (v ∷ vs) h f = both_true (q v) (all q vs) (f v (and_l (p v) (all p vs) h)) (all_from p q vs (and_r (p v) (all p vs) h) f)

-- where nobody is of that TN, every version fits
pub fits-alone : (c : ℕ) (vs : List Version) (w : Version) → none_of (under_code c w.id.tn.0) vs ≡ true → fits c vs w ≡ true
unfolding none_of fits lacks spares
fits-alone c vs w h =
    both_true (lacks (name_under c w) vs) (spares (under_code c w.id.tn.0) (held_of w) vs)
    (all_from (λ (v : Version). not (eqb v.id.tn.0 (under_code c w.id.tn.0))) (λ (v : Version). not (has_name (name_under c w) v))
    vs h
    (λ v e. ap (λ (b : Bool). not (b && eqb v.id.number w.id.number))
    (not-true (eqb v.id.tn.0 (under_code c w.id.tn.0)) e)))
    (all_from (λ (v : Version). not (eqb v.id.tn.0 (under_code c w.id.tn.0)))
    (λ (v : Version). not (eqb v.id.tn.0 (under_code c w.id.tn.0) && meet (held_of v) (held_of w))) vs h
    (λ v e. ap (λ (b : Bool). not (b && meet (held_of v) (held_of w))) (not-true (eqb v.id.tn.0 (under_code c w.id.tn.0)) e)))

-- the tests of a version, as its row's first word names it
module _ (c : ℕ) (vs : List Version) (v : Version) (x m : ℕ) (p : x ≡ v.id.tn.0) (q : m ≡ v.id.number) where
  pub fits-nobody : (b : Bool) → b ≡ none_of (c * 10000 + x % 10000) vs → b ≡ true → fits c vs v ≡ true
  fits-nobody b h e = fits-alone c vs v (ap (λ (y : ℕ). none_of (c * 10000 + y % 10000) vs) (sym p) ∙ sym h ∙ e)

  module _ (a : Bool) (h : a ≡ lacks (record { tn = record { 0 = c * 10000 + x % 10000 }; number = m }) vs) where
    lacking : a ≡ lacks (name_under c v) vs
    lacking = h ∙ ap₂ (λ (y k : ℕ). lacks (record { tn = record { 0 = c * 10000 + y % 10000 }; number = k }) vs) p q

    pub fits_not : a ≡ false → fits c vs v ≡ false
    unfolding fits
    fits_not e = ap (λ (b : Bool). b && spares (under_code c v.id.tn.0) (held_of v) vs) (sym lacking ∙ e)

    pub fits_by : a ≡ true → (y : Held) → y ≡ held_of v → (b : Bool) → b ≡ spares (c * 10000 + x % 10000) y vs → b ≡ fits c vs v
    unfolding fits
    fits_by e y r b k =
        k ∙ ap₂ (λ (z : ℕ) (o : Held). spares (c * 10000 + z % 10000) o vs) p r
        ∙ sym (ap (λ (l : Bool). l && spares (under_code c v.id.tn.0) (held_of v) vs) (sym lacking ∙ e))

-- ---- a pair

module _ (c d : ℕ) (vs : List Version) where
  abbrev passes : Version → Bool
  passes w = implies (under d w) (fits c vs w)

  -- each version of the list ws that stands under d fits beside those of vs under c
  abbrev pub pair_from : List Version → Bool
  pair_from ws = all passes ws

  -- beside a code that no row stands under every version fits
  pub pair_unused : none_under c vs ≡ true → pair_fits c d vs ≡ true
  unfolding pair_fits none_under none_of
  pair_unused h = all-every passes vs (λ w. go (under d w) (fits-alone c vs w
      (all_from (λ (v : Version). not (under c v)) (λ (v : Version). not (eqb v.id.tn.0 (under_code c w.id.tn.0)))
      vs h (apart w))))
    where
      go : {x : Bool} (b : Bool) → x ≡ true → implies b x ≡ true
      go true q = q
      go false q = refl

      apart : (w v : Version) → not (under c v) ≡ true → not (eqb v.id.tn.0 (under_code c w.id.tn.0)) ≡ true
      apart w v e =
          let n : v.id.tn.0 / 10000 ≡ c → ⊥ = eqb-false _ _ (not-true (under c v) e) in
          ap not (ne_eqb v.id.tn.0 (under_code c w.id.tn.0) (λ q. n (omega (arith, q))))

  outside : (w : Version) → (w.id.tn.0 / 10000 ≡ d → ⊥) → passes w ≡ true
  outside w n = ap (λ (b : Bool). implies b (fits c vs w)) (ne_eqb _ _ n)

  -- the rows from i on decide, and the place at in the other code's rows is not behind any of theirs
  pub record Abreast (at i : ℕ) : Type 0 where
    pub first : place_in (d * 10000 * 65536 + 0) vs ≤ i
    pub decides : pair_from (drop i vs) ≡ pair_fits c d vs
    pub behind : (j : ℕ) → i ≤ j → j < length vs → (version_at vs j).id.tn.0 / 10000 ≡ d
        → at ≤ place_in (under_code c (version_at vs j).id.tn.0 * 65536 + 0) vs

  pub abreast_start : (at i : ℕ) → at ≡ place_in (c * 10000 * 65536 + 0) vs → i ≡ place_in (d * 10000 * 65536 + 0) vs → Abreast at i
  unfolding pair_fits
  abreast_start at i p e = record {
    first = omega (arith, e);
    decides = ap (λ (j : ℕ). all passes (drop j vs)) e
        ∙ before_place passes (d * 10000 * 65536 + 0) vs (λ v l. outside v (λ q. absurd (omega arith)));
    behind = λ j l h u.
        let m = place_up vs (c * 10000 * 65536 + 0) (under_code c (version_at vs j).id.tn.0 * 65536 + 0) (omega arith) in
        omega (arith, p, m);
  }

  module _ (g : Listed vs) (at i : ℕ) (s : Abreast at i) where
    pub pair_out : length vs ≤ i → pair_fits c d vs ≡ true
    unfolding pair_fits
    pair_out l = walk_out passes vs i s.decides l

    module _ (l : i < length vs) (x : ℕ) (q : x ≡ (version_at vs i).id.tn.0) where
      pub pair_past : (x / 10000 ≡ d → ⊥) → pair_fits c d vs ≡ true
      unfolding pair_fits
      pair_past n =
          let least : d * 10000 * 65536 + 0 ≤ key_for (version_at vs i) = place_at (d * 10000 * 65536 + 0) 0 vs i g.rises s.first l in
          let m : (version_at vs i).id.number < 65536 = number_at vs i g l in
          walk_past passes vs i s.decides l ((d + 1) * 10000 * 65536) g.sound g.rises (omega arith)
          (λ v b k. outside v (λ z. absurd (omega arith)))

      module _ (o : x / 10000 ≡ d) where
        -- the place that the row must reach is not before
        pub pair_behind : at ≤ place_in ((c * 10000 + x % 10000) * 65536 + 0) vs
        pair_behind =
            subst (λ (y : ℕ). at ≤ place_in ((c * 10000 + y % 10000) * 65536 + 0) vs) (sym q)
            (s.behind i (omega arith) l (ap (λ (y : ℕ). y / 10000) (sym q) ∙ o))

        module _ (to : ℕ) (e : to ≡ place_in ((c * 10000 + x % 10000) * 65536 + 0) vs) where
          pub pair_reached : to ≡ place_in (under_code c (version_at vs i).id.tn.0 * 65536 + 0) vs
          pair_reached = e ∙ ap (λ (y : ℕ). place_in ((c * 10000 + y % 10000) * 65536 + 0) vs) q

          module _ (b : Bool) (m : b ≡ fits c vs (version_at vs i)) where
            shown : passes (version_at vs i) ≡ b
            shown = ap₂ implies (eq-eqb _ _ (ap (λ (y : ℕ). y / 10000) (sym q) ∙ o)) (sym m)

            pub pair_fails : b ≡ false → pair_fits c d vs ≡ false
            unfolding pair_fits
            pair_fails f = walk_fails passes vs i s.decides l (shown ∙ f)

            decides_on : b ≡ true → pair_from (drop (i + 1) vs) ≡ pair_fits c d vs
            unfolding pair_fits
            decides_on f = walk_on passes vs i s.decides l (shown ∙ f)

            behind_on : (j : ℕ) → i + 1 ≤ j → j < length vs → (version_at vs j).id.tn.0 / 10000 ≡ d
                → to ≤ place_in (under_code c (version_at vs j).id.tn.0 * 65536 + 0) vs
            behind_on j k h u =
                let up : key_for (version_at vs i) < key_for (version_at vs j) = rises_at vs 0 i j g.rises (omega arith) h in
                let n : (version_at vs j).id.number < 65536 = number_at vs j g h in
                let r : x ≤ (version_at vs j).id.tn.0 = omega arith in
                let z = place_up vs ((c * 10000 + x % 10000) * 65536 + 0) (under_code c (version_at vs j).id.tn.0 * 65536 + 0)
                (omega arith) in
                omega (arith, e, z)

            pub pair_on : b ≡ true → Abreast to (i + 1)
            pair_on f = record { first = omega (arith, s.first); decides = decides_on f; behind = behind_on }
