-- The pass over the split pairs says whether the rows of each line may stand together, for sound splits and a table in which each TN's may.
-- Assumes nothing.
use mathlib.Core.Path.{◌≡◌, refl, sym, ap, ap₂, ◌∙◌, subst}
use mathlib.Core.Bool.{Bool, true, false, not, ◌&&◌, ◌||◌}
use mathlib.Core.Logic.{⊎_elim}
use mathlib.Core.List.{List}
use Prim.Native.Nat.{ℕ, ◌/◌, ◌%◌, ◌≤◌, ◌<◌}
use native.Mathlib.Omega.{arith}
use borrow.Author.Tests.{eq-eqb, eqb-true, ltb-true, ltb-false, not-true}
use lib.Dec.{eqb, ltb}
use lib.ListN.{length}
use Rattle.model.specs.declared.Id.{Id}
use Rattle.model.specs.declared.Version.{Version}
use Rattle.model.specs.Basics.{implies}
use Rattle.model.specs.Books.{Split, partner_in, under_code, line_in, sound_splits}
use Rattle.model.specs.Sound.{live, sends, worked, sound_table}
use Rattle.model.proofs.Lists.{clash, and_l, and_r, both_true, or_off}
use Rattle.scan.specs.Sound.{itself}
use Rattle.scan.proofs.Counted.{tally_counts}
use Rattle.scan.proofs.Meant.{Good, table_good}
use Rattle.table.specs.Find.{key_for}
use Rattle.table.specs.Survey.{version_at}
use Rattle.table.proofs.Changed.{rises_at}
use Rattle.lines.proofs.Passes.{named_is}
use Rattle.model.specs.Sound.{sound_lines}
use Rattle.lines.specs.Pairs.{held_of, meet, name_under, has_name, lacks, spares, fits, under, pair_fits, pairs_fit}
use Rattle.model.proofs.Partners.{sound_once, sound_codes_lem, Paired, paired_line, same_line, pairs_partners, partners_pairs}
use Rattle.lines.proofs.Twos.{all_at, at_all, parted, Clear, clear_back, AllClear, lines_clear, clear_lines}

-- ---- each TN alone

pub itself_clear : (rows : ℕ) (t : List Version) → Good rows t → AllClear itself t
itself_clear rows t g i j d h q = record {
  number = λ e.
      let up : key_for (version_at t i) < key_for (version_at t j) = rises_at t 0 i j g.rises d h in
      absurd (omega (arith, q, e));
  lives = parted itself n t live (omega (arith, tally_counts live n t, g.lives n)) i j d h refl (sym q);
  sent = parted itself n t sends (omega (arith, tally_counts sends n t, g.sent n)) i j d h refl (sym q);
  work = parted itself n t worked (omega (arith, tally_counts worked n t, g.work n)) i j d h refl (sym q);
}
  where
    n : ℕ
    n = (version_at t i).id.tn.0

-- ---- what the pass says of two versions

two_meet : (a b : Bool) → (a && b) ≡ false → a ≡ true → b ≡ true → ⊥
two_meet true b e p q = clash (sym e ∙ q)
two_meet false b e p q = clash p

apart_clear : (v w : Version) → (v.id.number ≡ w.id.number → ⊥) → meet (held_of v) (held_of w) ≡ false → Clear v w
unfolding meet
apart_clear v w n e =
    let a = or_off (live v && live w) ((sends v && sends w) || (worked v && worked w)) e in
    let b = or_off (sends v && sends w) (worked v && worked w) a.1 in
    record {
      number = n;
      lives = two_meet (live v) (live w) a.0;
      sent = two_meet (sends v) (sends w) b.0;
      work = two_meet (worked v) (worked w) b.1;
    }

clear_apart : (v w : Version) → Clear v w → meet (held_of v) (held_of w) ≡ false
unfolding meet
clear_apart v w c = neither (off (live v) (live w) c.lives)
    (neither (off (sends v) (sends w) c.sent) (off (worked v) (worked w) c.work))
  where
    off : (a b : Bool) → (a ≡ true → b ≡ true → ⊥) → (a && b) ≡ false
    off true true f = absurd (f refl refl)
    off true false f = refl
    off false b f = refl

    neither : {a b : Bool} → a ≡ false → b ≡ false → (a || b) ≡ false
    neither p q = ap₂ (λ (x y : Bool). x || y) p q

module _ (c d : ℕ) (t : List Version) where
  -- the pair passes: a version under d and one of its TN under c may stand in one line
  pub pair_clear : pair_fits c d t ≡ true → (i j : ℕ) → i < length t → j < length t → (version_at t j).id.tn.0 / 10000 ≡ d
      → (version_at t i).id.tn.0 ≡ under_code c (version_at t j).id.tn.0 → Clear (version_at t i) (version_at t j)
  unfolding pair_fits fits lacks spares
  pair_clear e i j hi hj u s = apart_clear v w other (free (meet (held_of v) (held_of w)) spared)
    where
      v : Version
      v = version_at t i

      w : Version
      w = version_at t j

      fit : (lacks (name_under c (version_at t j)) t && spares (under_code c (version_at t j).id.tn.0) (held_of (version_at t j)) t) ≡ true
      fit =
          subst (λ (b : Bool). implies b (fits c t (version_at t j)) ≡ true) (eq-eqb _ _ u)
          (all_at (λ (x : Version). implies (under d x) (fits c t x)) t e j hj)

      unnamed : has_name (name_under c (version_at t j)) (version_at t i) ≡ false
      unnamed =
          not-true _ (all_at (λ (x : Version). not (has_name (name_under c (version_at t j)) x)) t
          (and_l (lacks (name_under c (version_at t j)) t) (spares (under_code c (version_at t j).id.tn.0) (held_of (version_at t j)) t)
          fit)
          i hi)

      other : (version_at t i).id.number ≡ (version_at t j).id.number → ⊥
      other q = clash (sym unnamed ∙ ap₂ (λ (a b : Bool). a && b) (eq-eqb _ _ s) (eq-eqb _ _ q))

      spared : not (eqb (version_at t i).id.tn.0 (under_code c (version_at t j).id.tn.0) && meet (held_of (version_at t i))
          (held_of (version_at t j))) ≡ true
      spared =
          all_at (λ (x : Version).
          not (eqb x.id.tn.0 (under_code c (version_at t j).id.tn.0) && meet (held_of x) (held_of (version_at t j)))) t
          (and_r (lacks (name_under c (version_at t j)) t) (spares (under_code c (version_at t j).id.tn.0) (held_of (version_at t j)) t)
          fit)
          i hi

      free : (b : Bool) → not (eqb (version_at t i).id.tn.0 (under_code c (version_at t j).id.tn.0) && b) ≡ true → b ≡ false
      free b q = subst (λ (a : Bool). (a && b) ≡ false) (eq-eqb _ _ s) (not-true _ q)

  -- and where every two such may, the pair passes
  pub clear_pair : ((i j : ℕ) → i < length t → j < length t → (version_at t j).id.tn.0 / 10000 ≡ d
      → (version_at t i).id.tn.0 ≡ under_code c (version_at t j).id.tn.0 → Clear (version_at t i) (version_at t j)) → pair_fits c d t ≡ true
  unfolding pair_fits fits lacks spares
  clear_pair f = at_all (λ (x : Version). implies (under d x) (fits c t x)) t (λ j h. go j h (under d (version_at t j)) refl)
    where
      nameless : (i j : ℕ) → i < length t → j < length t → (version_at t j).id.tn.0 / 10000 ≡ d → (b : Bool)
          → has_name (name_under c (version_at t j)) (version_at t i) ≡ b → not b ≡ true
      nameless i j hi hj u true e =
          let k : (version_at t i).id ≡ name_under c (version_at t j) = named_is (name_under c (version_at t j)) (version_at t i) e in
          absurd ((f i j hi hj u (ap (λ (x : Id). x.tn.0) k)).number (ap (λ (x : Id). x.number) k))
      nameless i j hi hj u false e = refl

      spare : (i j : ℕ) → i < length t → j < length t → (version_at t j).id.tn.0 / 10000 ≡ d → (b : Bool)
          → eqb (version_at t i).id.tn.0 (under_code c (version_at t j).id.tn.0) ≡ b
          → not (b && meet (held_of (version_at t i)) (held_of (version_at t j))) ≡ true
      spare i j hi hj u true e = ap not (clear_apart (version_at t i) (version_at t j) (f i j hi hj u (eqb-true _ _ e)))
      spare i j hi hj u false e = refl

      go : (j : ℕ) → j < length t → (b : Bool) → under d (version_at t j) ≡ b → implies b (fits c t (version_at t j)) ≡ true
      go j hj true e =
          both_true (lacks (name_under c (version_at t j)) t) (spares (under_code c (version_at t j).id.tn.0) (held_of (version_at t j)) t)
          (at_all (λ (x : Version). not (has_name (name_under c (version_at t j)) x)) t
          (λ i hi. nameless i j hi hj (eqb-true _ _ e) _ refl))
          (at_all (λ (x : Version).
          not (eqb x.id.tn.0 (under_code c (version_at t j).id.tn.0) && meet (held_of x) (held_of (version_at t j)))) t
          (λ i hi. spare i j hi hj (eqb-true _ _ e) _ refl))
      go j hj false e = refl

-- ---- all pairs, and all lines

module _ (xs : List Split) (s : sound_splits xs ≡ true) (t : List Version) where
  abbrev tn_at : ℕ → ℕ
  tn_at i = (version_at t i).id.tn.0

  pairs_clear : (rows : ℕ) → Good rows t → pairs_fit xs t ≡ true → AllClear (line_in xs) t
  unfolding pairs_fit
  pairs_clear rows g e i j d h q = ⊎_elim (λ same. itself_clear rows t g i j d h same) by_pair (same_line xs s (tn_at i) (tn_at j) q)
    where
      by_pair : Paired xs (tn_at i) (tn_at j) → Clear (version_at t i) (version_at t j)
      by_pair p =
          let k : tn_at i % 10000 ≡ tn_at j % 10000 = p.digits in
          ⊎_elim (λ z. pair_clear (tn_at i / 10000) (tn_at j / 10000) t z i j (omega arith) h refl (omega arith))
          (λ z. clear_back (version_at t j) (version_at t i)
          (pair_clear (tn_at j / 10000) (tn_at i / 10000) t z j i h (omega arith) refl (omega arith)))
          (pairs_partners (λ (c b : ℕ). pair_fits c b t) xs e (tn_at i / 10000) (tn_at j / 10000) p.partner p.code)

  clear_pairs : AllClear (line_in xs) t → pairs_fit xs t ≡ true
  unfolding pairs_fit
  clear_pairs f =
      partners_pairs (λ (c b : ℕ). pair_fits c b t) xs (sound_once xs s) (sound_codes_lem xs s)
      (λ c d p q hc hd n. clear_pair c d t (λ i j hi hj u k. two c d p hd n i j hi hj u k))
    where
      two : (c d : ℕ) → partner_in c xs ≡ d → 0 < d → (c ≡ d → ⊥) → (i j : ℕ) → i < length t → j < length t → tn_at j / 10000 ≡ d
          → tn_at i ≡ under_code c (tn_at j) → Clear (version_at t i) (version_at t j)
      two c d p hd n i j hi hj u k = by_order (ltb i j) (ltb j i) refl refl
        where
          code : tn_at i / 10000 ≡ c
          code = omega (arith, k)

          line : line_in xs (tn_at i) ≡ line_in xs (tn_at j)
          line =
              paired_line xs s (tn_at i) (tn_at j)
              (record { partner = ap (λ (x : ℕ). partner_in x xs) code ∙ p ∙ sym u; code = omega (arith, u); digits = omega (arith, k) })

          by_order : (a b : Bool) → ltb i j ≡ a → ltb j i ≡ b → Clear (version_at t i) (version_at t j)
          by_order true b x y = f i j (ltb-true _ _ x) hj line
          by_order false true x y = clear_back (version_at t j) (version_at t i) (f j i (ltb-true _ _ y) hi (sym line))
          by_order false false x y =
              let l : j ≤ i = ltb-false _ _ x in
              let m : i ≤ j = ltb-false _ _ y in
              let z : i ≡ j = omega arith in
              absurd (n (sym code ∙ ap (λ (x : ℕ). tn_at x / 10000) z ∙ u))

  -- THE PASS is the definition
  pub pairs_lines : (rows : ℕ) → sound_table itself rows t ≡ true → pairs_fit xs t ≡ sound_lines (line_in xs) t
  pairs_lines rows e =
      same (pairs_fit xs t) (sound_lines (line_in xs) t) (λ p. clear_lines (line_in xs) t (pairs_clear rows (table_good rows t e) p))
      (λ p. clear_pairs (lines_clear (line_in xs) t p))
    where
      same : (a b : Bool) → (a ≡ true → b ≡ true) → (b ≡ true → a ≡ true) → a ≡ b
      same true b f g = sym (f refl)
      same false true f g = g refl
      same false false f g = refl
