-- The line of a TN by sound splits: partners are each other's, and two TNs name one line exactly where they are one TN, or have the last
-- four digits in common and partners as codes. Assumes nothing.
use mathlib.Core.Path.{◌≡◌, refl, sym, ap, ap₂, ◌∙◌, subst}
use mathlib.Core.Bool.{Bool, true, false, cond, not, ◌&&◌}
use mathlib.Core.Logic.{◌⊎◌, inl, inr, ⊎_elim}
use mathlib.Core.List.{List, [], ◌∷◌}
use Prim.Native.Nat.{ℕ, ◌+◌, ◌*◌, ◌/◌, ◌%◌, ◌≤◌, ◌<◌}
use native.Mathlib.Nat.{ne_of_gt}
use native.Mathlib.Omega.{arith}
use borrow.Author.Tests.{eq-eqb, ne_eqb, eqb-true, eqb-false, leb-true, leb-false, ltb-true, not-true}
use lib.Dec.{eqb, leb, ltb}
use lib.ListN.{length, get_or}
use Rattle.model.specs.Basics.{all}
use Rattle.model.specs.Numbers.{is_code}
use Rattle.model.specs.Books.{Split, partner_in, under_code, smaller, line_in, unsplit, split_once, sound_splits}
use Rattle.model.proofs.Lists.{and_l, and_r, conj_at, both_true}

-- ---- what sound splits are

abbrev pub codes : Split → Bool
codes x = is_code x.one && is_code x.other

pub sound_once : (xs : List Split) → sound_splits xs ≡ true → split_once xs ≡ true
unfolding sound_splits
sound_once xs e = and_r (leb (length xs) 64) (split_once xs) (and_l (leb (length xs) 64 && split_once xs) (all codes xs) e)

pub sound_codes_lem : (xs : List Split) → sound_splits xs ≡ true → all codes xs ≡ true
unfolding sound_splits
sound_codes_lem xs e = and_r (leb (length xs) 64 && split_once xs) (all codes xs) e

pub code_above : (c : ℕ) → is_code c ≡ true → 0 < c
code_above c e =
    let h : 200000 ≤ c = leb-true _ _ (conj_at (leb 200000 c ∷ ltb c 1000000 ∷ leb 2 (c / 100 % 10) ∷ []) e 0) in
    omega arith

pub code_below : (c : ℕ) → is_code c ≡ true → c < 1000000
code_below c e = ltb-true _ _ (conj_at (leb 200000 c ∷ ltb c 1000000 ∷ leb 2 (c / 100 % 10) ∷ []) e 1)

-- ---- the first pair decides, or leaves it to the others

pub record First (x : Split) (xs : List Split) (c : ℕ) : Type 0 where
  pub one : x.one ≡ c
  pub gives : partner_in c (x ∷ xs) ≡ x.other

pub record Second (x : Split) (xs : List Split) (c : ℕ) : Type 0 where
  pub other : x.other ≡ c
  pub gives : partner_in c (x ∷ xs) ≡ x.one

pub record Later (x : Split) (xs : List Split) (c : ℕ) : Type 0 where
  pub not_one : x.one ≡ c → ⊥
  pub not_other : x.other ≡ c → ⊥
  pub gives : partner_in c (x ∷ xs) ≡ partner_in c xs

pub partner_view : (x : Split) (xs : List Split) (c : ℕ) → First x xs c ⊎ (Second x xs c ⊎ Later x xs c)
partner_view x xs c = go (eqb x.one c) (eqb x.other c) refl refl
  where
    go : (a b : Bool) → eqb x.one c ≡ a → eqb x.other c ≡ b → First x xs c ⊎ (Second x xs c ⊎ Later x xs c)
    go true b p q = inl (record { one = eqb-true _ _ p; gives = rw p })
    go false true p q = inr (inl (record { other = eqb-true _ _ q; gives = rw (p, q) }))
    go false false p q = inr (inr (record { not_one = eqb-false _ _ p; not_other = eqb-false _ _ q; gives = rw (p, q) }))

-- a code in no pair has no partner
pub unsplit_none : (c : ℕ) (xs : List Split) → unsplit c xs ≡ true → partner_in c xs ≡ 0
unsplit_none c [] e = refl
unsplit_none c (x ∷ xs) e =
    let h = and_l (not (eqb x.one c) && not (eqb x.other c)) (unsplit c xs) e in
    let p : eqb x.one c ≡ false = not-true _ (and_l (not (eqb x.one c)) (not (eqb x.other c)) h) in
    let q : eqb x.other c ≡ false = not-true _ (and_r (not (eqb x.one c)) (not (eqb x.other c)) h) in
    rw (p, q) (unsplit_none c xs (and_r (not (eqb x.one c) && not (eqb x.other c)) (unsplit c xs) e))

-- what has a partner is a code
pub partnered : (xs : List Split) → all codes xs ≡ true → (c : ℕ) → 0 < partner_in c xs → 0 < c
partnered [] e c h = absurd (omega arith)
partnered (x ∷ xs) e c h =
    let k = and_l (codes x) (all codes xs) e in
    ⊎_elim (λ w. subst (λ (j : ℕ). 0 < j) w.one (code_above x.one (and_l (is_code x.one) (is_code x.other) k)))
    (⊎_elim (λ w. subst (λ (j : ℕ). 0 < j) w.other (code_above x.other (and_r (is_code x.one) (is_code x.other) k)))
    (λ w. partnered xs (and_r (codes x) (all codes xs) e) c (subst (λ (j : ℕ). 0 < j) w.gives h)))
    (partner_view x xs c)

-- the parts of `split_once`
pub record Apart (x : Split) (xs : List Split) : Type 0 where
  pub differ : x.one ≡ x.other → ⊥
  pub one : partner_in x.one xs ≡ 0
  pub other : partner_in x.other xs ≡ 0
  pub rest : split_once xs ≡ true

pub once_apart : (x : Split) (xs : List Split) → split_once (x ∷ xs) ≡ true → Apart x xs
once_apart x xs e =
    let of : (i : ℕ) → get_or (not (eqb x.one x.other) ∷ unsplit x.one xs ∷ unsplit x.other xs ∷ split_once xs ∷ []) i true
    ≡ true =
    conj_at (not (eqb x.one x.other) ∷ unsplit x.one xs ∷ unsplit x.other xs ∷ split_once xs ∷ []) e in
    record {
      differ = eqb-false _ _ (not-true _ (of 0));
      one = unsplit_none x.one xs (of 1);
      other = unsplit_none x.other xs (of 2);
      rest = of 3;
    }

-- a code of the others is none of this pair's
pub elsewhere : (x : Split) (xs : List Split) → Apart x xs → (c : ℕ) → 0 < partner_in c xs → partner_in c (x ∷ xs) ≡ partner_in c xs
elsewhere x xs a c h =
    ⊎_elim (λ w. absurd (omega (arith, a.one, ap (λ (j : ℕ). partner_in j xs) w.one)))
    (⊎_elim (λ w. absurd (omega (arith, a.other, ap (λ (j : ℕ). partner_in j xs) w.other))) (λ w. w.gives))
    (partner_view x xs c)

-- ---- partners are each other's

pub first_back : (x : Split) (xs : List Split) → Apart x xs → partner_in x.other (x ∷ xs) ≡ x.one
first_back x xs a =
    ⊎_elim (λ w. absurd (a.differ w.one)) (⊎_elim (λ w. w.gives) (λ w. absurd (w.not_other refl))) (partner_view x xs x.other)

pub first_forth : (x : Split) (xs : List Split) → partner_in x.one (x ∷ xs) ≡ x.other
first_forth x xs = rw (eq-eqb x.one x.one refl)

pub partner_back : (xs : List Split) → split_once xs ≡ true → all codes xs ≡ true → (c d : ℕ) → partner_in c xs ≡ d
    → 0 < d → partner_in d xs ≡ c
partner_back [] o e c d q h = absurd (omega arith)
partner_back (x ∷ xs) o e c d q h =
    let a = once_apart x xs o in
    let ks = and_r (codes x) (all codes xs) e in
    ⊎_elim (λ w. subst (λ (j : ℕ). partner_in j (x ∷ xs) ≡ c) (sym w.gives ∙ q) (first_back x xs a ∙ w.one))
    (⊎_elim (λ w. subst (λ (j : ℕ). partner_in j (x ∷ xs) ≡ c) (sym w.gives ∙ q) (first_forth x xs ∙ w.other))
    (λ w. later a ks (sym w.gives ∙ q) (partner_back xs a.rest ks c d (sym w.gives ∙ q) h)))
    (partner_view x xs c)
  where
    later : Apart x xs → all codes xs ≡ true → partner_in c xs ≡ d → partner_in d xs ≡ c → partner_in d (x ∷ xs) ≡ c
    later a ks p back =
        let some : 0 < partner_in c xs = omega (arith, p) in
        let code : 0 < c = partnered xs ks c some in
        elsewhere x xs a d (omega (arith, back)) ∙ back

-- ---- lines

-- the code that names the line
smaller_is : (a b : ℕ) → (smaller a b ≡ a) ⊎ (smaller a b ≡ b)
smaller_is a b = go (leb a b)
  where
    go : (t : Bool) → (cond t a b ≡ a) ⊎ (cond t a b ≡ b)
    go true = inl refl
    go false = inr refl

smaller_swap : (a b : ℕ) → smaller a b ≡ smaller b a
smaller_swap a b = go (leb a b) (leb b a) refl refl
  where
    go : (s t : Bool) → leb a b ≡ s → leb b a ≡ t → cond s a b ≡ cond t b a
    go true true p q =
        let h : a ≤ b = leb-true _ _ p in
        let k : b ≤ a = leb-true _ _ q in
        omega arith
    go true false p q = refl
    go false true p q = refl
    go false false p q =
        let h : b < a = leb-false _ _ p in
        let k : a < b = leb-false _ _ q in
        absurd (omega arith)

pub line-alone : (xs : List Split) (a : ℕ) → partner_in (a / 10000) xs ≡ 0 → line_in xs a ≡ a
unfolding line_in
line-alone xs a z = rw (eq-eqb (partner_in (a / 10000) xs) 0 z)

pub line_paired : (xs : List Split) (a d : ℕ) → partner_in (a / 10000) xs ≡ d → 0 < d → line_in xs a ≡ under_code (smaller (a / 10000) d) a
unfolding line_in
line_paired xs a d q h = rw (q, ne_eqb d 0 (ne_of_gt h))

-- two TNs of one line under different codes: the codes are partners
pub record Paired (xs : List Split) (a b : ℕ) : Type 0 where
  pub partner : partner_in (a / 10000) xs ≡ b / 10000
  pub code : 0 < b / 10000
  pub digits : a % 10000 ≡ b % 10000

module _ (xs : List Split) (s : sound_splits xs ≡ true) where
  pub partner_symmetric : (c d : ℕ) → partner_in c xs ≡ d → 0 < d → partner_in d xs ≡ c
  partner_symmetric = partner_back xs (sound_once xs s) (sound_codes_lem xs s)

  pub has_code : (c : ℕ) → 0 < partner_in c xs → 0 < c
  has_code = partnered xs (sound_codes_lem xs s)

  -- partners name one line
  pub paired_line : (a b : ℕ) → Paired xs a b → line_in xs a ≡ line_in xs b
  paired_line a b p =
      let code : 0 < a / 10000 = has_code (a / 10000) (omega (arith, p.partner, p.code)) in
      line_paired xs a (b / 10000) p.partner p.code
      ∙ ap₂ (λ (c d : ℕ). c * 10000 + d) (smaller_swap (a / 10000) (b / 10000)) p.digits
      ∙ sym (line_paired xs b (a / 10000) (partner_symmetric (a / 10000) (b / 10000) p.partner p.code) code)

  -- a line's name is under a code of the pair
  named_by : (b q : ℕ) → partner_in (b / 10000) xs ≡ q → 0 < q → 0 < partner_in (line_in xs b / 10000) xs
  named_by b q e h =
      let code : 0 < b / 10000 = has_code (b / 10000) (omega (arith, e)) in
      let l : line_in xs b ≡ smaller (b / 10000) q * 10000 + b % 10000 = line_paired xs b q e h in
      let n : line_in xs b / 10000 ≡ smaller (b / 10000) q = omega (arith, l) in
      ⊎_elim
      (λ w. subst (λ (j : ℕ). 0 < partner_in j xs) (sym (n ∙ w)) (omega (arith, e)))
      (λ w. subst (λ (j : ℕ). 0 < partner_in j xs) (sym (n ∙ w)) (omega (arith, partner_symmetric (b / 10000) q e h)))
      (smaller_is (b / 10000) q)

  same-both : (a b p q : ℕ) → partner_in (a / 10000) xs ≡ p → 0 < p → partner_in (b / 10000) xs ≡ q → 0 < q → line_in xs a ≡ line_in xs b
      → (a ≡ b) ⊎ Paired xs a b
  same-both a b p q ea ha eb hb l =
      let m : smaller (a / 10000) p * 10000 + a % 10000 ≡ smaller (b / 10000) q * 10000 + b % 10000 =
      sym (line_paired xs a p ea ha) ∙ l ∙ line_paired xs b q eb hb in
      let d : a % 10000 ≡ b % 10000 = omega (arith, m) in
      let n : smaller (a / 10000) p ≡ smaller (b / 10000) q = omega (arith, m) in
      let code : 0 < b / 10000 = has_code (b / 10000) (omega (arith, eb)) in
      ⊎_elim
      (λ u. ⊎_elim
      (λ v. inl (omega (arith, d, n, u, v)))
      (λ v.
      let w : q ≡ a / 10000 = sym v ∙ sym n ∙ u in
      inr (record { partner = ap (λ (j : ℕ). partner_in j xs) (sym w) ∙ partner_symmetric (b / 10000) q eb hb; code = code; digits = d }))
      (smaller_is (b / 10000) q))
      (λ u. ⊎_elim
      (λ v. inr (record { partner = ea ∙ sym u ∙ n ∙ v; code = code; digits = d }))
      (λ v.
      let w : p ≡ q = sym u ∙ n ∙ v in
      let z : a / 10000 ≡ b / 10000 =
      sym (partner_symmetric (a / 10000) p ea ha) ∙ ap (λ (j : ℕ). partner_in j xs) w ∙ partner_symmetric (b / 10000) q eb hb in
      inl (omega (arith, d, z)))
      (smaller_is (b / 10000) q))
      (smaller_is (a / 10000) p)

  -- and no others do
  pub same_line : (a b : ℕ) → line_in xs a ≡ line_in xs b → (a ≡ b) ⊎ Paired xs a b
  same_line a b l = go (eqb (partner_in (a / 10000) xs) 0) (eqb (partner_in (b / 10000) xs) 0) refl refl
    where
      some : (c : ℕ) → eqb (partner_in c xs) 0 ≡ false → 0 < partner_in c xs
      some c e = let n : partner_in c xs ≡ 0 → ⊥ = eqb-false _ _ e in omega arith

      clear : (u v : ℕ) → line_in xs u ≡ line_in xs v → partner_in (u / 10000) xs ≡ 0 → 0 < partner_in (v / 10000) xs → ⊥
      clear u v k z h =
          let w : line_in xs v ≡ u = sym k ∙ line-alone xs u z in
          let n : 0 < partner_in (line_in xs v / 10000) xs = named_by v (partner_in (v / 10000) xs) refl h in
          let o : 0 < partner_in (u / 10000) xs = subst (λ (j : ℕ). 0 < partner_in (j / 10000) xs) w n in
          omega arith

      go : (s t : Bool) → eqb (partner_in (a / 10000) xs) 0 ≡ s → eqb (partner_in (b / 10000) xs) 0 ≡ t → (a ≡ b) ⊎ Paired xs a b
      go true true p q = inl (sym (line-alone xs a (eqb-true _ _ p)) ∙ l ∙ line-alone xs b (eqb-true _ _ q))
      go true false p q = absurd (clear a b l (eqb-true _ _ p) (some (b / 10000) q))
      go false true p q = absurd (clear b a (sym l) (eqb-true _ _ q) (some (a / 10000) p))
      go false false p q =
          same-both a b (partner_in (a / 10000) xs) (partner_in (b / 10000) xs) refl (some (a / 10000) p) refl (some (b / 10000) q) l

-- ---- the two names of a line

pub partner_below : (xs : List Split) → all codes xs ≡ true → (c : ℕ) → partner_in c xs < 1000000
partner_below [] e c = omega arith
partner_below (x ∷ xs) e c =
    let k = and_l (codes x) (all codes xs) e in
    ⊎_elim (λ w. subst (λ (j : ℕ). j < 1000000) (sym w.gives) (code_below x.other (and_r (is_code x.one) (is_code x.other) k)))
    (⊎_elim (λ w. subst (λ (j : ℕ). j < 1000000) (sym w.gives) (code_below x.one (and_l (is_code x.one) (is_code x.other) k)))
    (λ w. subst (λ (j : ℕ). j < 1000000) (sym w.gives) (partner_below xs (and_r (codes x) (all codes xs) e) c)))
    (partner_view x xs c)

-- the names of a's line are a and b
pub record Names (xs : List Split) (a b : ℕ) : Type 0 where
  pub line : (m : ℕ) → line_in xs m ≡ line_in xs a → (m ≡ a) ⊎ (m ≡ b)
  pub own : line_in xs b ≡ line_in xs a

module _ (xs : List Split) (s : sound_splits xs ≡ true) (a : ℕ) where
  pub names_alone : partner_in (a / 10000) xs ≡ 0 → Names xs a a
  names_alone z = record { line = λ m l. inl (go m (same_line xs s m a l)); own = refl }
    where
      go : (m : ℕ) → (m ≡ a) ⊎ Paired xs m a → m ≡ a
      go m (inl e) = e
      go m (inr p) =
          let back : partner_in (a / 10000) xs ≡ m / 10000 = partner_symmetric xs s (m / 10000) (a / 10000) p.partner p.code in
          absurd (omega (arith, z, back, has_code xs s (m / 10000) (omega (arith, p.partner, p.code))))

  pub names_paired : (d : ℕ) → partner_in (a / 10000) xs ≡ d → 0 < d → Names xs a (under_code d a)
  names_paired d q h = record { line = λ m l. go m (same_line xs s m a l); own = sym (paired_line xs s a (under_code d a) pair) }
    where
      pair : Paired xs a (under_code d a)
      pair = record { partner = q ∙ (let z : d ≡ under_code d a / 10000 = omega arith in z); code = omega (arith, h); digits = omega arith }

      go : (m : ℕ) → (m ≡ a) ⊎ Paired xs m a → (m ≡ a) ⊎ (m ≡ under_code d a)
      go m (inl e) = inl e
      go m (inr p) =
          let back : partner_in (a / 10000) xs ≡ m / 10000 = partner_symmetric xs s (m / 10000) (a / 10000) p.partner p.code in
          inr (omega (arith, q, back, p.digits))

-- ---- a test of two codes, over the pairs of the list and over partners

module _ (P : ℕ → ℕ → Bool) where
  abbrev pub pairwise : Split → Bool
  pairwise x = P x.one x.other

  -- it holds of every pair: so of every two partners, one way or the other
  pub pairs_partners : (xs : List Split) → all pairwise xs ≡ true → (c d : ℕ) → partner_in c xs ≡ d → 0 < d
      → (P c d ≡ true) ⊎ (P d c ≡ true)
  pairs_partners [] e c d q h = absurd (omega arith)
  pairs_partners (x ∷ xs) e c d q h =
      let here : P x.one x.other ≡ true = and_l (pairwise x) (all pairwise xs) e in
      ⊎_elim (λ w. inl (subst (λ (j : ℕ). P j d ≡ true) w.one (subst (λ (j : ℕ). P x.one j ≡ true) (sym w.gives ∙ q) here)))
      (⊎_elim (λ w. inr (subst (λ (j : ℕ). P j c ≡ true) (sym w.gives ∙ q) (subst (λ (j : ℕ). P x.one j ≡ true) w.other here)))
      (λ w. pairs_partners xs (and_r (pairwise x) (all pairwise xs) e) c d (sym w.gives ∙ q) h))
      (partner_view x xs c)

  -- it holds of every two partners: so of every pair
  pub partners_pairs : (xs : List Split) → split_once xs ≡ true → all codes xs ≡ true
      → ((c d : ℕ) → partner_in c xs ≡ d → partner_in d xs ≡ c → 0 < c → 0 < d → (c ≡ d → ⊥) → P c d ≡ true) → all pairwise xs ≡ true
  partners_pairs [] o e f = refl
  partners_pairs (x ∷ xs) o e f =
      let a = once_apart x xs o in
      let k = and_l (codes x) (all codes xs) e in
      both_true (pairwise x) (all pairwise xs)
      (f x.one x.other (first_forth x xs) (first_back x xs a)
      (code_above x.one (and_l (is_code x.one) (is_code x.other) k))
      (code_above x.other (and_r (is_code x.one) (is_code x.other) k)) a.differ)
      (partners_pairs xs a.rest (and_r (codes x) (all codes xs) e)
      (λ c d p q h j n. f c d (elsewhere x xs a c (omega (arith, p)) ∙ p) (elsewhere x xs a d (omega (arith, q)) ∙ q) h j n))
