-- The rows of one number: how many are live, sending and worked, and how changes move these counts.
-- Assumes nothing.
use mathlib.Core.Path.{◌≡◌, refl, sym, ap, ap₂, ◌∙◌, subst}
use Prim.Native.Nat.{ℕ, ◌+◌, ◌≤◌, ◌<◌, Ordering}
use mathlib.Core.Bool.{Bool, true, false, cond}
use mathlib.Core.List.{List, [], ◌∷◌, map}
use mathlib.Core.Option.{none as nothing, some}
use lib.Dec.{eqb}
use lib.ListN.{length}
use native.Mathlib.Omega.{arith}
use borrow.Author.Tests.{eqb-true, ne_eqb}
use Rattle.model.specs.Basics.{keep, first, any, All, none, with}
use Rattle.model.specs.Table.{order, Change, put, add, strike, change, changes, find}
use Rattle.model.specs.Sound.{count, numbered, live, sends, worked}
use Rattle.model.specs.Closing.{retired}
use Rattle.model.proofs.Lists.{clash, keep_none, all_keep, all_both, all_first, head_of, passed}
use Rattle.model.proofs.Order.{order_self, order_eq, order_gt, order_lt}
use Rattle.model.proofs.TableLaws.{Under, Rising, fresh, adds, not_named, others, under_tail, above, find-put, find_other, part_out}
use Rattle.model.proofs.TableLaws.{rising-change}
use Rattle.model.proofs.Numbered.{with_above}
use Rattle.model.specs.Given.{with_number, besides, newest}
use Rattle.model.specs.declared.Id.{Id}
use Rattle.model.specs.declared.Version.{Version}

-- at most one live, one sending and one worked version
pub record Line (r : List Version) : Type 0 where
  pub lives : count live r ≤ 1
  pub sends : count sends r ≤ 1
  pub works : count worked r ≤ 1

-- ---- the row that is found, and the others

pub all-find : {P : Version → Type 0} (k : Id) {r : List Version} (v : Version) → All P r → find k r ≡ some v → P v
all-find {P} k v none q = absurd (let z : ◌≡◌ {A = ℕ} 0 1 = cc in omega arith)
all-find {P} k v (with {x = x} {xs = xs} h hs) q = go (order k x.id) refl (all-find k v hs)
  where
    go : (o : Ordering) → order k x.id ≡ o → (find k xs ≡ some v → P v) → P v
    go Ordering.lt e ih = absurd (let y : nothing ≡ some v = rw e at q in let z : ◌≡◌ {A = ℕ} 0 1 = cc in omega arith)
    go Ordering.eq e ih = subst P (cc (rw e at q)) h
    go Ordering.gt e ih = ih (rw e at q)

-- a name under all the rows is none of them
pub others_all : (k : Id) (r : List Version) → Under k r → Rising r → others k r ≡ r
others_all k [] u s = refl
others_all k (x ∷ xs) u s = rw (order_lt k x.id u) (ap (λ (l : List Version). x ∷ l) (others_all k xs (under_tail k x xs u s) s.1))

abbrev pub one : Bool → ℕ
one b = cond b 1 0

pub count_cons : (p : Version → Bool) (x : Version) (l : List Version) → count p (x ∷ l) ≡ count p l + one (p x)
count_cons p x l = go (p x) refl
  where
    go : (b : Bool) → p x ≡ b → count p (x ∷ l) ≡ count p l + one b
    go true e = rw e (omega arith)
    go false e = rw e (omega arith)

pub count-found : (p : Version → Bool) (k : Id) (r : List Version) (v : Version) → Rising r → find k r ≡ some v
    → count p r ≡ count p (others k r) + one (p v)
count-found p k [] v s q = absurd (let z : ◌≡◌ {A = ℕ} 0 1 = cc in omega arith)
count-found p k (x ∷ xs) v s q = go (order k x.id) refl (count-found p k xs v s.1)
  where
    go : (o : Ordering) → order k x.id ≡ o → (find k xs ≡ some v → count p xs ≡ count p (others k xs) + one (p v))
        → count p (x ∷ xs) ≡ count p (others k (x ∷ xs)) + one (p v)
    go Ordering.lt e ih = absurd (let y : nothing ≡ some v = rw e at q in let z : ◌≡◌ {A = ℕ} 0 1 = cc in omega arith)
    go Ordering.eq e ih =
        let n : k ≡ x.id = order_eq k x.id e in
        let y : x ≡ v = cc (rw e at q) in
        let drop : others k (x ∷ xs) ≡ xs =
        rw (ap (order x.id) n ∙ order_self x.id) (others_all k xs (subst (λ (j : Id). Under j xs) (sym n) s.0) s.1) in
        count_cons p x xs ∙ ap₂ (λ (l : List Version) (w : Version). count p l + one (p w)) (sym drop) y
    go Ordering.gt e ih =
        rw (order_gt k x.id e) (count_cons p x xs ∙ ap (λ (n : ℕ). n + one (p x)) (ih (rw e at q))
        ∙ omega (arith, count_cons p x (others k xs)))

-- a put over the row that is found
pub count-put : (p : Version → Bool) (k : Id) (r : List Version) (v w : Version) → Rising r → find k r ≡ some v → w.id ≡ k
    → count p (change (put w) r) ≡ count p (others k r) + one (p w)
count-put p k r v w s q n =
    count-found p k (change (put w) r) w (rising-change (put w) r s) (find-put k r v w q n)
    ∙ ap (λ (l : List Version). count p l + one (p w)) (part_out (not_named k) (put w) r (rw (n, order_self k)))

-- ---- counts: a name struck out, a row added
pub count_strike : (p : Version → Bool) (k : Id) (r : List Version) → count p (change (strike k) r) ≤ count p r
count_strike p k [] = omega arith
count_strike p k (x ∷ xs) = go (order k x.id) refl (count_strike p k xs)
  where
    go : (o : Ordering) → order k x.id ≡ o → count p (change (strike k) xs) ≤ count p xs
        → count p (change (strike k) (x ∷ xs)) ≤ count p (x ∷ xs)
    go Ordering.lt e ih = rw e (omega arith)
    go Ordering.eq e ih = rw e (omega (arith, count_cons p x xs))
    go Ordering.gt e ih = rw e (omega (arith, count_cons p x xs, count_cons p x (change (strike k) xs)))

pub count_add : (p : Version → Bool) (w : Version) (r : List Version) → count p (change (add w) r) ≤ count p r + one (p w)
count_add p w [] = omega (arith, count_cons p w [])
count_add p w (x ∷ xs) = go (order w.id x.id) refl (count_add p w xs)
  where
    go : (o : Ordering) → order w.id x.id ≡ o → count p (change (add w) xs) ≤ count p xs + one (p w)
        → count p (change (add w) (x ∷ xs)) ≤ count p (x ∷ xs) + one (p w)
    go Ordering.lt e ih = rw e (omega (arith, count_cons p w (x ∷ xs)))
    go Ordering.eq e ih = rw e (omega (arith, count_cons p w xs, count_cons p x xs))
    go Ordering.gt e ih = rw e (omega (arith, count_cons p x xs, count_cons p x (change (add w) xs)))

pub first_none : (p : Version → Bool) (r : List Version) → first p r ≡ nothing → count p r ≡ 0
first_none p [] h = refl
first_none p (x ∷ xs) h = go (p x) refl (first_none p xs)
  where
    go : (b : Bool) → p x ≡ b → (first p xs ≡ nothing → count p xs ≡ 0) → count p (x ∷ xs) ≡ 0
    go true e ih = cc (rw e at h)
    go false e ih = rw e (ih (rw e at h))

pub any_none : (p : Version → Bool) (r : List Version) → any p r ≡ false → count p r ≡ 0
any_none p [] h = refl
any_none p (x ∷ xs) h = go (p x) refl (any_none p xs)
  where
    go : (b : Bool) → p x ≡ b → (any p xs ≡ false → count p xs ≡ 0) → count p (x ∷ xs) ≡ 0
    go true e ih = clash (sym (rw e at h))
    go false e ih = rw e (ih (rw e at h))

-- ---- the line

-- what has not that name has another
out_named : (k j : Id) → not_named k j ≡ true → k ≡ j → ⊥
out_named k j h e = clash (sym (named_out k j (sym e)) ∙ h)
  where
    named_out : (k : Id) (j : Id) → j ≡ k → not_named k j ≡ false
    named_out k j e = rw (e, order_self k)

-- a row is found by its own name
pub found_self : (r : List Version) → Rising r → All (λ (x : Version). find x.id r ≡ some x) r
found_self [] s = none
found_self (x ∷ xs) s =
    with {x = x} (rw (order_self x.id))
    (all_both (λ y up q. rw (order_lt x.id y.id up) q) (above x.id xs s.0 s.1) (found_self xs s.1))

module _ (k : Id) (r : List Version) (v : Version) (s : Rising r) (line : Line r) (h : find k r ≡ some v) where
  -- a put that is no more live, sending or worked than the row was
  pub line-put : (w : Version) → w.id ≡ k → one w.live ≤ one v.live → one (sends w) ≤ one (sends v)
      → one (worked w) ≤ one (worked v) → Line (change (put w) r)
  line-put w n a b c = record {
    lives = omega (arith, line.lives, count-put live k r v w s h n, count-found live k r v s h);
    sends = omega (arith, line.sends, count-put sends k r v w s h n, count-found sends k r v s h);
    works = omega (arith, line.works, count-put worked k r v w s h n, count-found worked k r v s h);
  }

  -- a put that is live, with every other live row retired
  module _ (w : Version) (n : w.id ≡ k) (ns : sends w ≡ false) (nw : worked w ≡ false) where
    one_sends : count sends (change (put w) r) ≤ 1
    one_sends = omega (arith, line.sends, count-put sends k r v w s h n, count-found sends k r v s h, ap one ns)

    one_works : count worked (change (put w) r) ≤ 1
    one_works = omega (arith, line.works, count-put worked k r v w s h n, count-found worked k r v s h, ap one nw)

    one_le : (b : Bool) → one b ≤ 1
    one_le true = omega arith
    one_le false = omega arith

    retire_one : (stamp : ℕ) (x : Version) → find x.id r ≡ some x → not_named k x.id ≡ true → x.live ≡ true
        → count live (others k r) ≡ 1
        → Line (change (put (retired stamp x)) (change (put w) r))
    unfolding retired
    retire_one stamp x fx nn lx c = record {
      lives = omega (arith, before live, now live, count-put live k r v w s h n, one_le w.live, ap one lx);
      sends = omega (arith, before sends, now sends, one_sends);
      works = omega (arith, before worked, now worked, one_works);
    }
      where
        r1 : List Version
        r1 = change (put w) r

        f1 : find x.id r1 ≡ some x
        f1 = find_other x.id r w (λ q. out_named k x.id nn (sym n ∙ sym q)) ∙ fx

        before : (p : Version → Bool) → count p r1 ≡ count p (others x.id r1) + one (p x)
        before p = count-found p x.id r1 x (rising-change (put w) r s) f1

        now : (p : Version → Bool) → count p (change (put (retired stamp x)) r1) ≡ count p (others x.id r1) + one (p (retired stamp x))
        now p = count-put p x.id r1 x (retired stamp x) (rising-change (put w) r s) f1 refl

    pub line_retire : (stamp : ℕ) (l : List Version) → keep live (others k r) ≡ l
        → Line (changes (map (λ (x : Version). put (retired stamp x)) l) (change (put w) r))
    line_retire stamp [] q = record {
      lives = omega (arith, count-put live k r v w s h n, ap length q, one_le w.live);
      sends = one_sends;
      works = one_works;
    }
    line_retire stamp (x ∷ []) q = retire_one stamp x
        (head_of (subst (All (λ (y : Version). find y.id r ≡ some y)) q
        (all_keep live (all_keep (λ (y : Version). not_named k y.id) (found_self r s)))))
        (head_of (subst (All (λ (y : Version). not_named k y.id ≡ true)) q
        (all_keep live (passed (λ (y : Version). not_named k y.id) r))))
        (head_of (subst (All (λ (y : Version). y.live ≡ true)) q (passed live (others k r)))) (ap length q)
    line_retire stamp (x ∷ y ∷ ys) q = absurd (omega (arith, line.lives, count-found live k r v s h, ap length q))

pub none_counted : (p : Version → Bool) (l : List Version) → count p l ≡ 0 → All (λ (x : Version). p x ≡ false) l
none_counted p [] c = none
none_counted p (x ∷ xs) c = go (p x) refl (none_counted p xs)
  where
    go : (b : Bool) → p x ≡ b → (count p xs ≡ 0 → All (λ (y : Version). p y ≡ false) xs) → All (λ (y : Version). p y ≡ false) (x ∷ xs)
    go true e ih = absurd (omega (arith, count_cons p x xs, ap one e))
    go false e ih = with e (ih (omega (arith, count_cons p x xs)))

-- ---- the version of a number, in a line that has no number twice

pub record Distinct (r : List Version) : Type 0 where
  pub once : (n : ℕ) → count (numbered n) r ≤ 1

pub with_named : (n : ℕ) (r : List Version) (v : Version) → Rising r → with_number n r ≡ some v → find v.id r ≡ some v
with_named n r v s q = all_first {P = λ (x : Version). find x.id r ≡ some x} (numbered n) v (found_self r s) q

-- none of the rows has the number: all are others
besides-all : (n : ℕ) (r : List Version) → All (λ (x : Version). numbered n x ≡ false) r → besides n r ≡ r
besides-all n [] none = refl
besides-all n (x ∷ xs) (with h hs) = rw h (ap (λ (l : List Version). x ∷ l) (besides-all n xs hs))

pub besides_others : (n : ℕ) (r : List Version) (v : Version) → Rising r → count (numbered n) r ≤ 1 → with_number n r ≡ some v
    → besides n r ≡ others v.id r
besides_others n [] v s d q = absurd (let z : ◌≡◌ {A = ℕ} 0 1 = cc in omega arith)
besides_others n (x ∷ xs) v s d q = go (numbered n x) refl (besides_others n xs v s.1)
  where
    go : (b : Bool) → numbered n x ≡ b → (count (numbered n) xs ≤ 1 → with_number n xs ≡ some v → besides n xs ≡ others v.id xs)
        → besides n (x ∷ xs) ≡ others v.id (x ∷ xs)
    go true e ih =
        let y : x ≡ v = cc (rw e at q) in
        let z : count (numbered n) xs ≡ 0 = omega (arith, count_cons (numbered n) x xs, ap one e) in
        rw e (besides-all n xs (none_counted (numbered n) xs z)
        ∙ sym (subst (λ (w : Version). others w.id (x ∷ xs) ≡ xs) y (rw (order_self x.id) (others_all x.id xs s.0 s.1))))
    go false e ih =
        let a : with_number n xs ≡ some v = rw e at q in
        let up : order x.id v.id ≡ Ordering.lt = with_above n x xs v s a in
        rw (e, up) (ap (λ (l : List Version). x ∷ l) (ih (omega (arith, count_cons (numbered n) x xs)) a))

-- rows of one TN that rise have no number twice
pub distinct_rising : (n : ℕ) (r : List Version) → Rising r → All (λ (v : Version). v.id.tn.0 ≡ n) r → Distinct r
distinct_rising n r s a = record { once = λ m. go m r s a }
  where
    go : (m : ℕ) (r : List Version) → Rising r → All (λ (v : Version). v.id.tn.0 ≡ n) r → count (numbered m) r ≤ 1
    go m [] s none = omega arith
    go m (x ∷ xs) s (with h hs) = at (numbered m x) refl (go m xs s.1 hs)
      where
        differs : eqb x.id.number m ≡ true → (y : Version) → order x.id y.id ≡ Ordering.lt → y.id.tn.0 ≡ n
            → numbered m y ≡ false
        differs e y up q =
            ne_eqb y.id.number m
            (λ z. absurd (let j : x.id ≡ y.id = λ i. record
            { tn = record { 0 = (h ∙ sym q) i }; number = (eqb-true x.id.number m e ∙ sym z) i } in
            let w : Ordering.eq ≡ Ordering.lt = sym (order_self x.id) ∙ ap (order x.id) j ∙ up in
            let v : ◌≡◌ {A = ℕ} 0 1 = cc in omega arith))

        at : (b : Bool) → numbered m x ≡ b → count (numbered m) xs ≤ 1 → count (numbered m) (x ∷ xs) ≤ 1
        at true e ih =
            omega (
              arith,
              count_cons (numbered m) x xs,
              ap one e,
              ap length (keep_none (numbered m) (λ (y : Version). numbered m y ≡ false) xs
                  (all_both (differs e) (above x.id xs s.0 s.1) hs) (λ y q. q)),
            )
        at false e ih = omega (arith, count_cons (numbered m) x xs, ap one e)

-- ---- no number twice: what changes leave of it

-- a put and a strike bring no name
count_kept : (p : Id → Bool) (c : Change) (r : List Version) → fresh c ≡ 0
    → count (λ (v : Version). p v.id) (change c r) ≤ count (λ (v : Version). p v.id) r
count_kept p (add v) r q = absurd (omega (arith, q))
count_kept p (strike k) r q = count_strike (λ (v : Version). p v.id) k r
count_kept p (put w) [] q = omega arith
count_kept p (put w) (x ∷ xs) q = go (order w.id x.id) refl (count_kept p (put w) xs q)
  where
    P : Version → Bool
    P v = p v.id

    go : (o : Ordering) → order w.id x.id ≡ o → count P (change (put w) xs) ≤ count P xs
        → count P (change (put w) (x ∷ xs)) ≤ count P (x ∷ xs)
    go Ordering.lt e ih = rw e (omega arith)
    go Ordering.eq e ih =
        rw e (omega (arith, count_cons P w xs, count_cons P x xs, ap (λ (k : Id). one (p k)) (order_eq w.id x.id e)))
    go Ordering.gt e ih = rw e (omega (arith, count_cons P x xs, count_cons P x (change (put w) xs)))

pub distinct_changes : (cs : List Change) (r : List Version) → adds cs ≡ 0 → Distinct r → Distinct (changes cs r)
distinct_changes [] r q d = d
distinct_changes (c ∷ cs) r q d =
    distinct_changes cs (change c r) (omega (arith, q))
    (record { once = λ n. omega (arith, d.once n, count_kept (λ (k : Id). eqb k.number n) c r (omega (arith, q))) })

-- a number above the newest is nobody's
newer_none : (n : ℕ) (r : List Version) → newest r < n → count (numbered n) r ≡ 0
newer_none n [] h = refl
newer_none n (x ∷ xs) h = go (numbered n x) refl (newer_none n xs (omega (arith, h)))
  where
    go : (b : Bool) → numbered n x ≡ b → count (numbered n) xs ≡ 0 → count (numbered n) (x ∷ xs) ≡ 0
    go true e ih = absurd (omega (arith, h, eqb-true x.id.number n e))
    go false e ih = rw e ih

pub distinct_add : (w : Version) (r : List Version) → newest r < w.id.number → Distinct r → Distinct (change (add w) r)
distinct_add w r h d = record { once = λ n. go n (numbered n w) refl }
  where
    go : (n : ℕ) (b : Bool) → numbered n w ≡ b → count (numbered n) (change (add w) r) ≤ 1
    go n true e =
        omega (
          arith,
          count_add (numbered n) w r,
          ap one e,
          newer_none n r (subst (λ (m : ℕ). newest r < m) (eqb-true w.id.number n e) h),
        )
    go n false e = omega (arith, count_add (numbered n) w r, ap one e, d.once n)
