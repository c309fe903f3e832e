-- The laws of `specs/Survey.antt`: no version, one version more before the others, and the places of a TN. Assumes nothing.
use mathlib.Core.Path.{◌≡◌, refl, sym, ap, ◌∙◌, subst}
use mathlib.Core.Bool.{Bool, true, false, cond, not, ◌&&◌, ◌||◌}
use mathlib.Core.Option.{none, some}
use mathlib.Core.Option as model
use Rattle.std.specs.Prelude.{Option, Some, None}
use mathlib.Core.List.{List, [], ◌∷◌, ◌++◌}
use Prim.Native.Nat.{ℕ, suc, ◌+◌, ◌*◌, ◌≤◌, ◌<◌, max}
use native.Mathlib.Omega.{arith}
use borrow.Author.Tests.{lt-ltb, le-ltb}
use lib.ListN.{length}
use lib.Seq.{slice, slice-cons}
use Rattle.model.specs.declared.Version.{Version}
use Rattle.model.specs.Basics.{any, first}
use Rattle.model.specs.Given.{with_number, besides}
use Rattle.model.specs.Sound.{numbered, live, sends, worked}
use Rattle.table.specs.declared.survey.Placed.{Placed}
use Rattle.table.specs.declared.survey.Facts.{Facts}
use Rattle.table.specs.Find.{place_in}
use Rattle.table.specs.Survey.{version_at, at_place, Found, seen_at, facts_at, Summed, Surveyed}
use Rattle.table.proofs.Sought.{place_le}
use Rattle.table.proofs.Numbered.{place_up}

-- ---- the versions that a kind asks for

nobody : {t : List Version} → Found t None none
nobody = record { is = refl; stands = tt }

-- the versions that a create asks for, and those that any other kind does
module _ (t r : List Version) (k : ℕ) (f : Facts) (s : Summed t r k f) where
  abbrev with_seen : Option Placed → Option Placed → Option Placed → Option Placed → Facts
  with_seen former live worked asked = record {
    newest = f.newest;
    stamp = f.stamp;
    sends = f.sends;
    blocked = f.blocked;
    former = former;
    live = live;
    worked = worked;
    asked = asked;
  }

  pub of_create : (c : Bool) → c ≡ true → (l w : Option Placed) → l ≡ f.live → w ≡ f.worked → Surveyed t r k c (with_seen None l w None)
  of_create c e l w p q = subst (λ (b : Bool). Surveyed t r k b (with_seen None l w None)) (sym e) (record {
    newest = s.newest;
    stamp = s.stamp;
    sending = s.sending;
    blocked = s.blocked;
    former = nobody;
    live = subst (λ (x : Option Placed). Found t x (first live r)) (sym p) s.live;
    worked = subst (λ (x : Option Placed). Found t x (first worked r)) (sym q) s.worked;
    asked = nobody;
  })

  pub of_other : (c : Bool) → c ≡ false → (l a : Option Placed) → l ≡ f.former → a ≡ f.asked → Surveyed t r k c (with_seen l None None a)
  of_other c e l a p q = subst (λ (b : Bool). Surveyed t r k b (with_seen l None None a)) (sym e) (record {
    newest = s.newest;
    stamp = s.stamp;
    sending = s.sending;
    blocked = s.blocked;
    former = subst (λ (x : Option Placed). Found t x (first live (besides k r))) (sym p) s.former;
    live = nobody;
    worked = nobody;
    asked = subst (λ (x : Option Placed). Found t x (with_number k r)) (sym q) s.asked;
  })

-- and what of a survey they may count on
module _ (t r : List Version) (k : ℕ) (c : Bool) (f : Facts) (s : Surveyed t r k c f) where
  pub live_of : c ≡ true → Found t f.live (first live r)
  live_of e = subst (λ (b : Bool). Found t f.live (cond b (first live r) none)) e s.live

  pub worked_of : c ≡ true → Found t f.worked (first worked r)
  worked_of e = subst (λ (b : Bool). Found t f.worked (cond b (first worked r) none)) e s.worked

  pub former_of : c ≡ false → Found t f.former (first live (besides k r))
  former_of e = subst (λ (b : Bool). Found t f.former (cond b none (first live (besides k r)))) e s.former

  pub asked_of : c ≡ false → Found t f.asked (with_number k r)
  asked_of e = subst (λ (b : Bool). Found t f.asked (cond b none (with_number k r))) e s.asked

-- what a place that was taken shows
pub place_seen : (t : List Version) (n : ℕ) (b : Bool) (i : ℕ) (v : Version) (p q : ℕ) → q ≡ cond b i p → i < n → v ≡ version_at t i
    → seen_at t n q ≡ cond b (Some (at_place i v)) (seen_at t n p)
place_seen t n b i v p q e l h = ap (seen_at t n) e ∙ go b
  where
    go : (b : Bool) → seen_at t n (cond b i p) ≡ cond b (Some (at_place i v)) (seen_at t n p)
    go true = ap (λ (x : Bool). cond x (Some (at_place i (version_at t i))) None) (lt-ltb i n l)
        ∙ ap (λ (x : Version). Some (at_place i x)) (sym h)
    go false = refl

-- nobody stands behind all
pub none_seen : (t : List Version) (n : ℕ) → seen_at t n n ≡ None
none_seen t n = ap (λ (b : Bool). cond b (Some (at_place n (version_at t n))) None) (le-ltb n n (omega arith))

-- ---- no version

pub none_surveyed : (t : List Version) (n k : ℕ)
    → Summed t [] k (facts_at t n
    (record { newest = 0; stamp = 0; sends = false; blocked = false; former = n; live = n; worked = n; asked = n }))
none_surveyed t n k = record {
  newest = refl;
  stamp = refl;
  sending = refl;
  blocked = refl;
  former = behind;
  live = behind;
  worked = behind;
  asked = behind;
}
  where
    behind : Found t (seen_at t n n) none
    behind = subst (λ (s : Option Placed). Found t s none) (sym (none_seen t n)) nobody

-- ---- one version more, at place i before the others

abbrev pub facts_with : ℕ → ℕ → Version → Facts → Facts
facts_with k i v f = record {
  newest = max v.id.number f.newest;
  stamp = max v.stamp f.stamp;
  sends = sends v || f.sends;
  live = cond (live v) (Some (at_place i v)) f.live;
  worked = cond (worked v) (Some (at_place i v)) f.worked;
  asked = cond (numbered k v) (Some (at_place i v)) f.asked;
  blocked = (not (numbered k v) && sends v) || f.blocked;
  former = cond (not (numbered k v) && live v) (Some (at_place i v)) f.former;
}

module _ (t : List Version) (i : ℕ) (h : i < length t) where
  found_more : (b : Bool) (s : Option Placed) (o : model.Option Version) → Found t s o
      → Found t (cond b (Some (at_place i (version_at t i))) s) (cond b (some (version_at t i)) o)
  found_more true s o f = record { is = refl; stands = (h, refl) }
  found_more false s o f = f

  -- the same where only those are looked at that pass a test, c of this one
  kept_more : (p : Version → Bool) (c : Bool) (s : Option Placed) (r : List Version) → Found t s (first p r)
      → Found t (cond (c && p (version_at t i)) (Some (at_place i (version_at t i))) s) (first p (cond c (version_at t i ∷ r) r))
  kept_more p true s r f = found_more (p (version_at t i)) s (first p r) f
  kept_more p false s r f = f

any_more : (p : Version → Bool) (c : Bool) (v : Version) (r : List Version) → (c && p v) || any p r ≡ any p (cond c (v ∷ r) r)
any_more p true v r = refl
any_more p false v r = refl

one_more : (t r : List Version) (k : ℕ) (f : Facts) (i : ℕ) → i < length t → Summed t r k f
    → Summed t (version_at t i ∷ r) k (facts_with k i (version_at t i) f)
one_more t r k f i h g =
    let v : Version = version_at t i in
    let o : List Version = besides k r in
    record {
      newest = ap (max v.id.number) g.newest;
      stamp = ap (max v.stamp) g.stamp;
      sending = ap (λ (b : Bool). sends v || b) g.sending;
      live = found_more t i h (live v) f.live (first live r) g.live;
      worked = found_more t i h (worked v) f.worked (first worked r) g.worked;
      asked = found_more t i h (numbered k v) f.asked (with_number k r) g.asked;
      blocked = ap (λ (b : Bool). (not (numbered k v) && sends v) || b) g.blocked ∙ any_more sends (not (numbered k v)) v o;
      former = kept_more t i h live (not (numbered k v)) f.former o g.former;
    }

-- ---- a turn of the loop

module _ (t r : List Version) (k to : ℕ) where
  -- the version v at place i was read, and f became g
  pub survey_turns : (i j : ℕ) (v : Version) (f g : Facts) → j ≡ suc i → i < to → to ≤ length t → v ≡ version_at t i
      → g ≡ facts_with k i v f → Summed t (slice j to t ++ r) k f → Summed t (slice i to t ++ r) k g
  survey_turns i j v f g b h l e w q =
      let c : slice i to t ≡ version_at t i ∷ slice (suc i) to t = slice-cons i to t _ h l in
      subst (Summed t (slice i to t ++ r) k) (sym (w ∙ ap (λ (x : Version). facts_with k i x f) e))
      (subst (λ (l : List Version). Summed t (l ++ r) k (facts_with k i (version_at t i) f)) (sym c)
      (one_more t (slice (suc i) to t ++ r) k f i (omega arith) (subst (λ (n : ℕ). Summed t (slice n to t ++ r) k f) b q)))

-- ---- the two places of a number

pub number_places : (t : List Version) (n : ℕ)
    → (place_in (n * 65536) t ≤ place_in ((n + 1) * 65536) t) × (place_in ((n + 1) * 65536) t ≤ length t)
number_places t n = (place_up t (n * 65536) ((n + 1) * 65536) (omega arith), place_le ((n + 1) * 65536) t)
