-- What the pass over a pair finds at a row, and what it leaves to the rows behind it. Assumes nothing.
use mathlib.Core.Path.{◌≡◌, refl, sym, ap, ap₂, ◌∙◌}
use mathlib.Core.Bool.{Bool, true, false, not, ◌&&◌, ◌||◌}
use mathlib.Core.List.{List, []}
use Prim.Native.Nat.{ℕ, ◌+◌, ◌*◌, ◌/◌, ◌≤◌, ◌<◌}
use native.Mathlib.Omega.{arith}
use borrow.Author.Tests.{eq-eqb, ne_eqb, eqb-true, eqb-false}
use lib.Dec.{eqb}
use lib.ListN.{length, drop}
use Rattle.model.specs.declared.Id.{Id}
use Rattle.model.specs.declared.Version.{Version}
use Rattle.model.specs.Basics.{all}
use Rattle.model.proofs.Lists.{clash, none_true, and_l, and_r}
use Rattle.row.specs.Layout.{key_of, unpack}
use Rattle.rows.specs.Table.{decode}
use Rattle.rows.proofs.Sounds.{AllSound, RisingFrom, number_lt, sound_at}
use Rattle.scan.specs.Sound.{SoundTable}
use Rattle.table.specs.Find.{key_for, place_in}
use Rattle.table.specs.Survey.{version_at}
use Rattle.table.proofs.Sought.{sound_good}
use Rattle.lines.specs.declared.Held.{Held}
use Rattle.lines.specs.Pairs.{held_of, meet, bare, has_name, lacks, none_of, spares, under, none_under}
use Rattle.lines.proofs.Walks.{place_at, all-every, before_place, walk_out, walk_fails, walk_on, walk_past}

-- ---- a name

pub named_is : (k : Id) (v : Version) → has_name k v ≡ true → v.id ≡ k
named_is k v e =
    let a = and_l (eqb v.id.tn.0 k.tn.0) (eqb v.id.number k.number) e in
    let b = and_r (eqb v.id.tn.0 k.tn.0) (eqb v.id.number k.number) e in
    λ i. record { tn = record { 0 = eqb-true v.id.tn.0 k.tn.0 a i }; number = eqb-true v.id.number k.number b i }

-- a list of sound versions whose keys rise
pub record Listed (vs : List Version) : Type 0 where
  pub sound : AllSound vs
  pub rises : RisingFrom 0 vs

pub listed : (t : List ℕ) (n : ℕ) → SoundTable t n → Listed (decode t)
listed t n s = record { sound = (sound_good t n s).sound; rises = (sound_good t n s).rises }

pub number_at : (vs : List Version) (i : ℕ) → Listed vs → i < length vs → (version_at vs i).id.number < 65536
number_at vs i g h = number_lt (version_at vs i) (sound_at vs i (unpack []) g.sound h)

-- ---- whether any version passes a test that only keys from lo up to hi can pass: the first of them decides

module _ (q : Version → Bool) (lo hi : ℕ) (low : (v : Version) → key_for v < lo → q v ≡ true → ⊥)
    (high : (v : Version) → v.id.number < 65536 → hi ≤ key_for v → q v ≡ true → ⊥) (vs : List Version) (i : ℕ)
    (e : i ≡ place_in lo vs) where
  from_first : all (λ (v : Version). not (q v)) (drop i vs) ≡ all (λ (v : Version). not (q v)) vs
  from_first =
      ap (λ (j : ℕ). all (λ (v : Version). not (q v)) (drop j vs)) e
      ∙ before_place (λ (v : Version). not (q v)) lo vs (λ v l. ap not (none_true (q v) (low v l)))

  pub none_left : length vs ≤ i → all (λ (v : Version). not (q v)) vs ≡ true
  none_left h = walk_out (λ (v : Version). not (q v)) vs i from_first h

  pub first_decides : Listed vs → i < length vs → (x : Bool) → x ≡ q (version_at vs i)
      → (x ≡ false → lo ≤ key_for (version_at vs i) → (version_at vs i).id.number < 65536 → hi ≤ key_for (version_at vs i))
      → not x ≡ all (λ (v : Version). not (q v)) vs
  first_decides g h true p f = sym (walk_fails (λ (v : Version). not (q v)) vs i from_first h (ap not (sym p)))
  first_decides g h false p f =
      sym (walk_past (λ (v : Version). not (q v)) vs i from_first h hi g.sound g.rises
      (f refl (place_at lo 0 vs i g.rises (omega (arith, e)) h) (number_at vs i g h))
      (λ v n l. ap not (none_true (q v) (high v n l))))

-- a name
module _ (k : Id) (b : k.number < 65536) (vs : List Version) (i : ℕ) (e : i ≡ place_in (key_of k) vs) where
  below : (v : Version) → key_for v < key_of k → has_name k v ≡ true → ⊥
  below v l n = let z : key_for v ≡ key_of k = ap key_of (named_is k v n) in omega arith

  above : (v : Version) → v.id.number < 65536 → key_of k + 1 ≤ key_for v → has_name k v ≡ true → ⊥
  above v m l n = let z : key_for v ≡ key_of k = ap key_of (named_is k v n) in omega arith

  pub absent_out : length vs ≤ i → lacks k vs ≡ true
  unfolding lacks
  absent_out h = none_left (has_name k) (key_of k) (key_of k + 1) below above vs i e h

  pub absent_at : Listed vs → i < length vs → (x : ℕ) → x ≡ key_for (version_at vs i) → not (eqb x (key_of k)) ≡ lacks k vs
  unfolding lacks
  absent_at g h x q =
      first_decides (has_name k) (key_of k) (key_of k + 1) below above vs i e g h (eqb x (key_of k))
      (go (eqb x (key_of k)) refl (has_name k (version_at vs i)) refl)
      (λ z l m. let n : x ≡ key_of k → ⊥ = eqb-false _ _ z in omega arith)
    where
      go : (s : Bool) → eqb x (key_of k) ≡ s → (r : Bool) → has_name k (version_at vs i) ≡ r → s ≡ r
      go true z r y =
          let same : x ≡ key_of k = eqb-true _ _ z in
          let m : (version_at vs i).id.number < 65536 = number_at vs i g h in
          let tn : (version_at vs i).id.tn.0 ≡ k.tn.0 = omega arith in
          let number : (version_at vs i).id.number ≡ k.number = omega arith in
          sym (ap₂ (λ (c d : Bool). c && d) (eq-eqb _ _ tn) (eq-eqb _ _ number)) ∙ y
      go false z true y = absurd (eqb-false _ _ z (q ∙ ap key_of (named_is k (version_at vs i) y)))
      go false z false y = refl

-- a number
module _ (tn : ℕ) (vs : List Version) (i : ℕ) (e : i ≡ place_in (tn * 65536 + 0) vs) where
  abbrev of : Version → Bool
  of v = eqb v.id.tn.0 tn

  lower : (v : Version) → key_for v < tn * 65536 + 0 → of v ≡ true → ⊥
  lower v l n = let z : v.id.tn.0 ≡ tn = eqb-true _ _ n in omega arith

  higher : (v : Version) → v.id.number < 65536 → (tn + 1) * 65536 ≤ key_for v → of v ≡ true → ⊥
  higher v m l n = let z : v.id.tn.0 ≡ tn = eqb-true _ _ n in omega arith

  pub nobody_out : length vs ≤ i → none_of tn vs ≡ true
  unfolding none_of
  nobody_out h = none_left of (tn * 65536 + 0) ((tn + 1) * 65536) lower higher vs i e h

  pub nobody_at : Listed vs → i < length vs → (x : ℕ) → x ≡ (version_at vs i).id.tn.0 → not (eqb x tn) ≡ none_of tn vs
  unfolding none_of
  nobody_at g h x q =
      first_decides of (tn * 65536 + 0) ((tn + 1) * 65536) lower higher vs i e g h (eqb x tn) (ap (λ (y : ℕ). eqb y tn) q)
      (λ z l m. let n : x ≡ tn → ⊥ = eqb-false _ _ z in omega arith)

-- a code
module _ (c : ℕ) (vs : List Version) (i : ℕ) (e : i ≡ place_in (c * 10000 * 65536 + 0) vs) where
  before : (v : Version) → key_for v < c * 10000 * 65536 + 0 → under c v ≡ true → ⊥
  before v l n = let z : v.id.tn.0 / 10000 ≡ c = eqb-true _ _ n in omega arith

  behind : (v : Version) → v.id.number < 65536 → (c + 1) * 10000 * 65536 ≤ key_for v → under c v ≡ true → ⊥
  behind v m l n = let z : v.id.tn.0 / 10000 ≡ c = eqb-true _ _ n in omega arith

  pub unused_out : length vs ≤ i → none_under c vs ≡ true
  unfolding none_under
  unused_out h = none_left (under c) (c * 10000 * 65536 + 0) ((c + 1) * 10000 * 65536) before behind vs i e h

  pub unused_at : Listed vs → i < length vs → (x : ℕ) → x ≡ (version_at vs i).id.tn.0 → not (eqb (x / 10000) c) ≡ none_under c vs
  unfolding none_under
  unused_at g h x q =
      first_decides (under c) (c * 10000 * 65536 + 0) ((c + 1) * 10000 * 65536) before behind vs i e g h (eqb (x / 10000) c)
      (ap (λ (y : ℕ). eqb (y / 10000) c) q) (λ z l m. let n : x / 10000 ≡ c → ⊥ = eqb-false _ _ z in omega arith)

-- ---- what a number has

meet-bare : (a h : Held) → bare h ≡ true → meet a h ≡ false
unfolding meet bare
meet-bare a h e = go a.live a.sends a.worked h.live h.sends h.worked e
  where
    none : (l : Bool) → (l && false) ≡ false
    none true = refl
    none false = refl

    go : (l s w x y z : Bool) → not (x || (y || z)) ≡ true → ((l && x) || ((s && y) || (w && z))) ≡ false
    go l s w true y z q = clash q
    go l s w false true z q = clash q
    go l s w false false true q = clash q
    go l s w false false false q = rw (none l, none s, none w)

module _ (tn : ℕ) (h : Held) (vs : List Version) where
  abbrev spare : Version → Bool
  spare v = not (eqb v.id.tn.0 tn && meet (held_of v) h)

  elsewhere : (v : Version) → (v.id.tn.0 ≡ tn → ⊥) → spare v ≡ true
  elsewhere v n = ap (λ (b : Bool). not (b && meet (held_of v) h)) (ne_eqb _ _ n)

  pub spare_bare : bare h ≡ true → spares tn h vs ≡ true
  unfolding spares
  spare_bare e = all-every spare vs (λ v. go (eqb v.id.tn.0 tn) (meet (held_of v) h) (meet-bare (held_of v) h e))
    where
      go : (a b : Bool) → b ≡ false → not (a && b) ≡ true
      go true b q = ap not q
      go false b q = refl

  pub spare_start : (i : ℕ) → i ≡ place_in (tn * 65536 + 0) vs → spares tn h (drop i vs) ≡ spares tn h vs
  unfolding spares
  spare_start i e =
      ap (λ (j : ℕ). all spare (drop j vs)) e ∙ before_place spare (tn * 65536 + 0) vs (λ v l. elsewhere v (λ q. absurd (omega arith)))

  module _ (g : Listed vs) (i : ℕ) (s : spares tn h (drop i vs) ≡ spares tn h vs) where
    pub spare_out : length vs ≤ i → spares tn h vs ≡ true
    unfolding spares
    spare_out l = walk_out spare vs i s l

    module _ (l : i < length vs) where
      pub spare_past : place_in (tn * 65536 + 0) vs ≤ i → (x : ℕ) → x ≡ (version_at vs i).id.tn.0 → (x ≡ tn → ⊥) → spares tn h vs ≡ true
      unfolding spares
      spare_past u x q n =
          let least : tn * 65536 + 0 ≤ key_for (version_at vs i) = place_at (tn * 65536 + 0) 0 vs i g.rises u l in
          let m : (version_at vs i).id.number < 65536 = number_at vs i g l in
          walk_past spare vs i s l ((tn + 1) * 65536) g.sound g.rises (omega arith) (λ v b k. elsewhere v (λ z. absurd (omega arith)))

      module _ (x : ℕ) (q : x ≡ (version_at vs i).id.tn.0) (o : x ≡ tn) (y : Held) (w : y ≡ held_of (version_at vs i)) (b : Bool)
          (m : b ≡ meet y h) where
        shown : spare (version_at vs i) ≡ not b
        shown = ap₂ (λ (c d : Bool). not (c && d)) (eq-eqb _ _ (sym q ∙ o)) (ap (λ (z : Held). meet z h) (sym w) ∙ sym m)

        pub spare_fails : b ≡ true → spares tn h vs ≡ false
        unfolding spares
        spare_fails e = walk_fails spare vs i s l (shown ∙ ap not e)

        pub spare_on : b ≡ false → spares tn h (drop (i + 1) vs) ≡ spares tn h vs
        unfolding spares
        spare_on e = walk_on spare vs i s l (shown ∙ ap not e)
