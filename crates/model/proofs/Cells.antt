-- The grid's entries, and the rule at all of them: one test that antt computes. [H6]
-- Assumes nothing.
use mathlib.Core.Path.{◌≡◌, ◌∙◌, ap, ap₂, refl}
use mathlib.Core.List.{List, [], ◌∷◌}
use mathlib.Core.Bool.{Bool, true, false, cond, ◌&&◌, ◌||◌}
use Prim.Native.Nat.{ℕ, ◌+◌, ◌*◌, ◌/◌, ◌%◌, ◌-◌, ◌<◌, ◌≤◌}
use native.Mathlib.Omega.{arith}
use borrow.Author.Tests.{lt-ltb, le-ltb, leb-true, lt-leb, ne_eqb}
use lib.Dec.{eqb, eqb→eq, leb}
use lib.ListN.{length, get_or}
use Rattle.model.specs.Sound.{last_status}
use Rattle.model.specs.Kinds as kind
use Rattle.model.specs.Standing.{grid_rule, is_grid_kind, grid_place, kind_at, status_for, grid_kinds, grid_entries}
use Rattle.model.specs.Basics.{among}
use Rattle.model.proofs.Lists.{clash}
use Rattle.model.proofs.Entries.{at}

unfoldable pub cells : List ℕ
cells =
    0 ∷ 6 ∷ 6 ∷ 6 ∷ 0 ∷ 6 ∷ 0 ∷ 6 ∷ 6 ∷ 0 ∷ 0 ∷ 6 ∷ 7 ∷ 7 ∷ 6 ∷ 7 ∷ 7 ∷ 6 ∷ 7 ∷ 6 ∷ 6 ∷ 7 ∷ 6 ∷ 6 ∷ 6 ∷ 6 ∷ 0 ∷ 6 ∷ 6 ∷ 7 ∷ 6 ∷ 6 ∷ 7 ∷
    0 ∷ 6 ∷ 6 ∷ 6 ∷ 0 ∷ 6 ∷ 7 ∷ 6 ∷ 6 ∷ 0 ∷ 0 ∷ 6 ∷ 7 ∷ 7 ∷ 6 ∷ 0 ∷ 0 ∷ 6 ∷ 7 ∷ 6 ∷ 6 ∷ 7 ∷ 6 ∷ 6 ∷ 6 ∷ 6 ∷ 7 ∷ 6 ∷ 6 ∷ 7 ∷ 6 ∷ 6 ∷ 7 ∷
    7 ∷ 6 ∷ 6 ∷ 6 ∷ 7 ∷ 6 ∷ 7 ∷ 6 ∷ 6 ∷ 7 ∷ 7 ∷ 6 ∷ 0 ∷ 0 ∷ 6 ∷ 7 ∷ 7 ∷ 6 ∷ 7 ∷ 6 ∷ 6 ∷ 7 ∷ 6 ∷ 6 ∷ 6 ∷ 6 ∷ 0 ∷ 6 ∷ 6 ∷ 7 ∷ 6 ∷ 6 ∷ 7 ∷
    7 ∷ 6 ∷ 6 ∷ 6 ∷ 7 ∷ 6 ∷ 7 ∷ 6 ∷ 6 ∷ 7 ∷ 7 ∷ 6 ∷ 7 ∷ 7 ∷ 6 ∷ 7 ∷ 7 ∷ 6 ∷ 7 ∷ 6 ∷ 6 ∷ 7 ∷ 6 ∷ 6 ∷ 6 ∷ 6 ∷ 7 ∷ 6 ∷ 6 ∷ 7 ∷ 6 ∷ 6 ∷ 7 ∷
    7 ∷ 6 ∷ 6 ∷ 6 ∷ 7 ∷ 6 ∷ 7 ∷ 6 ∷ 6 ∷ 7 ∷ 7 ∷ 6 ∷ 7 ∷ 7 ∷ 6 ∷ 7 ∷ 7 ∷ 6 ∷ 7 ∷ 6 ∷ 6 ∷ 7 ∷ 6 ∷ 6 ∷ 6 ∷ 6 ∷ 7 ∷ 6 ∷ 6 ∷ 0 ∷ 6 ∷ 6 ∷ 7 ∷
    7 ∷ 6 ∷ 6 ∷ 6 ∷ 7 ∷ 6 ∷ 7 ∷ 6 ∷ 6 ∷ 7 ∷ 7 ∷ 6 ∷ 7 ∷ 7 ∷ 6 ∷ 7 ∷ 7 ∷ 6 ∷ 7 ∷ 6 ∷ 6 ∷ 7 ∷ 6 ∷ 6 ∷ 6 ∷ 6 ∷ 7 ∷ 6 ∷ 6 ∷ 0 ∷ 6 ∷ 6 ∷ 7 ∷
    7 ∷ 6 ∷ 6 ∷ 6 ∷ 7 ∷ 6 ∷ 7 ∷ 6 ∷ 6 ∷ 7 ∷ 7 ∷ 6 ∷ 7 ∷ 7 ∷ 6 ∷ 7 ∷ 7 ∷ 6 ∷ 0 ∷ 6 ∷ 6 ∷ 0 ∷ 6 ∷ 6 ∷ 6 ∷ 6 ∷ 7 ∷ 6 ∷ 6 ∷ 0 ∷ 6 ∷ 6 ∷ 7 ∷
    7 ∷ 6 ∷ 6 ∷ 6 ∷ 7 ∷ 6 ∷ 7 ∷ 6 ∷ 6 ∷ 7 ∷ 7 ∷ 6 ∷ 7 ∷ 7 ∷ 6 ∷ 7 ∷ 7 ∷ 6 ∷ 7 ∷ 6 ∷ 6 ∷ 7 ∷ 6 ∷ 6 ∷ 6 ∷ 6 ∷ 7 ∷ 6 ∷ 6 ∷ 7 ∷ 6 ∷ 6 ∷ 0 ∷
    7 ∷ 6 ∷ 6 ∷ 6 ∷ 7 ∷ 6 ∷ 7 ∷ 6 ∷ 6 ∷ 7 ∷ 7 ∷ 6 ∷ 7 ∷ 7 ∷ 6 ∷ 7 ∷ 7 ∷ 6 ∷ 7 ∷ 6 ∷ 6 ∷ 7 ∷ 6 ∷ 6 ∷ 6 ∷ 6 ∷ 7 ∷ 6 ∷ 6 ∷ 7 ∷ 6 ∷ 6 ∷ 0 ∷ []

pub entries : length cells ≡ grid_entries
unfolding cells
entries = refl

-- the rule at entry i
unfoldable rule_at : ℕ → ℕ
rule_at i = grid_rule (i / (grid_kinds * 3)) (kind_at (i / 3 % grid_kinds)) (i % 3)

unfoldable right : ℕ → ℕ → Bool
right i x = eqb x (rule_at i)

by_entry : (i : ℕ) → i < grid_entries → get_or cells i 0 ≡ rule_at i
unfolding cells right rule_at grid_rule
by_entry i h = eqb→eq (get_or cells i 0) (rule_at i) (at right cells tt i h)

pub by_place : (s j t : ℕ) → s ≤ last_status → j < grid_kinds → t < 3 → get_or cells ((s * grid_kinds + j) * 3 + t) 0
    ≡ grid_rule s (kind_at j) t
unfolding rule_at
by_place s j t hs hj ht =
    let a : ((s * grid_kinds + j) * 3 + t) / (grid_kinds * 3) ≡ s = omega arith in
    let b : ((s * grid_kinds + j) * 3 + t) / 3 % grid_kinds ≡ j = omega arith in
    let d : ((s * grid_kinds + j) * 3 + t) % 3 ≡ t = omega arith in
    by_entry ((s * grid_kinds + j) * 3 + t) (omega arith)
    ∙ ap₂ (λ (x y : ℕ). grid_rule x (kind_at y) (((s * grid_kinds + j) * 3 + t) % 3)) a b ∙ ap (λ (z : ℕ). grid_rule s (kind_at j) z) d

-- ---- the kinds and their places

-- 3 to 10
low_kind : (k : ℕ) → 3 ≤ k → k ≤ 10 → (grid_place k < grid_kinds) × (kind_at (grid_place k) ≡ k)
low_kind k a b = rw (lt-ltb k 11 (omega arith)) (omega arith, rw (lt-ltb (k - 3) 8 (omega arith)) (omega arith))

-- from 13 on
high_kind : (k : ℕ) → 13 ≤ k → k ≤ kind.last → (grid_place k < grid_kinds) × (kind_at (grid_place k) ≡ k)
high_kind k a b = rw (le-ltb k 11 (omega arith)) (omega arith, rw (le-ltb (k - 5) 8 (omega arith)) (omega arith))

pub grid_kind : (k : ℕ) → is_grid_kind k ≡ true → (grid_place k < grid_kinds) × (kind_at (grid_place k) ≡ k)
grid_kind k h = go (leb 3 k) refl (leb k 10) refl (leb 13 k) refl (leb k kind.last) refl h
  where
    go : (a : Bool) → leb 3 k ≡ a → (b : Bool) → leb k 10 ≡ b → (c : Bool) → leb 13 k ≡ c → (d : Bool) → leb k kind.last ≡ d
        → ((a && b) || (c && d)) ≡ true
        → (grid_place k < grid_kinds) × (kind_at (grid_place k) ≡ k)
    go true p true q c r d s e = low_kind k (leb-true 3 k p) (leb-true k 10 q)
    go true p false q true r true s e = high_kind k (leb-true 13 k r) (leb-true k kind.last s)
    go true p false q true r false s e = clash e
    go true p false q false r d s e = clash e
    go false p b q true r true s e = high_kind k (leb-true 13 k r) (leb-true k kind.last s)
    go false p b q true r false s e = clash e
    go false p b q false r d s e = clash e

-- a kind of the grid is 3 at least, and 13 at least where it is above 10
pub grid_low : (k : ℕ) → is_grid_kind k ≡ true → 3 ≤ k
grid_low k h = go (leb 3 k) refl (leb 13 k) refl h
  where
    go : (a : Bool) → leb 3 k ≡ a → (c : Bool) → leb 13 k ≡ c → ((a && leb k 10) || (c && leb k kind.last)) ≡ true → 3 ≤ k
    go true p c r e = leb-true 3 k p
    go false p true r e = let x : 13 ≤ k = leb-true 13 k r in omega arith
    go false p false r e = clash e

-- standings beyond the three have none
pub no_standing : (s k w : ℕ) → 3 ≤ w → grid_rule s k w ≡ 6
unfolding grid_rule
no_standing s k w h =
    rw (
      ne_eqb w 0 (λ q. absurd (omega arith)),
      ne_eqb w 1 (λ q. absurd (omega arith)),
      ne_eqb w 2 (λ q. absurd (omega arith)),
      lt-leb w 1 (omega arith),
    )
    (go (among k (3 ∷ 5 ∷ 9 ∷ 10 ∷ [])) (eqb k 4) (among k (6 ∷ 7 ∷ 8 ∷ [])))
  where
    go : (a b c : Bool) → ◌≡◌ {A = ℕ} (cond (cond a false (cond b false (cond c false false))) (cond (status_for k s) 0 7) 6) 6
    go true b c = refl
    go false true c = refl
    go false false true = refl
    go false false false = refl
