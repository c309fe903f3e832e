-- Any two answers that `survey::line` may give of one table and one number are equal. [H2]
-- Assumes nothing.
use mathlib.Core.Path.{◌≡◌, refl, sym, ap, ◌∙◌}
use mathlib.Core.Bool.{Bool, true, false}
use mathlib.Core.Option as model
use Rattle.std.specs.Prelude.{Option, Some, None}
use mathlib.Core.List.{List}
use Prim.Native.Nat.{ℕ, ◌≤◌, ◌<◌}
use native.Mathlib.Omega.{arith}
use borrow.Author.Tests.{ltb-true, ltb-false}
use lib.Dec.{ltb}
use lib.ListN.{length}
use Rattle.model.specs.declared.Version.{Version}
use Rattle.model.specs.Sound.{sound_table}
use Rattle.model.proofs.Lists.{nothing_some}
use Rattle.table.specs.declared.survey.Placed.{Placed}
use Rattle.table.specs.declared.survey.Facts.{Facts}
use Rattle.table.specs.Find.{key_for}
use Rattle.scan.specs.Sound.{itself}
use Rattle.table.specs.Survey.{version_at, Found, Surveyed}
use Rattle.rows.proofs.Sounds.{RisingFrom}
use Rattle.table.proofs.Changed.{rises_at}
use Rattle.scan.proofs.Meant.{table_good}

-- a version stands at one place only
one_place : (t : List Version) → RisingFrom 0 t → (i j : ℕ) → i < length t → j < length t → version_at t i ≡ version_at t j → i ≡ j
one_place t r i j h l e = go (ltb i j) refl (ltb j i) refl
  where
    k : key_for (version_at t i) ≡ key_for (version_at t j)
    k = ap key_for e

    go : (a : Bool) → ltb i j ≡ a → (b : Bool) → ltb j i ≡ b → i ≡ j
    go true p b q = absurd (omega (arith, rises_at t 0 i j r (ltb-true i j p) l, k))
    go false p true q = absurd (omega (arith, rises_at t 0 j i r (ltb-true j i q) h, k))
    go false p false q =
        let x : j ≤ i = ltb-false i j p in
        let y : i ≤ j = ltb-false j i q in
        omega arith

found_one : (t : List Version) → RisingFrom 0 t → (s u : Option Placed) (o : model.Option Version) → Found t s o → Found t u o → s ≡ u
found_one t r None None o f g = refl
found_one t r None (Some q) o f g = absurd (nothing_some (f.is ∙ sym g.is))
found_one t r (Some p) None o f g = absurd (nothing_some (g.is ∙ sym f.is))
found_one t r (Some p) (Some q) o f g =
    let e : p.version ≡ q.version = cc (f.is ∙ sym g.is) in
    let a : p.at ≡ q.at = one_place t r p.at q.at f.stands.0 g.stands.0 (f.stands.1 ∙ e ∙ sym g.stands.1) in
    λ x. Some (record { at = a x; version = e x })

pub surveyed_one : (rows : ℕ) (t : List Version) → sound_table itself rows t ≡ true
    → (r : List Version) (k : ℕ) (create : Bool) (f g : Facts)
    → Surveyed t r k create f → Surveyed t r k create g → f ≡ g
surveyed_one rows t s r k create f g a b =
    let up : RisingFrom 0 t = (table_good rows t s).rises in
    λ x. record {
      newest = (a.newest ∙ sym b.newest) x;
      stamp = (a.stamp ∙ sym b.stamp) x;
      sends = (a.sending ∙ sym b.sending) x;
      live = found_one t up f.live g.live _ a.live b.live x;
      worked = found_one t up f.worked g.worked _ a.worked b.worked x;
      asked = found_one t up f.asked g.asked _ a.asked b.asked x;
      blocked = (a.blocked ∙ sym b.blocked) x;
      former = found_one t up f.former g.former _ a.former b.former x;
    }
