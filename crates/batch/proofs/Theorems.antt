-- What is proved of a run. Each statement speaks of `refusal` and `leaves`, which its promise cites.
-- Assumes nothing.
use mathlib.Core.Path.{◌≡◌, refl, sym, ap, ◌∙◌}
use Prim.Native.Nat.{ℕ}
use mathlib.Core.Bool.{Bool, true, false}
use mathlib.Core.List.{List, [], ◌∷◌}
use lib.Dec.{eqb, leb}
use lib.ListN.{length}
use borrow.Author.Tests.{ne_eqb}
use Rattle.octets.specs.Octets.{Bytes}
use Rattle.model.specs.Step.{PLACES}
use Rattle.model.specs.declared.Marks.{Marks}
use Rattle.rows.specs.Table.{decode}
use Rattle.scan.specs.Sound.{SoundTable}
use Rattle.checks.specs.Checks.{soundness_lent}
use Rattle.checks.proofs.Lending.{lent_table}
use Rattle.std.specs.Prelude.{Option, Some}
use Rattle.tray.specs.Tray.{places_in}
use Rattle.engine.specs.Step.{is_table}
use Rattle.engine.proofs.Keeping.{Again, again}
use Rattle.batch.specs.declared.Ran.{Ran}
use Rattle.batch.specs.Batch.{records_in, Stand, behind, after, result_at, steps, begin, refusal, leaves, Went}

-- The promise allows one result. [H2]
pub went_one : (n : ℕ) (s : Stand) (t y o u z v : List ℕ) (a c : Ran) → Went n s t y o a → Went n s u z v c
    → (t ≡ u) × (y ≡ z) × (o ≡ v) × (a.outcome ≡ c.outcome) × (a.events ≡ c.events) × (a.messages ≡ c.messages)
went_one n s t y o u z v a c p q = (
  p.left ∙ sym q.left,
  p.laid ∙ sym q.laid,
  p.noted ∙ sym q.noted,
  p.said ∙ sym q.said,
  p.done
      ∙ sym q.done,
  p.told ∙ sym q.told,
)

-- steps keep a table sound
steps_sound : (l : Option Marks) (b : List ℕ) (most : ℕ) (rs : List (List ℕ)) (s : Stand) (n : ℕ) → SoundTable s.table n
    → soundness_lent l b s.table ≡ Some n
    → is_table (soundness_lent l b (steps l b most rs s).table) ≡ true
unfolding steps
steps_sound l b most [] s n h q = ap is_table q
steps_sound l b most (e ∷ rs) s n h q =
    let next : Stand = after (result_at l b most e s) s in
    let a : Again l b s.table next.table = again l b most e s.table (behind s) n h q in
    go (leb PLACES (places_in (behind s))) refl (steps_sound l b most rs next (length (decode next.table)) a.table a.scanned)
  where
    go : (f : Bool) → leb PLACES (places_in (behind s)) ≡ f
        → is_table (soundness_lent l b (steps l b most rs (after (result_at l b most e s) s)).table) ≡ true
        → is_table (soundness_lent l b (steps l b most (e ∷ rs) s).table) ≡ true
    go true p r = rw p r
    go false p r = rw p (ap is_table q)

module _ (l : Option Marks) (b : List ℕ) (most : ℕ) (es t y₀ o : List ℕ) (t' y' o' : List ℕ) (r : Ran)
    (w : Went (refusal l b most es t y₀ o) (leaves l b most es t y₀ o) t' y' o' r) where
  -- A run that is refused changes nothing: table, tray and outcome slice hold the bytes that they held before.
  pub run_refusal_keeps : (r.outcome ≡ 0 → ⊥) → (t' ≡ t) × (y' ≡ y₀) × (o' ≡ o) × (r.events ≡ 0) × (r.messages ≡ 0)
  unfolding leaves
  run_refusal_keeps h =
      let k : leaves l b most es t y₀ o ≡ begin t y₀ o = rw (ne_eqb (refusal l b most es t y₀ o) 0 (λ z. h (w.said ∙ z))) in (
        w.left ∙ ap (λ (s : Stand). s.table) k,
        w.laid ∙ ap (λ (s : Stand). s.tray) k,
        w.noted ∙ ap (λ (s : Stand). s.outs) k,
        w.done
            ∙ ap (λ (s : Stand). s.events) k,
        w.told ∙ ap (λ (s : Stand). s.messages) k,
      )

  -- A run on a sound table leaves a table that the soundness check accepts. [V12]
  pub run_stays_sound : (n : ℕ) → Bytes t → soundness_lent l b t ≡ Some n → is_table (soundness_lent l b t') ≡ true
  unfolding leaves
  run_stays_sound n y q = ap (λ (x : List ℕ). is_table (soundness_lent l b x)) w.left ∙ go (eqb (refusal l b most es t y₀ o) 0) refl
    where
      go : (f : Bool) → eqb (refusal l b most es t y₀ o) 0 ≡ f → is_table (soundness_lent l b (leaves l b most es t y₀ o).table) ≡ true
      go true p = rw p (steps_sound l b most (records_in es) (begin t y₀ o) n (lent_table l b t n y q) q)
      go false p = rw p (ap is_table q)
