-- When a run is refused, and when it is the steps.
-- Assumes nothing.
use mathlib.Core.Path.{◌≡◌, refl, sym, ◌∙◌, subst}
use Prim.Native.Nat.{ℕ, ◌*◌, ◌/◌, ◌%◌, ◌≤◌, ◌<◌}
use native.Mathlib.Omega.{arith}
use mathlib.Core.Bool.{Bool, true, false, cond, ◌&&◌}
use mathlib.Core.List.{List}
use lib.Dec.{eqb, leb}
use lib.ListN.{length}
use borrow.Author.Tests.{eq-eqb, ne_eqb, le-leb, lt-leb}
use Rattle.packing.specs.Layout.{RECORD}
use Rattle.model.specs.declared.Marks.{Marks}
use Rattle.std.specs.Prelude.{Option, None, Some}
use Rattle.tray.specs.Tray.{places_in}
use Rattle.checks.specs.Checks.{fitting, soundness_lent}
use Rattle.batch.specs.declared.Ran.{Ran}
use Rattle.batch.specs.Batch.{records_in, Stand, steps, begin, refusal, leaves, refused_with, Went}

module _ (l : Option Marks) (b : List ℕ) (most : ℕ) (es t y o : List ℕ) where
  abbrev N : ℕ
  N = refusal l b most es t y o

  abbrev all : Stand
  all = steps l b most (records_in es) (begin t y o)

  pub went_refused : (k : ℕ) (r : Ran) → r ≡ refused_with k → N ≡ k → (k ≡ 0 → ⊥) → Went N (leaves l b most es t y o) t y o r
  unfolding leaves
  went_refused k r e q z =
      subst (λ (a : Ran). Went N (leaves l b most es t y o) t y o a) (sym e)
      (rw (q, ne_eqb k 0 z) (record { said = refl; done = refl; told = refl; left = refl; laid = refl; noted = refl }))

  pub no_table : soundness_lent l b t ≡ None → N ≡ 1
  unfolding refusal
  no_table h = rw h

  module _ (n : ℕ) (h : soundness_lent l b t ≡ Some n) where
    abbrev room : Bool
    room = leb (2 * (length es / RECORD)) (length o)

    is_fitting : N ≡ cond (fitting most (places_in y) && room) (cond (eqb (length es % RECORD) 0) 0 2) 1
    unfolding refusal
    is_fitting = rw h

    pub unfit : fitting most (places_in y) ≡ false → N ≡ 1
    unfit f = is_fitting ∙ rw f

    pub short : fitting most (places_in y) ≡ true → length o < 2 * (length es / RECORD) → N ≡ 1
    short f s = is_fitting ∙ rw (f, lt-leb (2 * (length es / RECORD)) (length o) s)

    module _ (f : fitting most (places_in y) ≡ true) (s : 2 * (length es / RECORD) ≤ length o) where
      pub partly : (length es % RECORD ≡ 0 → ⊥) → N ≡ 2
      partly q = is_fitting ∙ rw (f, le-leb (2 * (length es / RECORD)) (length o) s, ne_eqb (length es % RECORD) 0 q)

      pub wholly : length es % RECORD ≡ 0 → N ≡ 0
      wholly q = is_fitting ∙ rw (f, le-leb (2 * (length es / RECORD)) (length o) s, eq-eqb (length es % RECORD) 0 q)

  pub went_whole : (t' y' o' : List ℕ) (r : Ran) → N ≡ 0 → Went 0 all t' y' o' r → Went N (leaves l b most es t y o) t' y' o' r
  unfolding leaves
  went_whole t' y' o' r q w = rw q w

-- provider list, books or table are unsound
pub went_unlent : (l k : Option Marks) (b : List ℕ) (most : ℕ) (es t y o : List ℕ) (r : Ran) → l ≡ k → soundness_lent l b t ≡ None
    → r ≡ refused_with 1 → Went (refusal k b most es t y o) (leaves k b most es t y o) t y o r
went_unlent l k b most es t y o r q h e =
    subst (λ (x : Option Marks). Went (refusal x b most es t y o) (leaves x b most es t y o) t y o r) q
    (went_refused l b most es t y o 1 r e (no_table l b most es t y o h) (λ z. omega (arith, z)))
