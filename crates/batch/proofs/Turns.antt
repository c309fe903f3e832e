-- One event of many: what a step on the tray behind the messages leaves of the whole.
-- Assumes nothing.
use mathlib.Core.Path.{◌≡◌, sym, ap, ap₂, ◌∙◌, subst}
use Prim.Native.Nat.{ℕ, suc, ◌+◌, ◌-◌, ◌*◌, ◌≤◌, ◌<◌}
use native.Mathlib.Omega.{arith}
use mathlib.Core.List.{List, ◌++◌, append-nil}
use lib.ListN.{length, take, drop, set, length-drop}
use lib.Seq.{take_all, drop-length}
use borrow.Rule.Slice.PartMut.{put_mid, Post-is}
use Rattle.model.specs.Outcomes.{number_of}
use Rattle.model.specs.Given.{Result}
use Rattle.model.proofs.Outcomes.{number_small}
use Rattle.model.specs.declared.Marks.{Marks}
use Rattle.rows.specs.Table.{decode}
use Rattle.scan.specs.Sound.{SoundTable}
use Rattle.std.specs.Prelude.{Option, Some}
use Rattle.outcomes.specs.Answered.{noted}
use Rattle.outcomes.specs.declared.Answer.{Answer}
use Rattle.engine.specs.Event.{Did}
use Rattle.checks.specs.Checks.{soundness_lent}
use Rattle.engine.specs.Step.{result_in}
use Rattle.engine.proofs.Keeping.{Again, again, result_few}
use Rattle.batch.specs.Batch.{Stand, result_at, Turned}

-- the part of a list from a place on
pub part_is : (y : List ℕ) (k : ℕ) → take (length y - k) (drop k y) ≡ drop k y
part_is y k = take_all (length y - k) (drop k y) (let e : length (drop k y) ≡ length y - k = length-drop k y in omega arith)

pub part_put : (y z : List ℕ) (k : ℕ) → k ≤ length y → put_mid k (length y - k) y z ≡ take k y ++ z
part_put y z k h =
    ap (λ (r : List ℕ). take k y ++ r)
    (ap (λ (r : List ℕ). z ++ r) (Post-is k (length y) y h ∙ drop-length y) ∙ append-nil z)

module _ (l : Option Marks) (b : List ℕ) (most : ℕ) (e t y o : List ℕ) (i m : ℕ) (u z : List ℕ) (a : Answer) where
  abbrev k : ℕ
  k = 24 * m

  abbrev S : Stand
  S = record { table = t; tray = y; outs = o; events = i; messages = m }

  abbrev X : Result
  X = result_at l b most e S

  module _ (d : Did (result_in l b most e t (take (length y - k) (drop k y))) t (take (length y - k) (drop k y)) u z a) where
    did : Did X t (drop k y) u z a
    did = subst (λ (w : List ℕ). Did (result_in l b most e t w) t w u z a) (part_is y k) d

    pub said_small : a.outcome < 256
    said_small = let h : a.outcome ≡ number_of X.out = did.outcome in omega (arith, number_small X.out)

    pub count_small : a.count ≤ 63
    count_small = subst (λ (n : ℕ). n ≤ 63) (sym did.count) (result_few l b most e t (drop k y))

    module _ (n : ℕ) (st : SoundTable t n) (sc : soundness_lent l b t ≡ Some n) where
      pub stays : Again l b t u
      stays = subst (λ (v : List ℕ). Again l b t v) (sym did.table) (again l b most e t (drop k y) n st sc)

      pub turned : (used : ℕ) → used ≡ length (decode u) → k ≤ length y → (outs : List ℕ) → outs ≡ noted o i a
          → Turned l b X S (record { table = u; tray = put_mid k (length y - k) y z; outs = outs; events = suc i; messages = m + a.count })
          used
      turned used q h outs p = record {
        is = λ j. record {
          table = did.table j;
          tray = (part_put y z k h ∙ ap (λ (r : List ℕ). take k y ++ r) did.tray) j;
          outs = (p ∙ ap₂ (λ (x c : ℕ). set (set o (2 * i) x) (2 * i + 1) c) did.outcome did.count) j;
          events = suc i;
          messages = m + did.count j;
        };
        sound = subst (λ (v : ℕ). SoundTable u v) (sym q) stays.table;
        scanned = stays.scanned ∙ ap Some (sym q);
      }

      pub turned_at : (used : ℕ) → used ≡ length (decode u) → k ≤ length y → (outs : List ℕ) → outs ≡ noted o i a → (s : Stand) → s ≡ S
          → Turned l b (result_at l b most e s) s
          (record { table = u; tray = put_mid k (length y - k) y z; outs = outs; events = suc i; messages = m + a.count }) used
      turned_at used q h outs p s w =
          subst (λ (v : Stand). Turned l b (result_at l b most e v) v
          (record { table = u; tray = put_mid k (length y - k) y z; outs = outs; events = suc i; messages = m + a.count }) used) (sym w)
          (turned used q h outs p)
