-- Soundness is kept by any rule whose answers keep it on the rows of the event's number.
-- Assumes nothing.
use mathlib.Core.Path.{◌≡◌, refl, subst}
use Prim.Native.Nat.{ℕ, ◌≤◌, Ordering}
use mathlib.Core.Bool.{Bool, true, false, cond, ◌&&◌}
use mathlib.Core.List.{List, [], ◌∷◌, map}
use mathlib.Core.Option.{some}
use lib.Dec.{eqb, ltb}
use lib.ListN.{length}
use native.Mathlib.Omega.{arith}
use borrow.Author.Tests.{eqb-true, eqb-false}
use Rattle.model.specs.Basics.{keep, All, none, with}
use Rattle.model.specs.Table.{order, Change, put, add, strike, name_of, miss, hit, change, changes, find, rows_of}
use Rattle.model.specs.Sound.{live, sends, count}
use Rattle.model.specs.Given.{Result, refuse, accept}
use Rattle.model.specs.Closing.{open?, closed, retired, retiring, retires, takes_over, settled, settles}
use Rattle.model.specs.Sound.{activate}
use Rattle.model.specs.Step.{after}
use Rattle.model.proofs.Lists.{all_keep, all_map, all_both, all-cond, passed}
use Rattle.model.proofs.TableLaws.{Rising, not_named, others, rising_changes, rising_part}
use Rattle.model.proofs.Apart.{Rule, step_by, Rows, Local, rows_rows, rows_out, rows_in_lem, fine}
use Rattle.model.proofs.SoundRows.{Row}
use Rattle.model.proofs.SoundCasts.{Casting, row_open, row_closed, row_retired, at_closed}
use Rattle.model.proofs.SoundLines.{Line, Distinct, one, none_counted, line-put, line_retire}
use Rattle.model.specs.declared.Id.{Id}
use Rattle.model.specs.declared.Version.{Version}
use Rattle.model.specs.declared.Event.{Event}
use Rattle.model.specs.declared.Message.{Message}
use Rattle.model.specs.declared.Outcome.{Outcome}

-- what a change brings in is P
abbrev pub Brings : (Version → Type 0) → Change → Type 0
Brings P (put v) = P v
Brings P (add v) = P v
Brings P (strike k) = Unit {0}

module _ (P : Version → Type 0) where
  all-miss : (c : Change) {t : List Version} → Brings P c → All P t → All P (miss c t)
  all-miss (put v) b a = a
  all-miss (add v) b a = with b a
  all-miss (strike k) b a = a

  all-hit : (c : Change) {t : List Version} → Brings P c → All P t → All P (hit c t)
  all-hit (put v) b a = with b a
  all-hit (add v) b a = with b a
  all-hit (strike k) b a = a

  all-change : (c : Change) (t : List Version) → Brings P c → All P t → All P (change c t)
  all-change c [] b none = all-miss c b none
  all-change c (x ∷ xs) b (with h hs) = go (order (name_of c) x.id) refl (all-change c xs b hs)
    where
      go : (o : Ordering) → order (name_of c) x.id ≡ o → All P (change c xs) → All P (change c (x ∷ xs))
      go Ordering.lt e ih = rw e (all-miss c b (with h hs))
      go Ordering.eq e ih = rw e (all-hit c b hs)
      go Ordering.gt e ih = rw e (with h ih)

  pub all_changes : (cs : List Change) (t : List Version) → All (Brings P) cs → All P t → All P (changes cs t)
  all_changes [] t none a = a
  all_changes (c ∷ cs) t (with b bs) a = all_changes cs (change c t) bs (all-change c t b a)

-- the answer keeps the rows of its number sound
pub record Keeps (r : List Version) (a : Result) : Type 0 where
  pub rows : All (Brings Row) a.does
  pub line : Line (changes a.does r)

-- what a rule may count on of the rows of a number
pub record Ground (line_of : ℕ → ℕ) (l : ℕ) (r : List Version) : Type 0 where
  pub own : Rows line_of l r
  pub rising : Rising r
  pub rows : All Row r
  pub line : Line r
  pub numbers : Distinct r

-- a table, as the rules count on it
pub record Sound (line : ℕ → ℕ) (t : List Version) : Type 0 where
  pub rising : Rising t
  pub rows : All Row t
  pub lines : (l : ℕ) → Line (rows_of line l t)
  pub numbers : (l : ℕ) → Distinct (rows_of line l t)

module _ (line : ℕ → ℕ) (rule : Rule) (loc : Local line rule) (cap : ℕ)
    (keeps : (b : Bool) (e : Event) (r : List Version) → Ground line (line e.tn.0) r → Keeps r (rule b e r))
    (apart : (b : Bool) (e : Event) (r : List Version) → Distinct r → Distinct (changes (rule b e r).does r)) where
  pub sound_after : (e : Event) (t : List Version) → Sound line t → Sound line (after (step_by line rule cap) e t)
  sound_after e t s = record {
    rising = rising_changes cs t s.rising;
    rows = all_changes Row cs t k.rows s.rows;
    lines = λ l. go Line l k.line (s.lines l) (eqb (line e.tn.0) l) refl;
    numbers = λ l. go Distinct l (apart (ltb (length t) cap) e r (s.numbers L)) (s.numbers l) (eqb (line e.tn.0) l) refl;
  }
    where
      L : ℕ
      L = line e.tn.0

      r : List Version
      r = rows_of line L t

      cs : List Change
      cs = (step_by line rule cap e t).does

      k : Keeps r (step_by line rule cap e t)
      k = keeps (ltb (length t) cap) e r
          (record {
            own = rows_rows line L t;
            rising = rising_part _ t s.rising;
            rows = all_keep _ s.rows;
            line = s.lines L;
            numbers = s.numbers L;
          })

      -- what holds of the event's rows after it, and of another line's before it, holds of each line's after it
      go : (P : List Version → Type 0) (l : ℕ) → P (changes cs r) → P (rows_of line l t) → (b : Bool) → eqb (line e.tn.0) l ≡ b
          → P (rows_of line l (changes cs t))
      go P l own other true q =
          subst (λ (m : ℕ). P (rows_of line m (changes cs t))) (eqb-true L l q)
          (rw (rows_in_lem line L cs t (fine line rule loc cap e t).near s.rising) own)
      go P l own other false q = rw (rows_out line L l cs t (fine line rule loc cap e t).near (eqb-false L l q)) other

-- ---- the shapes of answers

pub keeps_refuse : (o : Outcome) (r : List Version) → Line r → Keeps r (refuse o)
keeps_refuse o r l = record { rows = none; line = l }

-- ---- a broadcast that settles: w for the row v of the name k

module _ (k : Id) (r : List Version) (v : Version) (s : Rising r) (rows : All Row r) (line : Line r) (h : find k r ≡ some v)
    (alone : count sends (others k r) ≡ 0) (w : Version) (n : w.id ≡ k) (ms : List Message) (c : Casting w) where
  retired_rows : All (λ (x : Version). Row (retired w.stamp x)) (keep live (others k r))
  retired_rows =
      all_both {P = λ (x : Version). Row x × (sends x ≡ false)} (λ x a l. row_retired w.stamp x c.ranges.stamp a.0 l a.1)
      (all_keep live (all_both (λ x a b. (a, b)) (all_keep (λ (x : Version). not_named k x.id) rows)
      (none_counted sends (others k r) alone)))
      (passed live (others k r))

  lines_closed : (eqb w.cast.purpose activate ≡ false → v.live ≡ true) → (b : Bool) → takes_over w ≡ b
      → Line (changes (cond b (map (retiring w) (keep live (others k r))) []) (change (put (closed w)) r))
  unfolding closed
  lines_closed last true q =
      line_retire k r v s line h (closed w) n (at_closed w.cast).not_sending (at_closed w.cast).not_worked w.stamp
      (keep live (others k r)) refl
  lines_closed last false q =
      line-put k r v s line h (closed w) n (taken (eqb w.cast.purpose activate) (closed w).live q last)
      (rw (at_closed w.cast).not_sending (omega arith)) (rw (at_closed w.cast).not_worked (omega arith))
    where
      taken : (p l : Bool) → (p && l) ≡ false → (p ≡ false → v.live ≡ true) → one l ≤ one v.live
      taken true true q f = absurd (let y : ◌≡◌ {A = ℕ} 0 1 = cc in omega arith)
      taken true false q f = omega arith
      taken false true q f = rw (f refl) (omega arith)
      taken false false q f = omega arith

  pub keeps_settled : Line (change (put w) r) → (eqb w.cast.purpose activate ≡ false → v.live ≡ true)
      → Keeps r (accept ms (put (settled w) ∷ settles w (others k r)))
  unfolding settled settles retires
  keeps_settled lo last = go (open? w) refl
    where
      go : (b : Bool) → open? w ≡ b → Keeps r (accept ms (put (cond b w (closed w)) ∷ cond b [] (retires w (others k r))))
      go true o = record { rows = with (row_open w c o) none; line = lo }
      go false o = record {
        rows = with (row_closed w c o) (all-cond (takes_over w) (all_map _ (retiring w) retired_rows (λ x q. q)) none);
        line = lines_closed last (takes_over w) refl;
      }
