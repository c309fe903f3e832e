-- Nothing is at fault exactly where the lines are sound. Assumes nothing.
use Prim.Native.Nat.{ℕ, zero, suc, ◌+◌, ◌≤◌, ◌<◌}
use mathlib.Core.Path.{◌≡◌, refl, sym, ap, ◌∙◌, subst}
use mathlib.Core.Bool.{Bool, true, false, cond, ◌&&◌, and-true}
use mathlib.Core.List.{List, [], ◌∷◌}
use native.Mathlib.Nat.{not-suc-le-zero}
use native.Mathlib.Omega.{arith}
use borrow.Author.Tests.{eq-eqb, eqb-true, eqb-false}
use lib.Dec.{eqb}
use lib.ListN.{length, get_or}
use Rattle.faults.specs.declared.Found.{Found}
use Rattle.std.specs.Prelude.{Option, None}
use Rattle.std.specs.Option.{is_none}
use Rattle.faults.specs.Faults.{Clause, beside, nearest, first_fault, told, is_faultless}
use Rattle.faults.proofs.Laws.{numbered_found, numbered_fault, told_faultless, broken_numbered, first_numbered}
use Rattle.faults.proofs.Laws.{nearest_none, all_hold, none_broken, faultless-next, faulty_here}
use Rattle.model.specs.declared.Version.{Version}
use Rattle.model.specs.Sound.{live, sends, worked, sound_lines}
use Rattle.model.proofs.Lists.{clash, and_l, and_r, both_true}
use Rattle.table.specs.Survey.{version_at}
use Rattle.lines.proofs.Twos.{Clear, AllClear, lines_clear, clear_lines}
use Rattle.linefaults.specs.Clauses.{collide, line_at, rival, line_clauses, row_found, line_fault}
use Rattle.linefaults.proofs.Rivals.{clear_apart}

-- ---- none before passes, where the nearest is none

nearest_zero : (p : ℕ → Bool) (i : ℕ) → nearest p i ≡ 0 → (j : ℕ) → j < i → p j ≡ false
unfolding nearest
nearest_zero p zero e j h = absurd (not-suc-le-zero h)
nearest_zero p (suc i) e j h = go (p i) (eqb j i) refl refl e (nearest_zero p i)
  where
    go : (b s : Bool) → p i ≡ b → eqb j i ≡ s → cond b (suc i) (nearest p i) ≡ 0 → (nearest p i ≡ 0 → (k : ℕ) → k < i → p k ≡ false)
        → p j ≡ false
    go true s q o z ih = absurd (omega arith)
    go false true q o z ih = ap p (eqb-true _ _ o) ∙ q
    go false false q o z ih =
        let n : j ≡ i → ⊥ = eqb-false _ _ o in
        ih z j (omega arith)

-- ---- nothing is found at any place, where nothing is at fault

module _ (found : ℕ → Option Found) where
  abbrev fine : ℕ → Bool
  fine k = is_none (found k)

  fine-all : (m i : ℕ) → ((k : ℕ) → i ≤ k → k < i + m → fine k ≡ true) → is_none (first_fault found m i) ≡ true
  unfolding first_fault
  fine-all zero i f = refl
  fine-all (suc m) i f = faultless-next found m i (f i (omega arith) (omega arith))
      ∙ fine-all m (suc i) (λ k a b. f k (omega arith) (omega arith))

  all-fine : (m i : ℕ) → is_none (first_fault found m i) ≡ true → (k : ℕ) → i ≤ k → k < i + m → fine k ≡ true
  all-fine zero i e k a b = absurd (omega arith)
  all-fine (suc m) i e k a b = go (fine i) (eqb k i) refl refl (all-fine m (suc i))
    where
      go : (x s : Bool) → fine i ≡ x → eqb k i ≡ s
          → (is_none (first_fault found m (suc i)) ≡ true → (j : ℕ) → suc i ≤ j → j < suc i + m → fine j ≡ true) → fine k ≡ true
      go true true q o ih = ap fine (eqb-true _ _ o) ∙ q
      go true false q o ih =
          let n : k ≡ i → ⊥ = eqb-false _ _ o in
          ih (sym (faultless-next found m i q) ∙ e) k (omega arith) (omega arith)
      go false s q o ih = clash (sym (faulty_here found m i q) ∙ e)

-- ---- each clause holds, where all do

abbrev kept : Clause
kept = beside 0 true 0

holds_at : (cs : List Clause) → all_hold cs ≡ true → (m : ℕ) → (get_or cs m kept).holds ≡ true
holds_at [] e m = refl
holds_at (c ∷ cs) e zero = and_l c.holds (all_hold cs) e
holds_at (c ∷ cs) e (suc m) = holds_at cs (and_r c.holds (all_hold cs) e) m

-- ---- a row

module _ (line : ℕ → ℕ) (vs : List Version) where
  abbrev meets : ℕ → ℕ → ℕ → Bool
  meets n i j = eqb (line_at line vs j) (line_at line vs i) && collide n (version_at vs j) (version_at vs i)

  fine-holds : (i : ℕ) → is_none (row_found line vs i) ≡ all_hold (line_clauses line vs i)
  unfolding row_found
  fine-holds i = none_broken (line_clauses line vs i) None ∙ and-true (all_hold (line_clauses line vs i))

  -- it may stand with each before it of its line: so it has no rival
  clear_fine : (i : ℕ) → ((j : ℕ) → j < i → line_at line vs j ≡ line_at line vs i → Clear (version_at vs j) (version_at vs i))
      → is_none (row_found line vs i) ≡ true
  clear_fine i f = fine-holds i ∙ rw (none 33, none 34, none 35, none 36)
    where
      none : (n : ℕ) → rival n line vs i ≡ 0
      none n = nearest_none (meets n i) i (λ j k. go j k (eqb (line_at line vs j) (line_at line vs i)) refl)
        where
          go : (j : ℕ) → j < i → (s : Bool) → eqb (line_at line vs j) (line_at line vs i) ≡ s
              → (s && collide n (version_at vs j) (version_at vs i)) ≡ false
          go j k true e = clear_apart n (version_at vs j) (version_at vs i) (f j k (eqb-true _ _ e))
          go j k false e = refl

  -- and the other way round
  fine_clear : (i : ℕ) → is_none (row_found line vs i) ≡ true → (j : ℕ) → j < i → line_at line vs j ≡ line_at line vs i
      → Clear (version_at vs j) (version_at vs i)
  fine_clear i e j k l = record {
    number = λ q. clash (sym (apart 36 (at 3)) ∙ eq-eqb _ _ q);
    lives = λ a b. clash (sym (apart 33 (at 0)) ∙ both_true (live (version_at vs j)) (live (version_at vs i)) a b);
    sent = λ a b. clash (sym (apart 34 (at 1)) ∙ both_true (sends (version_at vs j)) (sends (version_at vs i)) a b);
    work = λ a b. clash (sym (apart 35 (at 2)) ∙ both_true (worked (version_at vs j)) (worked (version_at vs i)) a b);
  }
    where
      at : (m : ℕ) → (get_or (line_clauses line vs i) m kept).holds ≡ true
      at = holds_at (line_clauses line vs i) (sym (fine-holds i) ∙ e)

      apart : (n : ℕ) → eqb (rival n line vs i) 0 ≡ true → collide n (version_at vs j) (version_at vs i) ≡ false
      apart n z = subst (λ (s : Bool). (s && collide n (version_at vs j) (version_at vs i)) ≡ false) (eq-eqb _ _ l)
          (nearest_zero (meets n i) i (eqb-true _ _ z) j k)

  -- ---- the whole answer

  -- NOTHING IS AT FAULT exactly where the lines are sound
  pub lines_verdict : is_none (line_fault line vs) ≡ sound_lines line vs
  unfolding line_fault
  lines_verdict = same (is_none (first_fault (row_found line vs) (length vs) 0)) (sound_lines line vs)
      (λ e. clear_lines line vs (clear e))
      (λ e. faultless (lines_clear line vs e))
    where
      clear : is_none (first_fault (row_found line vs) (length vs) 0) ≡ true → AllClear line vs
      clear e j i k h l = fine_clear i (all-fine (row_found line vs) (length vs) 0 e i (omega arith) (omega arith)) j k l

      faultless : AllClear line vs → is_none (first_fault (row_found line vs) (length vs) 0) ≡ true
      faultless f = fine-all (row_found line vs) (length vs) 0 (λ i a b. clear_fine i (λ j k l. f j i k (omega arith) l))

      same : (a b : Bool) → (a ≡ true → b ≡ true) → (b ≡ true → a ≡ true) → a ≡ b
      same true b f g = sym (f refl)
      same false true f g = g refl
      same false false f g = refl

  -- ---- what is at fault has a clause's number

  row_numbered : (i : ℕ) → numbered_found (row_found line vs i) ≡ true
  unfolding row_found
  row_numbered i = broken_numbered (line_clauses line vs i) None refl refl

  pub line_numbered : numbered_fault (line_fault line vs) ≡ true
  unfolding line_fault
  line_numbered = first_numbered (row_found line vs) row_numbered (length vs) 0

  -- CLAUSE 0 IS TOLD exactly where the lines are sound
  pub lines_told : is_faultless (told (line_fault line vs)) ≡ sound_lines line vs
  lines_told = told_faultless (line_fault line vs) line_numbered ∙ lines_verdict
