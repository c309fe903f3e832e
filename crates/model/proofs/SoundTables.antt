-- A sound table as a test and as facts; and every step leaves one. [V12]
-- Assumes nothing.
use mathlib.Core.Path.{◌≡◌, refl, sym, ap, ◌∙◌, subst}
use Prim.Native.Nat.{ℕ, ◌+◌, ◌≤◌, ◌<◌, Ordering}
use mathlib.Core.Bool.{Bool, true, false, cond}
use mathlib.Core.List.{List, [], ◌∷◌}
use mathlib.Core.Option.{Option, none as nothing, some}
use lib.Dec.{leb, ltb}
use lib.ListN.{length, get_or}
use native.Mathlib.Omega.{arith}
use borrow.Author.Tests.{eqb-true, eq-eqb, leb-true, le-leb, ltb-true, not-false}
use Rattle.model.specs.Basics.{all, keep, All, none, with}
use Rattle.model.specs.Books.{sound_retries}
use Rattle.model.specs.Table.{order, sel, Change, put, in_line, rows_of, changes}
use Rattle.model.specs.Sound.{sound_version, one_each, numbered, none_twice, sound_line, above, rising, sound_lines, sound_table, count}
use Rattle.model.specs.Sound.{live, sends, worked}
use Rattle.model.specs.Record.{is_create, well_formed}
use Rattle.model.specs.Outcomes.{is_done, create_order}
use Rattle.model.specs.Given.{Given, Result, with_number, rest, worked_one}
use Rattle.model.specs.Creates.{fresh_version, concurred}
use Rattle.model.specs.Broadcast.{opened, broadcasts}
use Rattle.model.specs.Selection.{selected_for}
use Rattle.model.specs.Answers.{answers, heard}
use Rattle.model.specs.Refusals.{full, refuses}
use Rattle.model.specs.Step.{manages, accepted, judged, Setting, after}
use Rattle.model.proofs.Lists.{clash, and_l, and_r, both_true, all_first, conj_at, conj_all, all_true, true_all, all_keep, all_both}
use Rattle.model.proofs.Lists.{head_of}
use Rattle.model.proofs.TableLaws.{Under, Rising, adds, length_changes}
use Rattle.model.proofs.Apart.{step_by, rows_rows}
use Rattle.model.proofs.Locality.{rule_in, local, adds_settles}
use Rattle.model.proofs.SoundRows.{Row, row_of, of_row}
use Rattle.model.proofs.SoundLines.{Line, Distinct, count_cons, first_none, distinct_changes, distinct_add}
use Rattle.model.proofs.Numbered.{with_number_lem}
use Rattle.model.proofs.SoundLaws.{Sound, sound_after}
use Rattle.model.proofs.Ways.{by_test, by_way, by_worked, by_kind, by_order}
use Rattle.model.proofs.Outcomes.{refusal_passed}
use Rattle.model.proofs.SoundStep.{keeps_rule}
use Rattle.model.specs.declared.Id.{Id}
use Rattle.model.specs.declared.Event.{Event}
use Rattle.model.specs.declared.Version.{Version}
use Rattle.model.specs.declared.Outcome.TheVariants.{Full}

-- ---- rising

rising_from : (k : Id) (l : List Version) → above k l ≡ true → Under k l × Rising l
rising_from k [] h = (tt, tt)
rising_from k (y ∷ ys) h = at (order k y.id) refl h (rising_from y.id ys)
  where
    at : (o : Ordering) → order k y.id ≡ o → sel o (above y.id ys) false false ≡ true
        → (above y.id ys ≡ true → Under y.id ys × Rising ys)
        → (order k y.id ≡ Ordering.lt) × (Under y.id ys × Rising ys)
    at Ordering.lt e q f = (e, f q)
    at Ordering.eq e q f = clash q
    at Ordering.gt e q f = clash q

pub rising_says : (t : List Version) → rising t ≡ true → Rising t
rising_says [] h = tt
rising_says (x ∷ xs) h = rising_from x.id xs h

from_rising : (k : Id) (l : List Version) → Under k l → Rising l → above k l ≡ true
from_rising k [] u r = refl
from_rising k (y ∷ ys) u r = rw u (from_rising y.id ys r.0 r.1)

pub says_rising : (t : List Version) → Rising t → rising t ≡ true
says_rising [] r = refl
says_rising (x ∷ xs) r = from_rising x.id xs r.0 r.1

-- ---- the rows of one number

each_says : (r : List Version) → one_each r ≡ true → Line r
unfolding one_each
each_says r h =
    let of : (i : ℕ) → get_or (leb (count live r) 1 ∷ leb (count sends r) 1 ∷ leb (count worked r) 1 ∷ []) i true ≡ true
    = conj_at (leb (count live r) 1 ∷ leb (count sends r) 1 ∷ leb (count worked r) 1 ∷ []) h in
    record {
      lives = leb-true (count live r) 1 (of 0);
      sends = leb-true (count sends r) 1 (of 1);
      works = leb-true
          (count worked r) 1 (of 2);
    }

says_each : (r : List Version) → Line r → one_each r ≡ true
unfolding one_each
says_each r l =
    conj_all (leb (count live r) 1 ∷ leb (count sends r) 1 ∷ leb (count worked r) 1 ∷ [])
    (with (le-leb (count live r) 1 l.lives)
    (with (le-leb (count sends r) 1 l.sends) (with (le-leb (count worked r) 1 l.works) none)))

-- no number twice
twice_says : (r : List Version) → none_twice r ≡ true → Distinct r
unfolding none_twice
twice_says r h = record { once = λ n. go n (with_number n r) refl }
  where
    go : (n : ℕ) (o : Option Version) → with_number n r ≡ o → count (numbered n) r ≤ 1
    go n nothing q = omega (arith, first_none (numbered n) r q)
    go n (some v) q =
        subst (λ (m : ℕ). count (numbered m) r ≤ 1) (with_number_lem n r v q)
        (leb-true (count (numbered v.id.number) r) 1
        (all_first (numbered n) v (all_true (λ (x : Version). leb (count (numbered x.id.number) r) 1) r h) q))

pub says_twice : (r : List Version) → Distinct r → none_twice r ≡ true
unfolding none_twice
says_twice r d = true_all (λ (x : Version). leb (count (numbered x.id.number) r) 1) (every r)
  where
    every : (l : List Version) → All (λ (x : Version). leb (count (numbered x.id.number) r) 1 ≡ true) l
    every [] = none
    every (x ∷ xs) = with (le-leb (count (numbered x.id.number) r) 1 (d.once x.id.number)) (every xs)

-- what the rows of a line must be
abbrev Whole : List Version → Type 0
Whole r = Line r × Distinct r

line_says : (r : List Version) → sound_line r ≡ true → Whole r
unfolding sound_line
line_says r h = (each_says r (and_l (one_each r) (none_twice r) h), twice_says r (and_r (one_each r) (none_twice r) h))

says_line : (r : List Version) → Whole r → sound_line r ≡ true
unfolding sound_line
says_line r w = both_true (one_each r) (none_twice r) (says_each r w.0) (says_twice r w.1)

lines_say : (line : ℕ → ℕ) (t : List Version) → sound_lines line t ≡ true → (l : ℕ) → Whole (rows_of line l t)
unfolding sound_lines
lines_say line t h l = go (rows_of line l t) refl
  where
    P : Version → Type 0
    P v = sound_line (rows_of line (line v.id.tn.0) t) ≡ true

    each : All (λ (v : Version). P v × (line v.id.tn.0 ≡ l)) (rows_of line l t)
    each = all_both (λ a p q. (p, q)) (all_keep _ (all_true (λ (v : Version). sound_line (rows_of line (line v.id.tn.0) t)) t h))
        (rows_rows line l t)

    go : (r : List Version) → rows_of line l t ≡ r → Whole (rows_of line l t)
    go [] q = rw q (record { lives = omega arith; sends = omega arith; works = omega arith }, record { once = λ n. omega arith })
    go (x ∷ xs) q =
        let f : P x × (line x.id.tn.0 ≡ l) = head_of (subst (All (λ (v : Version). P v × (line v.id.tn.0 ≡ l))) q each) in
        line_says (rows_of line l t) (subst (λ (m : ℕ). sound_line (rows_of line m t) ≡ true) f.1 f.0)

say_lines : (line : ℕ → ℕ) (t : List Version) → ((l : ℕ) → Whole (rows_of line l t)) → sound_lines line t ≡ true
unfolding sound_lines
say_lines line t f = true_all (λ (v : Version). sound_line (rows_of line (line v.id.tn.0) t)) (every t)
  where
    every : (l : List Version) → All (λ (v : Version). sound_line (rows_of line (line v.id.tn.0) t) ≡ true) l
    every [] = none
    every (x ∷ xs) = with (says_line (rows_of line (line x.id.tn.0) t) (f (line x.id.tn.0))) (every xs)

-- ---- a table

pub record SoundIn (line : ℕ → ℕ) (rows : ℕ) (t : List Version) : Type 0 where
  pub few : rows ≤ 4096
  pub held : length t ≤ rows
  pub sound : Sound line t

abbrev table_clauses : (ℕ → ℕ) → ℕ → List Version → List Bool
table_clauses line rows t = leb rows 4096 ∷ leb (length t) rows ∷ rising t ∷ all sound_version t ∷ sound_lines line t ∷ []

rows_say : (l : List Version) → All (λ (v : Version). sound_version v ≡ true) l → All Row l
rows_say [] none = none
rows_say (x ∷ xs) (with h hs) = with (row_of x h) (rows_say xs hs)

say_rows : (l : List Version) → All Row l → All (λ (v : Version). sound_version v ≡ true) l
say_rows [] none = none
say_rows (x ∷ xs) (with h hs) = with (of_row x h) (say_rows xs hs)

pub table_says : (line : ℕ → ℕ) (rows : ℕ) (t : List Version) → sound_table line rows t ≡ true → SoundIn line rows t
unfolding sound_table
table_says line rows t h =
    let of : (i : ℕ) → get_or (table_clauses line rows t) i true ≡ true = conj_at (table_clauses line rows t) h in
    record {
      few = leb-true rows 4096 (of 0);
      held = leb-true (length t) rows (of 1);
      sound = record {
        rising = rising_says t (of 2);
        rows = rows_say t (all_true sound_version t (of 3));
        lines = λ l. (lines_say line t (of 4) l).0;
        numbers = λ l. (lines_say line t (of 4) l).1;
      };
    }

pub says_table : (line : ℕ → ℕ) (rows : ℕ) (t : List Version) → SoundIn line rows t → sound_table line rows t ≡ true
unfolding sound_table
says_table line rows t s =
    conj_all (table_clauses line rows t)
    (with (le-leb rows 4096 s.few)
    (with (le-leb (length t) rows s.held)
    (with (says_rising t s.sound.rising)
    (with (true_all sound_version (say_rows t s.sound.rows))
    (with (say_lines line t (λ l. (s.sound.lines l, s.sound.numbers l))) none)))))

-- ---- a table that is sound by its lines is sound by its TNs

count_sub : (p q r : Version → Bool) (t : List Version) → ((v : Version) → q v ≡ true → r v ≡ true)
    → count p (keep q t) ≤ count p (keep r t)
count_sub p q r [] h = omega arith
count_sub p q r (x ∷ xs) h = go (q x) refl (r x) refl (count_sub p q r xs h)
  where
    go : (a : Bool) → q x ≡ a → (b : Bool) → r x ≡ b → count p (keep q xs) ≤ count p (keep r xs)
        → count p (keep q (x ∷ xs)) ≤ count p (keep r (x ∷ xs))
    go true e true f ih = rw (e, f) (omega (arith, count_cons p x (keep q xs), count_cons p x (keep r xs), ih))
    go true e false f ih = clash (sym f ∙ h x e)
    go false e true f ih = rw (e, f) (omega (arith, count_cons p x (keep r xs), ih))
    go false e false f ih = rw (e, f) ih

pub sound_narrow : (line : ℕ → ℕ) (rows : ℕ) (t : List Version) → SoundIn line rows t → SoundIn (λ (n : ℕ). n) rows t
sound_narrow line rows t s = record {
  few = s.few;
  held = s.held;
  sound = record {
    rising = s.sound.rising;
    rows = s.sound.rows;
    lines = λ n. record {
      lives = omega (arith, within n live, (s.sound.lines (line n)).lives);
      sends = omega (arith, within n sends, (s.sound.lines (line n)).sends);
      works = omega (arith, within n worked, (s.sound.lines (line n)).works);
    };
    numbers = λ n. record { once = λ m. omega (arith, within n (numbered m), (s.sound.numbers (line n)).once m) };
  };
}
  where
    within : (n : ℕ) (p : Version → Bool) → count p (rows_of (λ (m : ℕ). m) n t) ≤ count p (rows_of line (line n) t)
    within n p =
        count_sub p (λ (v : Version). in_line (λ (m : ℕ). m) n v.id) (λ (v : Version). in_line line (line n) v.id) t
        (λ v q. eq-eqb (line v.id.tn.0) (line n) (ap line (eqb-true v.id.tn.0 n q)))

-- ---- a row is added only where there is a free one

abbrev room : Bool → ℕ
room b = cond b 1 0

adds_manages : (g : Given) (v : Version) → adds (manages g.books g.event v (rest g)).does ≡ 0
unfolding broadcasts
adds_manages g v = by_way (λ (x : Result). adds x.does ≡ 0) g.books g.event v (rest g) (record {
  modify = λ _. refl;
  cancel = λ _. refl;
  acknowledge = λ _. refl;
  resolve = λ _. refl;
  mark = λ _ _. refl;
  turn = λ _ _. refl;
  broadcast = λ _. omega (arith, adds_settles (λ (n : ℕ). n) 0 (opened (selected_for g.books v.id.tn) g.event v) (rest g));
  purge = refl;
})

adds_answers : (g : Given) (v : Version) → adds (answers g.most g.event v (rest g)).does ≡ 0
unfolding answers
adds_answers g v = omega (arith, adds_settles (λ (n : ℕ). n) 0 (heard g.most g.event v) (rest g))

adds_room : (g : Given) → is_done (judged g) ≡ true → adds (accepted g).does ≤ room g.free
unfolding full
adds_room g d = by_kind (λ (x : Result). adds x.does ≤ room g.free) g (record {
  create = λ c. by_worked (λ (x : Result). adds x.does ≤ room g.free) g.event g.rows (λ q. rw (free c q) (omega arith))
      (λ v _. omega arith);
  answer = λ _ _ v _. omega (arith, adds_answers g v);
  manage = λ _ _ v _. omega (arith, adds_manages g v);
  unknown = omega arith;
})
  where
    free : is_create g.event.kind ≡ true → worked_one g.rows ≡ nothing → g.free ≡ true
    free c q = not-false g.free (rw q at (refusal_passed (refuses g) create_order Full refl refl (rw c at d)))

adds_rule : (s : Setting) (free : Bool) (e : Event) (r : List Version) → adds (rule_in s free e r).does ≤ room free
adds_rule s free e r =
    by_test (λ (x : Result). adds x.does ≤ room free) (well_formed e)
    (λ _. by_order (λ (x : Result). adds x.does ≤ room free) _ (λ d. adds_room _ d) (λ _. omega arith)) (λ _. omega arith)

-- ---- no number twice in a line, after any answer

distinct_accepted : (g : Given) → Distinct g.rows → Distinct (changes (accepted g).does g.rows)
unfolding fresh_version
distinct_accepted g d = by_kind (λ (x : Result). Distinct (changes x.does g.rows)) g (record {
  create = λ _. by_worked (λ (x : Result). Distinct (changes x.does g.rows)) g.event g.rows
      (λ _. distinct_add (fresh_version g.event g.rows) g.rows (omega arith) d)
      (λ v _. distinct_changes (put (concurred g.event v) ∷ []) g.rows refl d);
  answer = λ _ _ v _. distinct_changes (answers g.most g.event v (rest g)).does g.rows (adds_answers g v) d;
  manage = λ _ _ v _. distinct_changes (manages g.books g.event v (rest g)).does g.rows (adds_manages g v) d;
  unknown = d;
})

distinct_rule : (s : Setting) (free : Bool) (e : Event) (r : List Version) → Distinct r → Distinct (changes (rule_in s free e r).does r)
distinct_rule s free e r d =
    by_test (λ (x : Result). Distinct (changes x.does r)) (well_formed e)
    (λ _. by_order (λ (x : Result). Distinct (changes x.does r)) _ (λ _. distinct_accepted _ d) (λ _. d)) (λ _. d)

-- ---- every step

pub sound_rules : (line_of : ℕ → ℕ) (s : Setting) → sound_retries s.most ≡ true → (e : Event) (t : List Version)
    → SoundIn line_of s.rows t
    → SoundIn line_of s.rows (after (step_by line_of (rule_in s) s.rows) e t)
sound_rules line_of s small e t i = record {
  few = i.few;
  held = go (ltb (length t) s.rows) refl;
  sound = sound_after line_of (rule_in s) (local line_of s) s.rows (keeps_rule line_of s small) (distinct_rule s) e t i.sound;
}
  where
    cs : List Change
    cs = (step_by line_of (rule_in s) s.rows e t).does

    grown : length (changes cs t) ≤ length t + room (ltb (length t) s.rows)
    grown = omega (arith, length_changes cs t, adds_rule s (ltb (length t) s.rows) e (rows_of line_of (line_of e.tn.0) t))

    go : (b : Bool) → ltb (length t) s.rows ≡ b → length (changes cs t) ≤ s.rows
    go true q = let l : length t < s.rows = ltb-true (length t) s.rows q in let g : length (changes cs t) ≤ length t + 1 =
        rw q at grown in omega arith
    go false q = let g : length (changes cs t) ≤ length t + 0 = rw q at grown in omega (arith, i.held)
