-- No row is at fault exactly where the scan, the engine's own check, says sound. Assumes nothing.
use Prim.Native.Nat.{ℕ, zero, suc, ◌+◌, ◌*◌, ◌/◌, ◌%◌, ◌^◌, ◌≤◌, ◌<◌}
use mathlib.Core.Path.{◌≡◌, refl, sym, ap, ap₂, ◌∙◌, subst}
use mathlib.Core.Bool.{Bool, true, false, cond, not, ◌&&◌, and-true, and-false, and_assoc, or-true, or-false}
use mathlib.Core.List.{List}
use native.Mathlib.Numerals.{add-one}
use native.Mathlib.Omega.{arith}
use borrow.Author.Tests.{eq-eqb, ne_eqb, eqb-true, eqb-false, lt-ltb, ltb-true}
use lib.Dec.{eqb, ltb, leb}
use lib.ListN.{length, drop}
use Rattle.std.specs.Prelude.{Some, None}
use Rattle.std.specs.Option.{is_none}
use Rattle.faults.specs.Faults.{before, nearest, broken, first_fault, told, is_faultless}
use Rattle.faults.proofs.Laws.{not_leb, nearest-same, nearest_none, all_hold, none_broken, faultless-next, faulty_here}
use Rattle.faults.proofs.Laws.{numbered_found, numbered_fault, told_faultless, broken_numbered, first_numbered, free_numbered}
use Rattle.faults.proofs.Laws.{whole_numbered}
use Rattle.model.proofs.Lists.{and_l}
use Rattle.model.specs.declared.Broadcast.{Broadcast}
use Rattle.model.specs.declared.Version.{Version}
use Rattle.model.specs.Numbers.{is_set}
use Rattle.model.specs.Sound.{retries_in_range, cast_in_range, in_range, sound_version, live, sends, worked}
use Rattle.model.specs.Sound.{most_rows}
use Rattle.words.specs.Size.{ROW}
use Rattle.row.specs.Layout.{key_of, spareless}
use Rattle.row.proofs.Rooms.{sound_tn}
use Rattle.rows.specs.Table.{pieces_of}
use Rattle.rows.proofs.Sounds.{number_lt}
use Rattle.scan.specs.Join.{Group, start, second, either, follows, next, join_of}
use Rattle.std.specs.Prelude.{Option, is_some}
use Rattle.scan.specs.Sound.{Scan, Bad, Open, Ended, pick, admit_of, scan_row, scan_rows, scan_of, said_by, soundness_of}
use Rattle.scan.proofs.Scans.{scan_step, scan_done, bad_stays}
use Rattle.tablefaults.specs.Clauses.{type_clauses, sets_in_range, rest_in_range, range_clauses, side_clauses, cast_clauses, words_at}
use Rattle.tablefaults.specs.Clauses.{version_at, key_at, free_at, form_clauses, sinks, sharer, beside_clauses, row_found, table_fault}

-- ---- a version by itself

-- the values of a broadcast, in the order of the numbers
cast_ranges : (c : Broadcast) → cast_in_range c ≡ (sets_in_range c && rest_in_range c)
unfolding cast_in_range
cast_ranges c = go (leb c.purpose 3) (ltb c.start (2 ^ 32)) (is_set c.confirmed) (is_set c.waiting) (is_set c.failed)
    (retries_in_range c.retries)
  where
    go : (p s a b d r : Bool) → (p && s && a && b && d && r) ≡ ((a && b && d) && (p && s && r))
    go true true true true true r = refl
    go true true true true false r = refl
    go true true true false d r = refl
    go true true false b d r = refl
    go true false a b d r = sym (and-false (a && b && d))
    go false s a b d r = sym (and-false (a && b && d))

-- the clauses by itself are those of a sound version
pub alone_sound : (v : Version)
    → (all_hold (range_clauses v) && (all_hold (side_clauses v) && (all_hold (cast_clauses v) && all_hold (type_clauses v))))
    ≡ sound_version v
unfolding sound_version in_range
alone_sound v = rw (cast_ranges v.cast) (simp (and_assoc, and-true))

-- ---- what the rows before have, as the scan carries it

module _ (t : List ℕ) where
  abbrev tn_at : ℕ → ℕ
  tn_at j = (version_at t j).id.tn.0

  -- the rows before row i that are of number m
  abbrev had : (Version → Bool) → ℕ → ℕ → ℕ
  had p m i = nearest (λ (j : ℕ). eqb (tn_at j) m && p (version_at t j)) i

  -- no row before row i is of a number above m
  abbrev Low : ℕ → ℕ → Type 0
  Low m i = (j : ℕ) → j < i → tn_at j ≤ m

  higher : (m i n : ℕ) → Low m i → m < n → (j : ℕ) → j < i → eqb (tn_at j) n ≡ false
  higher m i n low h j k =
      let l : tn_at j ≤ m = low j k in
      ne_eqb (tn_at j) n (λ e. absurd (omega arith))

  module _ (p : Version → Bool) (m i : ℕ) (low : Low m i) (b : Bool) (is : eqb (had p m i) 0 ≡ not b) (v : Version)
      (up : m ≤ v.id.tn.0) where
    -- a version that comes next shares it with one before exactly where the last number is its own and has it
    pub shares : eqb (nearest (λ (j : ℕ). eqb (tn_at j) v.id.tn.0 && p (version_at t j) && p v) i) 0
        ≡ not (second (eqb v.id.tn.0 m) b (p v))
    shares = go (p v) (eqb v.id.tn.0 m) refl
      where
        own : v.id.tn.0 ≡ m → (j : ℕ) → j < i → (eqb (tn_at j) v.id.tn.0 && p (version_at t j) && true)
            ≡ (eqb (tn_at j) m && p (version_at t j))
        own e j k = and-true (eqb (tn_at j) v.id.tn.0 && p (version_at t j)) ∙ ap (λ (n : ℕ). eqb (tn_at j) n && p (version_at t j)) e

        go : (x s : Bool) → eqb v.id.tn.0 m ≡ s → eqb (nearest (λ (j : ℕ). eqb (tn_at j) v.id.tn.0 && p (version_at t j) && x) i) 0
            ≡ not (second s b x)
        go false s e = rw (
          nearest_none (λ (j : ℕ). eqb (tn_at j) v.id.tn.0 && p (version_at t j) && false) i
              (λ j k. and-false (eqb (tn_at j) v.id.tn.0 && p (version_at t j))),
          and-false,
        )
        go true true e = ap (λ (n : ℕ). eqb n 0) (nearest-same _ _ i (own (eqb-true _ _ e))) ∙ is ∙ ap not (sym (and-true b))
        go true false e =
            let ne : (v.id.tn.0 ≡ m → ⊥) = eqb-false _ _ e in
            let h : m < v.id.tn.0 = omega arith in
            ap (λ (n : ℕ). eqb n 0) (nearest_none _ i (λ j k. rw (higher m i v.id.tn.0 low h j k)))

    -- and what its number has then
    pub has_then : v ≡ version_at t i → eqb (had p v.id.tn.0 (suc i)) 0 ≡ not (either (eqb v.id.tn.0 m) b (p v))
    unfolding nearest
    has_then ev = ap (λ (u : Version). eqb (cond (eqb u.id.tn.0 v.id.tn.0 && p u) (suc i) (had p v.id.tn.0 i)) 0) (sym ev)
        ∙ rw (eq-eqb v.id.tn.0 v.id.tn.0 refl) (go (p v) (eqb v.id.tn.0 m) refl)
      where
        go : (x s : Bool) → eqb v.id.tn.0 m ≡ s → eqb (cond x (suc i) (had p v.id.tn.0 i)) 0 ≡ not (either s b x)
        go true s e = ne_eqb (suc i) 0 (λ z. absurd (omega arith)) ∙ ap not (sym (or-true (s && b)))
        go false true e = ap (λ (n : ℕ). eqb (had p n i) 0) (eqb-true _ _ e) ∙ is ∙ ap not (sym (or-false b))
        go false false e =
            let ne : (v.id.tn.0 ≡ m → ⊥) = eqb-false _ _ e in
            let h : m < v.id.tn.0 = omega arith in
            ap (λ (n : ℕ). eqb n 0) (nearest_none _ i (λ j k. rw (higher m i v.id.tn.0 low h j k)))

  -- what the scan carries to row i says what the rows before it have
  pub record Carried (i : ℕ) (g : Group) : Type 0 where
    pub used : before (free_at t) i ≡ false
    pub rises : (v : Version) → 0 < key_of v.id → not (before (sinks t v) i) ≡ ltb g.last (key_of v.id)
    pub low : Low (g.last / 65536) i
    pub lives : eqb (had live (g.last / 65536) i) 0 ≡ not g.live
    pub sent : eqb (had sends (g.last / 65536) i) 0 ≡ not g.sends
    pub work : eqb (had worked (g.last / 65536) i) 0 ≡ not g.worked

  carried_start : Carried 0 start
  unfolding nearest
  carried_start = record {
    used = refl;
    rises = λ v h. sym (lt-ltb 0 (key_of v.id) h);
    low = λ j h. absurd (omega arith);
    lives = refl;
    sent = refl;
    work = refl;
  }

  module _ (i : ℕ) (g : Group) (c : Carried i g) (s : sound_version (version_at t i) ≡ true) where
    abbrev v : Version
    v = version_at t i

    tn : key_of v.id / 65536 ≡ v.id.tn.0
    tn =
        let b : v.id.number < 65536 = number_lt v s in
        omega arith

    up : g.last < key_of v.id → g.last / 65536 ≤ v.id.tn.0
    up h =
        let b : v.id.number < 65536 = number_lt v s in
        omega arith

    -- the clauses with others are what the scan asks of the next row
    pub beside-follows : all_hold (beside_clauses t i v) ≡ follows g v
    unfolding follows
    beside-follows = ap (λ (b : Bool). b && (eqb (sharer live t i v) 0 && (eqb (sharer sends t i v) 0
        && (eqb (sharer worked t i v) 0 && true))))
        (c.rises v (omega (arith, sound_tn v s))) ∙ go (ltb g.last (key_of v.id)) refl
      where
        go : (b : Bool) → ltb g.last (key_of v.id) ≡ b
            → (b && (eqb (sharer live t i v) 0 && (eqb (sharer sends t i v) 0 && (eqb (sharer worked t i v) 0 && true))))
            ≡ (b && not (second (eqb v.id.tn.0 (g.last / 65536)) g.live (live v))
            && not (second (eqb v.id.tn.0 (g.last / 65536)) g.sends (sends v))
            && not (second (eqb v.id.tn.0 (g.last / 65536)) g.worked (worked v)))
        go true e =
            let h = up (ltb-true _ _ e) in
            rw (
              shares live (g.last / 65536) i c.low g.live c.lives v h,
              shares sends (g.last / 65536) i c.low g.sends
                  c.sent v h,
              shares worked (g.last / 65536) i c.low g.worked c.work v h,
            )
            (simp (and_assoc, and-true))
        go false e = refl

    -- and what it carries to the row behind
    pub carried_next : g.last < key_of v.id → free_at t i ≡ false → Carried (suc i) (next g v)
    unfolding next
    carried_next h f = record {
      used = f;
      rises = λ u k. not_leb (key_of u.id) (key_of v.id);
      low = λ j k. rw tn (below j k (eqb j i) refl);
      lives = rw tn (has_then live (g.last / 65536) i c.low g.live c.lives v (up h) refl);
      sent = rw tn (has_then sends (g.last / 65536) i c.low g.sends c.sent v (up h) refl);
      work = rw tn (has_then worked (g.last / 65536) i c.low g.worked c.work v (up h) refl);
    }
      where
        below : (j : ℕ) → j < suc i → (b : Bool) → eqb j i ≡ b → tn_at j ≤ v.id.tn.0
        below j k true e = subst (λ (n : ℕ). tn_at n ≤ v.id.tn.0) (sym (eqb-true j i e)) (omega arith)
        below j k false e =
            let ne : (j ≡ i → ⊥) = eqb-false j i e in
            let l : tn_at j ≤ g.last / 65536 = c.low j (omega arith) in
            omega (arith, up h)

  -- ---- one row

  -- behind a free row a used one is at fault
  behind_free : (i : ℕ) → before (free_at t) i ≡ true → free_at t i ≡ false → is_none (row_found t i) ≡ false
  unfolding row_found
  behind_free i b f = rw (f, b)

  free_fine : (i : ℕ) → free_at t i ≡ true → is_none (row_found t i) ≡ true
  unfolding row_found
  free_fine i f = rw f

  -- any other used row is at fault exactly where the scan stops
  used-fine : (i : ℕ) (g : Group) → Carried i g → free_at t i ≡ false
      → is_none (row_found t i) ≡ (spareless (words_at t i) && (sound_version (version_at t i) && follows g (version_at t i)))
  unfolding row_found
  used-fine i g c f =
      rw f
      (none_broken (form_clauses t i (words_at t i)) _
      ∙ ap₂ (λ (x y : Bool). x && y) form
      (none_broken (range_clauses v) _
      ∙ ap (λ (x : Bool). all_hold (range_clauses v) && x)
      (none_broken (side_clauses v) _
      ∙ ap (λ (x : Bool). all_hold (side_clauses v) && x)
      (none_broken (cast_clauses v) _
      ∙ ap (λ (x : Bool). all_hold (cast_clauses v) && x)
      (none_broken (beside_clauses t i v) _
      ∙ ap (λ (x : Bool). all_hold (beside_clauses t i v) && x)
      (none_broken (type_clauses v) _ ∙ and-true (all_hold (type_clauses v))))))
      ∙ group (all_hold (range_clauses v)) (all_hold (side_clauses v)) (all_hold (cast_clauses v)) (all_hold (beside_clauses t i v))
      (all_hold (type_clauses v))
      ∙ ap (λ (x : Bool). x && all_hold (beside_clauses t i v)) (alone_sound v)
      ∙ go (sound_version v) refl))
    where
      v : Version
      v = version_at t i

      form : all_hold (form_clauses t i (words_at t i)) ≡ spareless (words_at t i)
      form = rw c.used (and-true (spareless (words_at t i)))

      group : (a b c d e : Bool) → (a && (b && (c && (d && e)))) ≡ ((a && (b && (c && e))) && d)
      group true true true true e = sym (and-true e)
      group true true true false e = sym (and-false e)
      group true true false d e = refl
      group true false c d e = refl
      group false b c d e = refl

      go : (s : Bool) → sound_version (version_at t i) ≡ s → (s && all_hold (beside_clauses t i (version_at t i)))
          ≡ (s && follows g (version_at t i))
      go true e = beside-follows i g c e
      go false e = refl

  -- ---- all rows

  abbrev pub accepted : Scan → Bool
  accepted Bad = false
  accepted (Open n g) = true
  accepted (Ended n) = true

  abbrev scanned : Scan → ℕ → Scan
  scanned s i = scan_rows s (drop i (pieces_of t))

  step : (i : ℕ) (s r : Scan) → i < length t / ROW → scan_row s (words_at t i) ≡ r → scanned s i ≡ scanned r (suc i)
  step i s r h e = scan_step t i s h ∙ ap₂ (λ (x : Scan) (k : ℕ). scan_rows x (drop k (pieces_of t))) e (add-one i)

  stops : (i : ℕ) (s : Scan) → i < length t / ROW → scan_row s (words_at t i) ≡ Bad → accepted (scanned s i) ≡ false
  stops i s h e = ap accepted (step i s Bad h e ∙ bad_stays (drop (suc i) (pieces_of t)))

  -- behind a free row
  ended_agrees : (m i n : ℕ) → i + m ≡ length t / ROW → before (free_at t) i ≡ true
      → accepted (scanned (Ended n) i) ≡ is_none (first_fault (row_found t) m i)
  unfolding first_fault scan_row
  ended_agrees zero i n h b = ap accepted (scan_done t i (Ended n) (omega arith))
  ended_agrees (suc m) i n h b = go (free_at t i) refl (ended_agrees m (suc i) n (omega arith))
    where
      go : (f : Bool) → free_at t i ≡ f
          → (free_at t i ≡ true → accepted (scanned (Ended n) (suc i)) ≡ is_none (first_fault (row_found t) m (suc i)))
          → accepted (scanned (Ended n) i) ≡ is_none (first_fault (row_found t) (suc m) i)
      go true f ih = ap accepted (step i (Ended n) (Ended n) (omega arith) (rw f)) ∙ ih f
          ∙ sym (faultless-next (row_found t) m i (free_fine i f))
      go false f ih = stops i (Ended n) (omega arith) (rw f) ∙ sym (faulty_here (row_found t) m i (behind_free i b f))

  -- among the used rows
  open_agrees : (m i n : ℕ) (g : Group) → i + m ≡ length t / ROW → Carried i g
      → accepted (scanned (Open n g) i) ≡ is_none (first_fault (row_found t) m i)
  unfolding first_fault scan_row admit_of join_of follows
  open_agrees zero i n g h c = ap accepted (scan_done t i (Open n g) (omega arith))
  open_agrees (suc m) i n g h c =
      go (free_at t i) (spareless (words_at t i)) (sound_version (version_at t i)) (follows g (version_at t i)) refl refl refl refl
      (ended_agrees m (suc i) n (omega arith)) (open_agrees m (suc i) (n + 1) (next g (version_at t i)) (omega arith))
    where
      rises : follows g (version_at t i) ≡ true → g.last < key_at t i
      rises e = ltb-true _ _ (and_l _ _ (and_l _ _ (and_l _ _ e)))

      go : (f a s w : Bool) → free_at t i ≡ f → spareless (words_at t i) ≡ a → sound_version (version_at t i) ≡ s
          → follows g (version_at t i) ≡ w
          → (free_at t i ≡ true → accepted (scanned (Ended n) (suc i)) ≡ is_none (first_fault (row_found t) m (suc i)))
          → (Carried (suc i) (next g (version_at t i)) → accepted (scanned (Open (n + 1) (next g (version_at t i))) (suc i))
          ≡ is_none (first_fault (row_found t) m (suc i)))
          → accepted (scanned (Open n g) i) ≡ is_none (first_fault (row_found t) (suc m) i)
      go true a s w f ea es ew ie io = ap accepted (step i (Open n g) (Ended n) (omega arith) (rw f)) ∙ ie f
          ∙ sym (faultless-next (row_found t) m i (free_fine i f))
      go false true true true f ea es ew ie io =
          ap accepted (step i (Open n g) (Open (n + 1) (next g (version_at t i))) (omega arith) (rw (f, ea, es, ew)))
          ∙ io (carried_next i g c es (rises ew) f)
          ∙ sym (faultless-next (row_found t) m i (used-fine i g c f ∙ rw (ea, es, ew)))
      go false true true false f ea es ew ie io =
          stops i (Open n g) (omega arith) (rw (f, ea, es, ew)) ∙ sym (faulty_here (row_found t) m i (used-fine i g c f ∙ rw (ea, es, ew)))
      go false true false w f ea es ew ie io =
          stops i (Open n g) (omega arith) (rw (f, ea, es)) ∙ sym (faulty_here (row_found t) m i (used-fine i g c f ∙ rw (ea, es)))
      go false false s w f ea es ew ie io = stops i (Open n g) (omega arith) (rw (f, ea))
          ∙ sym (faulty_here (row_found t) m i (used-fine i g c f ∙ rw ea))

-- ---- the whole answer

abbrev pub is_sound : Option ℕ → Bool
is_sound s = is_some s

-- NOTHING IS AT FAULT exactly where the engine's own check says sound
pub table_verdict : (t : List ℕ) → is_none (table_fault t) ≡ is_sound (soundness_of t)
unfolding table_fault soundness_of scan_of
table_verdict t = go (eqb (length t % ROW) 0) (leb (length t) (most_rows * ROW))
  where
    said : (s : Scan) → accepted t s ≡ is_sound (said_by s)
    said Bad = refl
    said (Open n g) = refl
    said (Ended n) = refl

    go : (a b : Bool) → is_none (cond a (cond b (first_fault (row_found t) (length t / ROW) 0) (Some (broken 2))) (Some (broken 1)))
        ≡ is_sound (said_by (pick a (pick b (scan_rows (Open 0 start) (pieces_of t)) Bad) Bad))
    go true true = sym (open_agrees t (length t / ROW) 0 0 start (omega arith) (carried_start t))
        ∙ said (scan_rows (Open 0 start) (pieces_of t))
    go true false = refl
    go false b = refl

-- what is at fault has a clause's number
row_numbered : (t : List ℕ) (i : ℕ) → numbered_found (row_found t i) ≡ true
unfolding row_found
row_numbered t i =
    let v = version_at t i in
    free_numbered (free_at t i) _
    (broken_numbered (form_clauses t i (words_at t i)) _ refl
    (broken_numbered (range_clauses v) _ refl
    (broken_numbered (side_clauses v) _ refl
    (broken_numbered (cast_clauses v) _ refl
    (broken_numbered (beside_clauses t i v) _ refl (broken_numbered (type_clauses v) None refl refl))))))

pub table_numbered : (t : List ℕ) → numbered_fault (table_fault t) ≡ true
unfolding table_fault
table_numbered t =
    whole_numbered (eqb (length t % ROW) 0) _ _
    (whole_numbered (leb (length t) (most_rows * ROW)) _ _ (first_numbered (row_found t) (row_numbered t) (length t / ROW) 0) refl) refl

-- CLAUSE 0 IS TOLD exactly where the engine's own check says sound
pub table_told : (t : List ℕ) → is_faultless (told (table_fault t)) ≡ is_sound (soundness_of t)
table_told t = told_faultless (table_fault t) (table_numbered t) ∙ table_verdict t
