-- The laws of `specs/Sound.antt`: a turn of the loop, and what a table of sound rows is. Assumes nothing.
use mathlib.Core.Path.{◌≡◌, refl, sym, ap, ap₂, ◌∙◌, subst}
use mathlib.Core.Bool.{Bool, true, false, ◌&&◌, and-false}
use borrow.Author.Tests.{ne_eqb}
use mathlib.Core.Logic.{◌⊎◌, inl, inr, ⊎_elim}
use mathlib.Core.List.{List, [], ◌∷◌, ◌++◌, map}
use Prim.Native.Nat.{ℕ, zero, suc, ◌+◌, ◌-◌, ◌*◌, ◌/◌, ◌%◌, ◌≤◌, ◌<◌, zero-le}
use native.Mathlib.Nat.{add-zero, zero-add, sub-zero, suc-sub-suc}
use native.Mathlib.Omega.{arith}
use native.Mathlib.Numerals.{add-one}
use lib.ListN.{length, take, drop, replicate, drop_of_length-le}
use lib.Seq.{drop-cons, get_or-drop}
use Rattle.octets.specs.Octets.{Bytes}
use Rattle.model.specs.declared.Version.{Version}
use Rattle.model.specs.Sound.{sound_version}
use Rattle.words.specs.declared.Words.{Words}
use Rattle.words.specs.Size.{ROW}
use Rattle.words.specs.Codec.{words_in, is_blank, blank}
use Rattle.row.specs.Layout.{version_of, spareless, pack, unpack}
use Rattle.row.proofs.Rooms.{sound_room, sound_tn}
use Rattle.row.proofs.Packs.{unpack-pack, pack-unpack, pack-spareless, blank_row, blank_free, pack-used}
use Rattle.std.specs.Prelude.{None, Some}
use Rattle.rows.specs.Chunks.{chunks, joined}
use Rattle.rows.specs.Place.{row_at}
use Rattle.rows.specs.Table.{pieces_of, used, decode, cells, encode}
use Rattle.scan.specs.Join.{Group, start, follows, next, join_if, join_of, Chain}
use Rattle.scan.specs.Sound.{Scan, Bad, Open, Ended, pick, admit_of, open_by, scan_row, scan_rows, rows_in}
use Rattle.rows.proofs.Pieces.{Even, chunks_even, chunks-joined}
use Rattle.rows.proofs.Sounds.{AllSound}
use Rattle.rows.proofs.Tables.{rows_length, rows_at, rows_encode}

-- ---- a turn of the loop

pub scan_step : (t : List ℕ) (i : ℕ) (s : Scan) → i < length t / ROW
    → scan_rows s (drop i (pieces_of t)) ≡ scan_rows (scan_row s (words_in (row_at t i))) (drop (i + 1) (pieces_of t))
unfolding scan_rows
scan_step t i s h =
    ap (scan_rows s) (drop-cons (pieces_of t) i [] (rw (rows_length t) h))
    ∙ ap₂ (λ (b : List ℕ) (k : ℕ). scan_rows (scan_row s (words_in b)) (drop k (pieces_of t))) (rows_at t i h) (sym (add-one i))

pub scan_done : (t : List ℕ) (i : ℕ) (s : Scan) → length t / ROW ≤ i → scan_rows s (drop i (pieces_of t)) ≡ s
unfolding scan_rows
scan_done t i s h = ap (scan_rows s) (drop_of_length-le (pieces_of t) {i = i} (rw (rows_length t) h))

pub bad_stays : (bs : List (List ℕ)) → scan_rows Bad bs ≡ Bad
unfolding scan_rows scan_row
bad_stays [] = refl
bad_stays (b ∷ bs) = bad_stays bs

no_tn : (w : Words) → w.head ≡ 0 → 0 < (version_of w).id.tn.0 → ⊥
unfolding version_of
no_tn w z h =
    let p : 0 < 0 / 1073741824 % 17179869184 = rw z at h in
    omega arith

-- a row whose first word is 0 is no version's: it ends the used rows, or is unsound
no_version : (w : Words) → w.head ≡ 0 → sound_version (version_of w) ≡ false
no_version w z = go (sound_version (version_of w)) refl
  where
    go : (b : Bool) → sound_version (version_of w) ≡ b → b ≡ false
    go true e = absurd (no_tn w z (sound_tn (version_of w) e))
    go false e = refl

open_zero : (n : ℕ) (g : Group) (w : Words) → w.head ≡ 0 → scan_row (Open n g) w ≡ scan_row (Ended n) w
unfolding scan_row admit_of
open_zero n g w z = ap (λ (b : Bool). pick (is_blank w) (Ended n) (open_by n (join_if (spareless w && b) (join_of g (version_of w)) None)))
    (no_version w z) ∙ rw and-false

head_used : (w : Words) → (w.head ≡ 0 → ⊥) → is_blank w ≡ false
unfolding is_blank
head_used w h = rw (ne_eqb w.head 0 h)

module _ (t : List ℕ) (i : ℕ) (h : i < length t / ROW) where
  -- a free row after the used ones leaves it to the next, and any other is unsound
  pub ended_next : (n : ℕ) → is_blank (words_in (row_at t i)) ≡ true → scan_rows (Ended n) (drop (i + 1) (pieces_of t))
      ≡ scan_rows (Ended n) (drop i (pieces_of t))
  unfolding scan_row
  ended_next n e = sym (scan_step t i (Ended n) h ∙ rw e)

  pub ended_bad : (n : ℕ) → is_blank (words_in (row_at t i)) ≡ false → Bad ≡ scan_rows (Ended n) (drop i (pieces_of t))
  unfolding scan_row
  ended_bad n e = sym (scan_step t i (Ended n) h ∙ rw e (bad_stays (drop (i + 1) (pieces_of t))))

  -- the same among the used ones
  module _ (n : ℕ) (g : Group) (w : Words) (hw : w ≡ words_in (row_at t i)) where
    pub open_ends : w.head ≡ 0 → scan_rows (Ended n) (drop i (pieces_of t)) ≡ scan_rows (Open n g) (drop i (pieces_of t))
    open_ends z =
        scan_step t i (Ended n) h ∙ ap (λ (s : Scan). scan_rows s (drop (i + 1) (pieces_of t)))
        (sym (open_zero n g (words_in (row_at t i)) (rw hw at z)))
        ∙ sym (scan_step t i (Open n g) h)

    pub open_next : (next : Group) → (w.head ≡ 0 → ⊥) → admit_of g w ≡ Some next
        → scan_rows (Open (n + 1) next) (drop (i + 1) (pieces_of t))
        ≡ scan_rows (Open n g) (drop i (pieces_of t))
    unfolding scan_row
    open_next next u e = sym (scan_step t i (Open n g) h ∙ rw (sym hw, head_used w u, e))

    pub open_bad : (w.head ≡ 0 → ⊥) → admit_of g w ≡ None → Bad ≡ scan_rows (Open n g) (drop i (pieces_of t))
    unfolding scan_row
    open_bad u e = sym (scan_step t i (Open n g) h ∙ rw (sym hw, head_used w u, e) (bad_stays (drop (i + 1) (pieces_of t))))

-- ---- what one row can do

-- the scan is not refused, and counts n used rows
abbrev pub Counts : Scan → ℕ → Type 0
Counts Bad n = ⊥
Counts (Open m g) n = m ≡ n
Counts (Ended m) n = m ≡ n

bad_none : (bs : List (List ℕ)) (n : ℕ) → Counts (scan_rows Bad bs) n → ⊥
bad_none bs n h = subst (λ (s : Scan). Counts s n) (bad_stays bs) h

pub record Free (s : Scan) (n : ℕ) (w : Words) : Type 0 where
  pub zeros : is_blank w ≡ true
  pub gives : scan_row s w ≡ Ended n

pub record Taken (n : ℕ) (g : Group) (w : Words) : Type 0 where
  pub used_up : is_blank w ≡ false
  pub spare : spareless w ≡ true
  pub sound : sound_version (version_of w) ≡ true
  pub follow : follows g (version_of w) ≡ true
  pub gives : scan_row (Open n g) w ≡ Open (n + 1) (next g (version_of w))

after_free : (n : ℕ) (w : Words) → Free (Ended n) n w ⊎ (scan_row (Ended n) w ≡ Bad)
unfolding scan_row
after_free n w = go (is_blank w) refl
  where
    go : (a : Bool) → is_blank w ≡ a → Free (Ended n) n w ⊎ (scan_row (Ended n) w ≡ Bad)
    go true p = inl (record { zeros = p; gives = rw p })
    go false p = inr (rw p)

after_used : (n : ℕ) (g : Group) (w : Words) → Free (Open n g) n w ⊎ (Taken n g w ⊎ (scan_row (Open n g) w ≡ Bad))
unfolding scan_row admit_of join_of
after_used n g w = go (is_blank w) (spareless w) (sound_version (version_of w)) (follows g (version_of w)) refl refl refl refl
  where
    go : (a b c d : Bool) → is_blank w ≡ a → spareless w ≡ b → sound_version (version_of w) ≡ c → follows g (version_of w) ≡ d
        → Free (Open n g) n w ⊎ (Taken n g w ⊎ (scan_row (Open n g) w ≡ Bad))
    go true b c d p q r s = inl (record { zeros = p; gives = rw p })
    go false true true true p q r s = inr (inl (record { used_up = p; spare = q; sound = r; follow = s; gives = rw (p, q, r, s) }))
    go false true true false p q r s = inr (inr (rw (p, q, r, s)))
    go false true false d p q r s = inr (inr (rw (p, q, r)))
    go false false c d p q r s = inr (inr (rw (p, q)))

-- ---- the rows of a table that is not refused

abbrev pub AllBytes : List (List ℕ) → Type 0
AllBytes [] = Unit {0}
AllBytes (b ∷ bs) = Bytes b × AllBytes bs

ended_rows : (bs : List (List ℕ)) (n m : ℕ) → Even ROW bs → AllBytes bs → Counts (scan_rows (Ended n) bs) m
    → (bs ≡ replicate (length bs) blank) × (n ≡ m)
unfolding scan_rows
ended_rows [] n m e y h = (refl, h)
ended_rows (b ∷ bs) n m e y h =
    ⊎_elim
    (λ w.
    let rest = ended_rows bs n m e.1 y.1 (subst (λ (s : Scan). Counts (scan_rows s bs) m) w.gives h) in
    (ap₂ (λ (x : List ℕ) (xs : List (List ℕ)). x ∷ xs) (blank_row b e.0 y.0 w.zeros) rest.0, rest.1))
    (λ w. absurd (bad_none bs m (subst (λ (s : Scan). Counts (scan_rows s bs) m) w h)))
    (after_free n (words_in b))

-- the rows from here on say vs, and nothing else
pub record Says (vs : List Version) (g : Group) (n m : ℕ) (bs : List (List ℕ)) : Type 0 where
  pub rows_are : bs ≡ map pack vs ++ replicate (length bs - length vs) blank
  pub chain : Chain g vs
  pub sound : AllSound vs
  pub count : n + length vs ≡ m
  pub few : length vs ≤ length bs

used_free : (b : List ℕ) (bs : List (List ℕ)) → is_blank (words_in b) ≡ true → used (b ∷ bs) ≡ []
unfolding used
used_free b bs h = rw h

used_more : (b : List ℕ) (bs : List (List ℕ)) → is_blank (words_in b) ≡ false → used (b ∷ bs) ≡ unpack b ∷ used bs
unfolding used
used_more b bs h = rw h

open_rows : (bs : List (List ℕ)) (n : ℕ) (g : Group) (m : ℕ) → Even ROW bs → AllBytes bs → Counts (scan_rows (Open n g) bs) m
    → Says (used bs) g n m bs
unfolding scan_rows used unpack
open_rows [] n g m e y h = record { rows_are = refl; chain = tt; sound = tt; count = add-zero n ∙ h; few = zero-le }
open_rows (b ∷ bs) n g m e y h =
    ⊎_elim free
    (⊎_elim (more (λ z. open_rows bs (n + 1) (next g (unpack b)) m e.1 y.1 z))
    (λ w. absurd (bad_none bs m (subst (λ (s : Scan). Counts (scan_rows s bs) m) w h))))
    (after_used n g (words_in b))
  where
    free : Free (Open n g) n (words_in b) → Says (used (b ∷ bs)) g n m (b ∷ bs)
    free w =
        let rest = ended_rows bs n m e.1 y.1 (subst (λ (s : Scan). Counts (scan_rows s bs) m) w.gives h) in
        subst (λ (vs : List Version). Says vs g n m (b ∷ bs)) (sym (used_free b bs w.zeros))
        (record {
          rows_are =
              ap₂ (λ (x : List ℕ) (xs : List (List ℕ)). x ∷ xs) (blank_row b e.0 y.0 w.zeros) rest.0
              ∙ ap (λ (j : ℕ). replicate j blank) (sym (sub-zero (suc (length bs))));
          chain = tt;
          sound = tt;
          count = add-zero n ∙ rest.1;
          few = zero-le;
        })

    more : (Counts (scan_rows (Open (n + 1) (next g (unpack b))) bs) m → Says (used bs) (next g (unpack b)) (n + 1) m bs)
        → Taken n g (words_in b) → Says (used (b ∷ bs)) g n m (b ∷ bs)
    more ih w =
        let rest : Says (used bs) (next g (unpack b)) (n + 1) m bs = ih (subst (λ (s : Scan). Counts (scan_rows s bs) m) w.gives h) in
        subst (λ (vs : List Version). Says vs g n m (b ∷ bs)) (sym (used_more b bs w.used_up))
        (record {
          rows_are =
              ap₂ (λ (x : List ℕ) (xs : List (List ℕ)). x ∷ xs) (sym (pack-unpack b e.0 y.0 w.spare)) rest.rows_are
              ∙ ap (λ (j : ℕ). map pack (unpack b ∷ used bs) ++ replicate j blank) (sym (suc-sub-suc (length bs) (length (used bs))));
          chain = (w.follow, rest.chain);
          sound = (w.sound, rest.sound);
          count = omega (arith, rest.count);
          few = omega (arith, rest.few);
        })

chunks_bytes : (n : ℕ) (t : List ℕ) → Bytes t → AllBytes (chunks ROW n t)
chunks_bytes zero t h = tt
chunks_bytes (suc n) t h = (bytes_take ROW t h, chunks_bytes n (drop ROW t) (λ i. rw get_or-drop (h (ROW + i))))
  where
    bytes_take : (k : ℕ) (l : List ℕ) → Bytes l → Bytes (take k l)
    bytes_take zero l g i = omega arith
    bytes_take (suc k) [] g i = omega arith
    bytes_take (suc k) (x ∷ l) g zero = g zero
    bytes_take (suc k) (x ∷ l) g (suc i) = bytes_take k l (λ j. g (suc j)) i

-- it is the bytes of what it says, which is a chain of sound versions
pub record Read (t : List ℕ) (m : ℕ) : Type 0 where
  pub is : t ≡ encode (decode t) (rows_in t)
  pub chain : Chain start (decode t)
  pub sound : AllSound (decode t)
  pub count : length (decode t) ≡ m
  pub room : m ≤ rows_in t

pub read_table : (t : List ℕ) (m : ℕ) → length t ≡ rows_in t * ROW → Bytes t → Counts (scan_rows (Open 0 start) (pieces_of t)) m → Read t m
unfolding pieces_of decode encode cells
read_table t m e y h =
    let says : Says (used (pieces_of t)) start 0 m (pieces_of t) =
    open_rows (pieces_of t) 0 start m (chunks_even ROW (rows_in t) t (omega arith)) (chunks_bytes (rows_in t) t y) h in
    let l : length (pieces_of t) ≡ rows_in t = rows_length t in
    record {
      is = sym (chunks-joined ROW (rows_in t) t e)
          ∙ ap joined (says.rows_are ∙ ap (λ (j : ℕ). map pack (decode t) ++ replicate (j - length (decode t)) blank) l);
      chain = says.chain;
      sound = says.sound;
      count = omega (arith, says.count);
      room = omega (arith, says.count, says.few);
    }

-- ---- and each chain of sound versions has a table that is not refused

open_blank : (n : ℕ) (g : Group) → scan_row (Open n g) (words_in blank) ≡ Ended n
unfolding scan_row
open_blank n g = rw blank_free

ended_blanks : (n m : ℕ) → scan_rows (Ended n) (replicate m blank) ≡ Ended n
unfolding scan_rows scan_row
ended_blanks n zero = refl
ended_blanks n (suc m) = ap (λ (b : Bool). scan_rows (pick b (Ended n) Bad) (replicate m blank)) blank_free ∙ ended_blanks n m

open_row : (n : ℕ) (g : Group) (v : Version) → sound_version v ≡ true → follows g v ≡ true
    → scan_row (Open n g) (words_in (pack v)) ≡ Open (n + 1) (next g v)
unfolding scan_row admit_of join_of unpack
open_row n g v s f =
    let r = sound_room v s in
    let e : version_of (words_in (pack v)) ≡ v = unpack-pack v r in
    rw (pack-used v s, pack-spareless v r, e, s, f)

scan-cells : (vs : List Version) (n : ℕ) (g : Group) (m : ℕ) → AllSound vs → Chain g vs
    → Counts (scan_rows (Open n g) (map pack vs ++ replicate m blank)) (n + length vs)
unfolding scan_rows
scan-cells [] n g zero a r = sym (add-zero n)
scan-cells [] n g (suc m) a r =
    let e : scan_rows (Open n g) (replicate (suc m) blank) ≡ Ended n = ap (λ (s : Scan). scan_rows s (replicate m blank)) (open_blank n g)
    ∙ ended_blanks n m in
    subst (λ (s : Scan). Counts s (n + 0)) (sym e) (sym (add-zero n))
scan-cells (v ∷ vs) n g m a r =
    let rest : List (List ℕ) = map pack vs ++ replicate m blank in
    let e : scan_rows (Open n g) (pack v ∷ rest) ≡ scan_rows (Open (n + 1) (next g v)) rest =
    ap (λ (s : Scan). scan_rows s rest) (open_row n g v a.0 r.0) in
    let c : n + 1 + length vs ≡ n + suc (length vs) = omega arith in
    subst (λ (s : Scan). Counts s (n + suc (length vs))) (sym e)
    (subst (Counts (scan_rows (Open (n + 1) (next g v)) rest)) c (scan-cells vs (n + 1) (next g v) m a.1 r.1))

pub table_read : (vs : List Version) (n : ℕ) → AllSound vs → Chain start vs → length vs ≤ n
    → Counts (scan_rows (Open 0 start) (pieces_of (encode vs n))) (length vs)
unfolding cells
table_read vs n a r l =
    rw (rows_encode vs n l)
    (subst (Counts (scan_rows (Open 0 start) (map pack vs ++ replicate (n - length vs) blank))) (zero-add (length vs))
    (scan-cells vs 0 start (n - length vs) a r))
