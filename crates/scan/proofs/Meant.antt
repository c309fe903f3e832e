-- What the scan's answer means: the bytes are those of a sound table, and of nothing else. [T1, T2, T3, V11]
-- Assumes nothing.
use mathlib.Core.Path.{◌≡◌, refl, sym, ap, ◌∙◌, subst}
use mathlib.Core.Bool.{Bool, true, false, not}
use mathlib.Core.List.{List, [], ◌∷◌}
use Prim.Native.Nat.{ℕ, ◌*◌, ◌/◌, ◌%◌, ◌≤◌, ◌<◌}
use native.Mathlib.Omega.{arith}
use borrow.Author.Tests.{eq-eqb, lt-ltb, le-leb, eqb-true, ltb-true, leb-true, not-true}
use lib.Dec.{eqb, ltb, leb}
use lib.ListN.{length, get_or}
use Rattle.octets.specs.Octets.{Bytes}
use Rattle.model.specs.declared.Version.{Version}
use Rattle.model.specs.Table.{in_line, rows_of}
use Rattle.model.specs.Sound.{live, sends, worked, one_each, none_twice, sound_line, rising, sound_version, sound_lines, sound_table}
use Rattle.model.specs.Sound.{most_rows}
use Rattle.words.specs.Size.{ROW}
use Rattle.row.specs.Layout.{key_of}
use Rattle.model.specs.Basics.{all, none, with}
use Rattle.model.proofs.Lists.{and_l, and_r, both_true, conj_at, conj_all}
use Rattle.model.proofs.TableLaws.{rising_part}
use Rattle.model.proofs.Apart.{rows_rows}
use Rattle.model.proofs.SoundLines.{distinct_rising}
use Rattle.model.proofs.SoundTables.{rising_says, says_twice}
use Rattle.std.specs.Prelude.{Some}
use Rattle.rows.specs.Table.{pieces_of, decode, encode}
use Rattle.scan.specs.Join.{Group, start, same, second, follows, next, Chain}
use Rattle.scan.specs.Sound.{Scan, Bad, Open, Ended, pick, scan_rows, scan_of, said_by, soundness_of, rows_in, itself, SoundTable}
use Rattle.rows.proofs.Sounds.{AllSound, RisingFrom, number_lt, all_sound, sound_all, rising_rises, rises_rising}
use Rattle.scan.proofs.Counted.{one, Flags, AtMostOne, one_of, flags_tally, tally_flags, one_each_lem, each_one}
use Rattle.rows.proofs.Tables.{encode-length}
use Rattle.scan.proofs.Scans.{Counts, read_table, table_read}

-- ---- a chain is a list that rises and has each of three things at most once a number

pub record Parts (g : Group) (vs : List Version) : Type 0 where
  pub rises : RisingFrom g.last vs
  pub lives : Flags live (g.last / 65536) g.live vs
  pub sent : Flags sends (g.last / 65536) g.sends vs
  pub work : Flags worked (g.last / 65536) g.worked vs

-- the tests of `follows`, in their order
abbrev tested : Group → Version → List Bool
tested g v =
    ltb g.last (key_of v.id) ∷ not (second (same g.last v) g.live (live v))
    ∷ not (second (same g.last v) g.sends (sends v))
    ∷ not (second (same g.last v) g.worked (worked v)) ∷ []

key_tn : (v : Version) → sound_version v ≡ true → key_of v.id / 65536 ≡ v.id.tn.0
key_tn v e =
    let b : v.id.number < 65536 = number_lt v e in
    omega arith

pub chain_parts : (vs : List Version) (g : Group) → AllSound vs → Chain g vs → Parts g vs
unfolding follows next
chain_parts [] g a h = record { rises = tt; lives = tt; sent = tt; work = tt }
chain_parts (v ∷ vs) g a h =
    let of : (i : ℕ) → get_or (tested g v) i true ≡ true = conj_at (tested g v) h.0 in
    let r = chain_parts vs (next g v) a.1 h.1 in
    let e = key_tn v a.0 in
    record {
      rises = (ltb-true _ _ (of 0), r.rises);
      lives = (not-true _ (of 1), subst (λ (m : ℕ). Flags live m (next g v).live vs) e r.lives);
      sent = (not-true _ (of 2), subst (λ (m : ℕ). Flags sends m (next g v).sends vs) e r.sent);
      work = (not-true _ (of 3), subst (λ (m : ℕ). Flags worked m (next g v).worked vs) e r.work);
    }

pub parts_chain : (vs : List Version) (g : Group) → AllSound vs → Parts g vs → Chain g vs
unfolding follows next
parts_chain [] g a p = tt
parts_chain (v ∷ vs) g a p =
    let e = sym (key_tn v a.0) in (
      conj_all (tested g v) (with (lt-ltb _ _ p.rises.0)
          (with (ap not p.lives.0) (with (ap not p.sent.0) (with (ap not p.work.0) none)))),
      parts_chain vs (next g v) a.1
          (record {
            rises = p.rises.1;
            lives = subst (λ (m : ℕ). Flags live m (next g v).live vs) e p.lives.1;
            sent = subst (λ (m : ℕ). Flags sends m (next g v).sends vs) e p.sent.1;
            work = subst (λ (m : ℕ). Flags worked m (next g v).worked vs) e p.work.1;
          }),
    )

-- ---- the model's soundness of a table

-- of each number that a list names, the rows of t may stand together: the three tests apart
abbrev each_in : List Version → Version → Bool
each_in t v = sound_line (rows_of itself v.id.tn.0 t)

-- no number stands twice among the rows of one TN, since they rise
none_twice_lem : (t : List Version) → rising t ≡ true → (n : ℕ) → none_twice (rows_of itself n t) ≡ true
none_twice_lem t h n =
    says_twice (rows_of itself n t)
    (distinct_rising n (rows_of itself n t) (rising_part (in_line itself n) t (rising_says t h)) (rows_rows itself n t))

split_each : (t vs : List Version) → all (each_in t) vs ≡ true → (all (one_of live t) vs ≡ true)
    × ((all (one_of sends t) vs ≡ true) × (all (one_of worked t) vs ≡ true))
unfolding sound_line one_each
split_each t [] h = (refl, (refl, refl))
split_each t (v ∷ vs) h =
    let three : List Bool = one_of live t v ∷ one_of sends t v ∷ one_of worked t v ∷ [] in
    let of : (i : ℕ) → get_or three i true ≡ true =
    conj_at three (and_l _ (none_twice (rows_of itself v.id.tn.0 t)) (and_l (each_in t v) (all (each_in t) vs) h)) in
    let r = split_each t vs (and_r (each_in t v) (all (each_in t) vs) h) in
    (both_true _ _ (of 0) r.0, (both_true _ _ (of 1) r.1.0, both_true _ _ (of 2) r.1.1))

join_each : (t vs : List Version) → rising t ≡ true → all (one_of live t) vs ≡ true → all (one_of sends t) vs ≡ true
    → all (one_of worked t) vs ≡ true → all (each_in t) vs ≡ true
unfolding sound_line one_each
join_each t [] up l s w = refl
join_each t (v ∷ vs) up l s w =
    rw (
      and_l (one_of live t v) (all (one_of live t) vs) l,
      and_l (one_of sends t v) (all (one_of sends t) vs) s,
      and_l (one_of worked t v)
          (all (one_of worked t) vs) w,
      none_twice_lem t up v.id.tn.0,
    )
    (join_each t vs up (and_r (one_of live t v) (all (one_of live t) vs) l) (and_r (one_of sends t v) (all (one_of sends t) vs) s)
    (and_r (one_of worked t v) (all (one_of worked t) vs) w))

pub record Good (rows : ℕ) (t : List Version) : Type 0 where
  pub few : rows ≤ most_rows
  pub room : length t ≤ rows
  pub sound : AllSound t
  pub rises : RisingFrom 0 t
  pub lives : AtMostOne live t
  pub sent : AtMostOne sends t
  pub work : AtMostOne worked t

abbrev tests : ℕ → List Version → List Bool
tests rows t = leb rows 4096 ∷ leb (length t) rows ∷ rising t ∷ all sound_version t ∷ sound_lines itself t ∷ []

pub table_good : (rows : ℕ) (t : List Version) → sound_table itself rows t ≡ true → Good rows t
unfolding sound_table sound_lines
table_good rows t h =
    let of : (i : ℕ) → get_or (tests rows t) i true ≡ true = conj_at (tests rows t) h in
    let a = all_sound t (of 3) in
    let e = split_each t t (of 4) in
    record {
      few = leb-true _ _ (of 0);
      room = leb-true _ _ (of 1);
      sound = a;
      rises = rising_rises t a (of 2);
      lives = each_one live t e.0;
      sent = each_one sends t e.1.0;
      work = each_one worked t e.1.1;
    }

pub good_table : (rows : ℕ) (t : List Version) → Good rows t → sound_table itself rows t ≡ true
unfolding sound_table sound_lines
good_table rows t g =
    conj_all (tests rows t)
    (with (le-leb _ _ g.few)
    (with (le-leb _ _ g.room)
    (with (rises_rising t g.sound g.rises)
    (with (sound_all t g.sound)
    (with (join_each t t (rises_rising t g.sound g.rises) (one_each_lem live t g.lives t) (one_each_lem sends t g.sent t)
    (one_each_lem worked t g.work t)) none)))))

pub good_chain : (rows : ℕ) (t : List Version) → Good rows t → Chain start t
good_chain rows t g =
    parts_chain t start g.sound
    (record {
      rises = g.rises;
      lives = tally_flags live t 0 false (λ n. omega (arith, g.lives n, zero_one (eqb 0 n)));
      sent = tally_flags sends t 0 false (λ n. omega (arith, g.sent n, zero_one (eqb 0 n)));
      work = tally_flags worked t 0 false (λ n. omega (arith, g.work n, zero_one (eqb 0 n)));
    })
  where
    zero_one : (b : Bool) → one b false ≡ 0
    zero_one true = refl
    zero_one false = refl

pub chain_good : (rows : ℕ) (t : List Version) → rows ≤ most_rows → length t ≤ rows → AllSound t → Chain start t → Good rows t
chain_good rows t f l a c =
    let p = chain_parts t start a c in
    record {
      few = f;
      room = l;
      sound = a;
      rises = p.rises;
      lives = λ n. omega (arith, flags_tally live t 0 0 false a p.rises refl p.lives n);
      sent = λ n. omega (arith, flags_tally sends t 0 0 false a p.rises refl p.sent n);
      work = λ n. omega (arith, flags_tally worked t 0 0 false a p.rises refl p.work n);
    }

-- ---- the whole answer

pick_bad : (b : Bool) (s : Scan) (m : ℕ) → Counts (pick b s Bad) m → (b ≡ true) × Counts s m
pick_bad true s m h = (refl, h)
pick_bad false s m h = absurd h

said_counts : (s : Scan) (n : ℕ) → said_by s ≡ Some n → Counts s n
said_counts Bad n e = let z : ◌≡◌ {A = ℕ} 0 1 = cc in absurd (omega arith)
said_counts (Open m g) n e = cc
said_counts (Ended m) n e = cc

counts_said : (s : Scan) (n : ℕ) → Counts s n → said_by s ≡ Some n
counts_said Bad n h = absurd h
counts_said (Open m g) n h = ap Some h
counts_said (Ended m) n h = ap Some h

-- where the scan says sound with n used rows, the bytes are a sound table with n used rows
pub sound_says : (t : List ℕ) (n : ℕ) → Bytes t → soundness_of t ≡ Some n → SoundTable t n
unfolding soundness_of scan_of
sound_says t n y e =
    let h = said_counts (scan_of t) n e in
    let p = pick_bad (eqb (length t % ROW) 0) (pick (leb (length t) (most_rows * ROW)) (scan_rows (Open 0 start) (pieces_of t)) Bad) n h in
    let q = pick_bad (leb (length t) (most_rows * ROW)) (scan_rows (Open 0 start) (pieces_of t)) n p.1 in
    let m : length t % ROW ≡ 0 = eqb-true _ _ p.0 in
    let l : length t ≤ most_rows * ROW = leb-true _ _ q.0 in
    let w : length t ≡ rows_in t * ROW = omega arith in
    let f : rows_in t ≤ most_rows = omega arith in
    let r = read_table t n w y q.1 in
    record {
      whole = w;
      few = f;
      is = r.is;
      sound = good_table (rows_in t) (decode t)
          (chain_good (rows_in t) (decode t) f (omega (arith, r.count, r.room)) r.sound r.chain);
      count = r.count;
      room = r.room;
    }

-- and of the bytes of every sound table the scan says so
pub says_sound : (vs : List Version) (rows : ℕ) → sound_table itself rows vs ≡ true → soundness_of (encode vs rows) ≡ Some (length vs)
unfolding soundness_of scan_of
says_sound vs rows s =
    let g = table_good rows vs s in
    let f : rows ≤ most_rows = g.few in
    let e : length (encode vs rows) ≡ rows * ROW = encode-length vs rows g.room in
    let p : eqb (length (encode vs rows) % ROW) 0 ≡ true = eq-eqb (length (encode vs rows) % ROW) 0 (omega arith) in
    let q : leb (length (encode vs rows)) (most_rows * ROW) ≡ true = le-leb (length (encode vs rows)) (most_rows * ROW) (omega arith) in
    let z : scan_of (encode vs rows) ≡ scan_rows (Open 0 start) (pieces_of (encode vs rows)) = rw (p, q) in
    ap said_by z ∙ counts_said (scan_rows (Open 0 start) (pieces_of (encode vs rows))) (length vs)
    (table_read vs rows g.sound (good_chain rows vs g) g.room)
