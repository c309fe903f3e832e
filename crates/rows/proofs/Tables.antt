-- The laws of `specs/Table.antt`: what the byte operations of `specs/Place.antt` do to a table that says vs. Assumes nothing.
use mathlib.Core.Path.{◌≡◌, refl, sym, ap, ap₂, ◌∙◌}
use mathlib.Core.List.{List, [], ◌∷◌, ◌++◌, map, append_assoc, map-append}
use Prim.Native.Nat.{ℕ, zero, suc, ◌+◌, ◌-◌, ◌*◌, ◌/◌, ◌≤◌, ◌<◌}
use native.Mathlib.Nat.{suc-mul}
use native.Mathlib.Omega.{arith}
use native.Mathlib.Numerals.{add-one}
use mathlib.Core.Bool.{Bool}
use lib.ListN.{length, take, drop, get_or, set, replicate, length-append, length-take, length-drop, length-set, length-map}
use lib.ListN.{length-replicate}
use lib.ListN.{get_or-append}
use lib.Seq.{slice, set_split, set-append_left, take-append-le, take_at, drop_at, drop-append-add}
use Rattle.model.specs.declared.Version.{Version}
use Rattle.words.specs.Size.{ROW}
use Rattle.words.specs.Codec.{blank}
use Rattle.row.specs.Layout.{pack, unpack}
use Rattle.rows.specs.Place.{row_at, put_row, ins_row, del_row}
use Rattle.rows.specs.Chunks.{chunks, joined}
use Rattle.rows.specs.Table.{pieces_of, used, used_if, decode, cells, encode, insert_at, remove_at}
use Rattle.rows.proofs.Lists.{take-map, drop-map, set-map, get_d_map}
use Rattle.rows.proofs.Pieces.{Even, joined-append, take-joined, drop-joined, even_take, even_append, joined_length, joined-chunks}
use Rattle.rows.proofs.Pieces.{chunks-length, get_d_chunks}
use Rattle.row.proofs.Rooms.{sound_room}
use Rattle.row.proofs.Packs.{pack-length, unpack-pack, blank_free, pack-used}
use Rattle.rows.proofs.Sounds.{AllSound, sound_at}

-- ---- the byte operations on a row of pieces

drop_more : (cs : List (List ℕ)) (i : ℕ) → Even ROW cs → drop (i * ROW + ROW) (joined cs) ≡ joined (drop (suc i) cs)
drop_more cs i h = ap (λ (k : ℕ). drop k (joined cs)) (sym (suc-mul i ROW)) ∙ drop-joined ROW cs (suc i) h

slice_joined : (cs : List (List ℕ)) (i n : ℕ) → Even ROW cs → slice (i * ROW) (n * ROW) (joined cs) ≡ joined (slice i n cs)
slice_joined cs i n h =
    ap (λ (l : List ℕ). drop (i * ROW) l) (take-joined ROW cs n h) ∙ drop-joined ROW (take n cs) i (even_take ROW n cs h)

pub put-joined : (cs : List (List ℕ)) (i : ℕ) (b : List ℕ) → Even ROW cs → i < length cs → put_row (joined cs) i b ≡ joined (set cs i b)
unfolding put_row
put-joined cs i b h l =
    ap₂ (λ (x y : List ℕ). x ++ (b ++ y)) (take-joined ROW cs i h) (drop_more cs i h)
    ∙ sym (joined-append (take i cs) (b ∷ drop (suc i) cs))
    ∙ ap joined (sym (set_split cs i b l))

pub ins_joined : (cs : List (List ℕ)) (i n : ℕ) (b : List ℕ) → Even ROW cs
    → ins_row (joined cs) i n b ≡ joined (take i cs ++ (b ∷ (slice i n cs ++ drop (suc n) cs)))
unfolding ins_row
ins_joined cs i n b h =
    ap₂ (λ (x y : List ℕ). x ++ (b ++ y)) (take-joined ROW cs i h)
    (ap₂ (λ (x y : List ℕ). x ++ y) (slice_joined cs i n h) (drop_more cs n h) ∙ sym (joined-append (slice i n cs) (drop (suc n) cs)))
    ∙ sym (joined-append (take i cs) (b ∷ (slice i n cs ++ drop (suc n) cs)))

pub del_joined : (cs : List (List ℕ)) (i n : ℕ) → Even ROW cs
    → del_row (joined cs) i n ≡ joined (take i cs ++ (slice (suc i) (suc n) cs ++ (blank ∷ drop (suc n) cs)))
unfolding del_row
del_joined cs i n h =
    ap₂ (λ (x y : List ℕ). x ++ y) (take-joined ROW cs i h)
    (ap₂ (λ (x y : List ℕ). x ++ (blank ++ y))
    (ap₂ (λ (x y : ℕ). slice x y (joined cs)) (sym (suc-mul i ROW)) (sym (suc-mul n ROW)) ∙ slice_joined cs (suc i) (suc n) h)
    (drop_more cs n h)
    ∙ sym (joined-append (slice (suc i) (suc n) cs) (blank ∷ drop (suc n) cs)))
    ∙ sym (joined-append (take i cs) (slice (suc i) (suc n) cs ++ (blank ∷ drop (suc n) cs)))

-- ---- the pieces of a table that says vs

even_packs : (vs : List Version) → Even ROW (map pack vs)
even_packs [] = tt
even_packs (v ∷ vs) = (pack-length v, even_packs vs)

even_blanks : (m : ℕ) → Even ROW (replicate m blank)
unfolding blank
even_blanks zero = tt
even_blanks (suc m) = (refl, even_blanks m)

pub cells_even : (vs : List Version) (n : ℕ) → Even ROW (cells vs n)
unfolding cells
cells_even vs n = even_append ROW (map pack vs) (replicate (n - length vs) blank) (even_packs vs) (even_blanks (n - length vs))

pub cells-length : (vs : List Version) (n : ℕ) → length vs ≤ n → length (cells vs n) ≡ n
unfolding cells
cells-length vs n h = simp (length-append, length-map, length-replicate) (omega arith)

pub encode-length : (vs : List Version) (n : ℕ) → length vs ≤ n → length (encode vs n) ≡ n * ROW
unfolding encode
encode-length vs n h = joined_length ROW (cells vs n) (cells_even vs n) ∙ ap (λ (k : ℕ). k * ROW) (cells-length vs n h)

pub rows_encode : (vs : List Version) (n : ℕ) → length vs ≤ n → pieces_of (encode vs n) ≡ cells vs n
unfolding pieces_of encode
rows_encode vs n h =
    let e : length (encode vs n) / ROW ≡ length (cells vs n) = omega (arith, encode-length vs n h, cells-length vs n h) in
    ap (λ (k : ℕ). chunks ROW k (encode vs n)) e ∙ joined-chunks ROW (cells vs n) (cells_even vs n)

-- ---- what the leaves do

module _ (vs : List Version) (n : ℕ) where
  pub put-encode : (i : ℕ) (r : Version) → i < length vs → length vs ≤ n → put_row (encode vs n) i (pack r) ≡ encode (set vs i r) n
  unfolding encode cells
  put-encode i r l h =
      put-joined (cells vs n) i (pack r) (cells_even vs n) (omega (arith, cells-length vs n h))
      ∙ ap joined
      (set-append_left (map pack vs) (replicate (n - length vs) blank) i (pack r) (simp length-map l)
      ∙ ap₂ (λ (x : List (List ℕ)) (k : ℕ). x ++ replicate (n - k) blank) (set-map pack vs i r) (sym (length-set vs i r)))

  pub ins_encode : (i : ℕ) (r : Version) → i ≤ length vs → length vs < n
      → ins_row (encode vs n) i (length vs) (pack r) ≡ encode (insert_at vs i r) n
  unfolding encode cells
  ins_encode i r l h =
      let ps : List (List ℕ) = map pack vs in
      let pl : length ps ≡ length vs = length-map vs pack in
      let m : ℕ = n - suc (length vs) in
      let zs : List (List ℕ) = replicate (n - length vs) blank in
      let m≡ : n - length vs ≡ suc m = omega arith in
      let z≡ : zs ≡ blank ∷ replicate m blank = ap (λ (k : ℕ). replicate k blank) m≡ in
      ins_joined (cells vs n) i (length vs) (pack r) (cells_even vs n)
      ∙ ap joined
      (ap₂ (λ (x y : List (List ℕ)). x ++ (pack r ∷ y))
      (take-append-le i ps zs (omega arith) ∙ take-map pack i vs)
      (ap₂ (λ (x y : List (List ℕ)). x ++ y)
      (ap (λ (x : List (List ℕ)). drop i x) (take_at ps zs (length vs) pl) ∙ drop-map pack i vs)
      (ap₂ (λ (k : ℕ) (z : List (List ℕ)). drop k (ps ++ z)) (sym (add-one (length vs)) ∙ ap (λ (k : ℕ). k + 1) (sym pl)) z≡
      ∙ drop-append-add ps (blank ∷ replicate m blank) 1))
      ∙ sym (append_assoc (map pack (take i vs)) (map pack (r ∷ drop i vs)) (replicate m blank))
      ∙ ap₂ (λ (x : List (List ℕ)) (k : ℕ). x ++ replicate (n - k) blank)
      (sym (map-append pack (take i vs) (r ∷ drop i vs)))
      (sym (length-append (take i vs) (r ∷ drop i vs) ∙ count)))
    where
      count : length (take i vs) + suc (length (drop i vs)) ≡ suc (length vs)
      count = simp (length-take, length-drop) (omega arith)

  pub del_encode : (i k : ℕ) → i ≤ k → suc k ≡ length vs → length vs ≤ n → del_row (encode vs n) i k ≡ encode (remove_at vs i) n
  unfolding encode cells
  del_encode i k l e h =
      let ps : List (List ℕ) = map pack vs in
      let pl : length ps ≡ suc k = length-map vs pack ∙ sym e in
      let zs : List (List ℕ) = replicate (n - length vs) blank in
      del_joined (cells vs n) i k (cells_even vs n)
      ∙ ap joined
      (ap₂ (λ (x y : List (List ℕ)). x ++ y)
      (take-append-le i ps zs (omega arith) ∙ take-map pack i vs)
      (ap₂ (λ (x y : List (List ℕ)). x ++ (blank ∷ y))
      (ap (λ (x : List (List ℕ)). drop (suc i) x) (take_at ps zs (suc k) pl) ∙ drop-map pack (suc i) vs)
      (drop_at ps zs (suc k) pl))
      ∙ sym (append_assoc (map pack (take i vs)) (map pack (drop (suc i) vs)) (blank ∷ zs))
      ∙ ap₂ (λ (x y : List (List ℕ)). x ++ y)
      (sym (map-append pack (take i vs) (drop (suc i) vs)))
      (ap (λ (j : ℕ). replicate j blank) (count ∙ ap (λ (j : ℕ). n - j) (sym (length-append (take i vs) (drop (suc i) vs))))))
    where
      count : suc (n - length vs) ≡ n - (length (take i vs) + length (drop (suc i) vs))
      count = simp (length-take, length-drop) (omega arith)

-- ---- what a table says

used-cells : (vs : List Version) (m : ℕ) → AllSound vs → used (map pack vs ++ replicate m blank) ≡ vs
unfolding used
used-cells [] zero h = refl
used-cells [] (suc m) h = ap (λ (b : Bool). used_if b (unpack blank ∷ used (replicate m blank))) blank_free
used-cells (v ∷ vs) m h =
    let rest : List Version = used (map pack vs ++ replicate m blank) in
    ap (λ (b : Bool). used_if b (unpack (pack v) ∷ rest)) (pack-used v h.0)
    ∙ ap₂ (λ (x : Version) (l : List Version). x ∷ l) (unpack-pack v (sound_room v h.0)) (used-cells vs m h.1)

-- the table that says vs says vs
pub decode-encode : (vs : List Version) (n : ℕ) → AllSound vs → length vs ≤ n → decode (encode vs n) ≡ vs
unfolding decode cells
decode-encode vs n h l = ap used (rows_encode vs n l) ∙ used-cells vs (n - length vs) h

pub rows_length : (t : List ℕ) → length (pieces_of t) ≡ length t / ROW
unfolding pieces_of
rows_length t = chunks-length ROW (length t / ROW) t

pub rows_at : (t : List ℕ) (i : ℕ) → i < length t / ROW → get_or (pieces_of t) i [] ≡ row_at t i
unfolding pieces_of row_at
rows_at t i h = get_d_chunks ROW (length t / ROW) i t h

-- row i of it is the i-th of vs
pub row_encode : (vs : List Version) (n i : ℕ) (d : Version) → AllSound vs → i < length vs → length vs ≤ n
    → unpack (row_at (encode vs n) i) ≡ get_or vs i d
unfolding cells
row_encode vs n i d a l h =
    let v : Version = get_or vs i d in
    ap unpack
    (sym (rows_at (encode vs n) i (omega (arith, encode-length vs n h)))
    ∙ ap (λ (bs : List (List ℕ)). get_or bs i []) (rows_encode vs n h)
    ∙ get_or-append (map pack vs) (replicate (n - length vs) blank) [] i (simp length-map l)
    ∙ get_d_map pack vs i d [] l)
    ∙ unpack-pack v (sound_room v (sound_at vs i d a l))
