-- Finding in a sound table, said of what the table says. Assumes nothing.
use mathlib.Core.Path.{◌≡◌, sym, ap, ap₂, ◌∙◌, subst}
use mathlib.Core.Bool.{true}
use mathlib.Core.List.{List, [], map}
use Prim.Native.Nat.{ℕ, ◌-◌, ◌^◌, ◌≤◌, ◌<◌}
use native.Mathlib.Nat.{lt_trans}
use native.Mathlib.Omega.{arith}
use lib.ListN.{length, get_or, length-map, replicate, get_or-append}
use lib.Seq.{ext_get_or}
use Rattle.model.specs.declared.Version.{Version}
use Rattle.model.specs.Sound.{sound_version}
use Rattle.words.specs.Codec.{words_in, blank}
use Rattle.row.specs.Layout.{pack, unpack}
use Rattle.row.proofs.Layouts.{room_fits}
use Rattle.row.proofs.Rooms.{sound_room}
use Rattle.row.proofs.Packs.{words-pack, unpack-pack, head_key}
use Rattle.rows.specs.Place.{row_at}
use Rattle.rows.specs.Table.{decode, encode, cells}
use Rattle.table.specs.Find.{key_in, key_at, keys_of, Rises, lower_of, key_for, keys, place_in}
use Rattle.scan.specs.Sound.{SoundTable, rows_in}
use Rattle.rows.proofs.Lists.{get_d_map}
use Rattle.rows.proofs.Sounds.{AllSound, sound_at, RisingFrom}
use Rattle.rows.proofs.Tables.{rows_at, rows_encode, row_encode, encode-length}
use Rattle.table.proofs.Finds.{keys_length, keys_at, lower_le}
use Rattle.scan.proofs.Meant.{Good, table_good}
use Rattle.table.proofs.Changed.{rises_at}

-- the key of a sound version's row
key_pack : (v : Version) → sound_version v ≡ true → key_in (pack v) ≡ key_for v
unfolding unpack
key_pack v e =
    let r = sound_room v e in
    let h : (words_in (pack v)).head < 2 ^ 64 =
    subst (λ (w : ℕ). w < 2 ^ 64) (ap (λ w. w.head) (sym (words-pack v r))) (room_fits v r).head in
    head_key (words_in (pack v)) h ∙ ap key_for (unpack-pack v r)

key_encode : (vs : List Version) (n i : ℕ) → AllSound vs → length vs ≤ n → i < length vs → key_at (encode vs n) i ≡ get_or (keys vs) i 0
unfolding key_at cells
key_encode vs n i a l h =
    let d : Version = unpack [] in
    let v : Version = get_or vs i d in
    ap key_in
    (sym (rows_at (encode vs n) i (omega (arith, encode-length vs n l)))
    ∙ ap (λ (bs : List (List ℕ)). get_or bs i []) (rows_encode vs n l)
    ∙ get_or-append (map pack vs) (replicate (n - length vs) blank) [] i (simp length-map h)
    ∙ get_d_map pack vs i d [] h)
    ∙ key_pack v (sound_at vs i d a h)
    ∙ sym (get_d_map key_for vs i d 0 h)

keys-encode : (vs : List Version) (n : ℕ) → AllSound vs → length vs ≤ n → keys_of (length vs) (encode vs n) ≡ keys vs
keys-encode vs n a l =
    ext_get_or 0 (keys_of (length vs) (encode vs n)) (keys vs) (keys_length (length vs) (encode vs n) ∙ sym (length-map vs key_for))
    (λ i h.
    let k : i < length vs = rw keys_length at h in
    keys_at (length vs) (encode vs n) i k ∙ key_encode vs n i a l k)

keys_rise : (vs : List Version) → RisingFrom 0 vs → (p q : ℕ) → p < q → q < length vs → get_or (keys vs) p 0 < get_or (keys vs) q 0
keys_rise vs r p q l h =
    rw (get_d_map key_for vs p (unpack []) 0 (lt_trans l h), get_d_map key_for vs q (unpack []) 0 h) (rises_at vs 0 p q r l h)

pub place_le : (k : ℕ) (vs : List Version) → place_in k vs ≤ length vs
unfolding place_in
place_le k vs = subst (λ (j : ℕ). lower_of k (keys vs) ≤ j) (length-map vs key_for) (lower_le k (keys vs))

module _ (t : List ℕ) (n : ℕ) (s : SoundTable t n) where
  pub sound_good : Good (rows_in t) (decode t)
  sound_good = table_good (rows_in t) (decode t) s.sound

  sound_keys : keys_of n t ≡ keys (decode t)
  sound_keys = ap₂ keys_of (sym s.count) s.is
      ∙ keys-encode (decode t) (rows_in t) sound_good.sound (omega (arith, s.count, s.room))

  pub sound_rises : Rises (keys_of n t)
  unfolding Rises
  sound_rises p q l h =
      let k : q < length (decode t) = omega (arith, keys_length n t, s.count) in
      rw sound_keys (keys_rise (decode t) sound_good.rises p q l k)

  pub sound_place : (k : ℕ) → lower_of k (keys_of n t) ≡ place_in k (decode t)
  unfolding place_in
  sound_place k = ap (lower_of k) sound_keys

  -- what `load` reads of a sound table
  pub sound_load : (i : ℕ) (d : Version) → i < n → unpack (row_at t i) ≡ get_or (decode t) i d
  sound_load i d h =
      ap (λ (z : List ℕ). unpack (row_at z i)) s.is
      ∙ row_encode (decode t) (rows_in t) i d sound_good.sound (omega (arith, s.count)) (omega (arith, s.count, s.room))
