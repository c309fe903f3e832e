-- What a caller cites: each change of a sound table's bytes is the model's change of what the table says. [T2, U1]
-- Assumes nothing.
use mathlib.Core.Path.{◌≡◌, refl, sym, ap, ap₂, ◌∙◌, subst}
use mathlib.Core.Bool.{true}
use mathlib.Core.Option.{none}
use mathlib.Core.List.{List, [], ◌∷◌}
use Prim.Native.Nat.{ℕ, suc, ◌*◌, ◌≤◌, ◌<◌}
use native.Mathlib.Omega.{arith}
use lib.ListN.{length, set, length-set}
use Rattle.octets.specs.Octets.{Bytes}
use Rattle.model.specs.declared.Id.{Id}
use Rattle.model.specs.declared.Version.{Version}
use Rattle.model.specs.Table.{find, change, changes, put, add, strike}
use Rattle.model.specs.Sound.{sound_table}
use Rattle.words.specs.Size.{ROW}
use Rattle.row.specs.Layout.{pack}
use Rattle.std.specs.Prelude.{Some}
use Rattle.rows.specs.Place.{put_row, ins_row, del_row}
use Rattle.rows.specs.Table.{pieces_of, decode, encode}
use Rattle.table.specs.Find.{key_for, place_in}
use Rattle.scan.specs.Sound.{scan_rows, scan_of, soundness_of, rows_in, itself, SoundTable}
use Rattle.table.specs.Survey.{version_at}
use Rattle.rows.proofs.Tables.{encode-length, decode-encode, put-encode, ins_encode, del_encode}
use Rattle.scan.proofs.Meant.{table_good, sound_says, says_sound}
use Rattle.table.proofs.Sought.{place_le, sound_good}
use Rattle.table.proofs.Changed.{sound_numbered, set_puts, remove_strikes, insert_adds, rising-set, numbered-set, name_set}

module _ (t : List ℕ) (n : ℕ) (s : SoundTable t n) where
  -- after a store
  pub store_puts : (i : ℕ) (v : Version) → i < n → (version_at (decode t) i).id ≡ v.id
      → put_row t i (pack v) ≡ encode (change (put v) (decode t)) (rows_in t)
  store_puts i v h e =
      let g = sound_good t n s in
      let l : i < length (decode t) = omega (arith, s.count) in
      ap (λ (z : List ℕ). put_row z i (pack v)) s.is
      ∙ put-encode (decode t) (rows_in t) i v l g.room
      ∙ ap (λ (x : List Version). encode x (rows_in t)) (set_puts (decode t) 0 i v g.rises (sound_numbered (decode t) g.sound) l e)

  -- after two stores
  pub stores_put : (i : ℕ) (v : Version) (j : ℕ) (w : Version) → i < n → j < n → (version_at (decode t) i).id ≡ v.id
      → (version_at (decode t) j).id ≡ w.id
      → put_row (put_row t i (pack v)) j (pack w) ≡ encode (changes (put v ∷ put w ∷ []) (decode t)) (rows_in t)
  stores_put i v j w h k e f =
      let g = sound_good t n s in
      let d : List Version = decode t in
      let m = sound_numbered d g.sound in
      let l : i < length d = omega (arith, s.count) in
      let u : List Version = set d i v in
      let c : length u ≡ length d = length-set d i v in
      let o : j < length u = omega (arith, s.count) in
      let z : set d i v ≡ change (put v) d = set_puts d 0 i v g.rises m l e in
      ap (λ (x : List ℕ). put_row (put_row x i (pack v)) j (pack w)) s.is
      ∙ ap (λ (x : List ℕ). put_row x j (pack w)) (put-encode d (rows_in t) i v l g.room)
      ∙ put-encode u (rows_in t) j w o (omega (arith, g.room))
      ∙ ap (λ (x : List Version). encode x (rows_in t))
      (set_puts u 0 j w (rising-set d 0 i v l e g.rises) (numbered-set d i v l e m) o (name_set d i j v l e ∙ f)
      ∙ ap (change (put w)) z)

  -- after an insert at the version's place
  pub insert_puts : (v : Version) → n < rows_in t → v.id.number < 65536 → find v.id (decode t) ≡ none
      → ins_row t (place_in (key_for v) (decode t)) n (pack v) ≡ encode (change (add v) (decode t)) (rows_in t)
  insert_puts v h b f =
      let g = sound_good t n s in
      ap₂ (λ (z : List ℕ) (j : ℕ). ins_row z (place_in (key_for v) (decode t)) j (pack v)) s.is (sym s.count)
      ∙ ins_encode (decode t) (rows_in t) (place_in (key_for v) (decode t)) v (place_le (key_for v) (decode t)) (omega (arith, s.count))
      ∙ ap (λ (x : List Version). encode x (rows_in t)) (insert_adds (decode t) v (sound_numbered (decode t) g.sound) b f)

  -- after a remove
  pub remove_takes : (i m : ℕ) (k : Id) → i ≤ m → suc m ≡ n → (version_at (decode t) i).id ≡ k
      → del_row t i m ≡ encode (change (strike k) (decode t)) (rows_in t)
  remove_takes i m k h e f =
      let g = sound_good t n s in
      let l : i < length (decode t) = omega (arith, s.count) in
      ap (λ (z : List ℕ). del_row z i m) s.is
      ∙ del_encode (decode t) (rows_in t) i m h (e ∙ sym s.count) g.room
      ∙ ap (λ (x : List Version). encode x (rows_in t))
      (remove_strikes (decode t) 0 i k g.rises (sound_numbered (decode t) g.sound) l f)

-- ---- the bytes of a sound list of versions

module _ (vs : List Version) (rows : ℕ) (s : sound_table itself rows vs ≡ true) where
  pub says_again : decode (encode vs rows) ≡ vs
  says_again = decode-encode vs rows (table_good rows vs s).sound (table_good rows vs s).room

  pub rows_again : rows_in (encode vs rows) ≡ rows
  rows_again = let e : length (encode vs rows) ≡ rows * ROW = encode-length vs rows (table_good rows vs s).room in omega arith

  pub sound_again : SoundTable (encode vs rows) (length vs)
  sound_again =
      let e : length (encode vs rows) ≡ rows * ROW = encode-length vs rows (table_good rows vs s).room in
      let g = table_good rows vs s in
      record {
        whole = omega arith;
        few = subst (λ (r : ℕ). r ≤ 4096) (sym rows_again) g.few;
        is = ap₂ encode (sym says_again) (sym rows_again);
        sound = ap₂ (λ (r : ℕ) (x : List Version). sound_table itself r x) rows_again says_again ∙ s;
        count = ap length says_again;
        room = subst (λ (r : ℕ). length vs ≤ r) (sym rows_again) g.room;
      }

-- ---- the scan's answer, exactly

-- the bytes are those of a sound list of n versions, with free rows after them
pub record Made (t : List ℕ) (n : ℕ) : Type 0 where
  pub versions : List Version
  pub rows : ℕ
  pub is : t ≡ encode versions rows
  pub sound : sound_table itself rows versions ≡ true
  pub count : length versions ≡ n

pub sound_exactly : (t : List ℕ) (n : ℕ) → Bytes t → (soundness_of t ≡ Some n → Made t n) × (Made t n → soundness_of t ≡ Some n)
sound_exactly t n y = (
  λ e.
      let s = sound_says t n y e in
      record { versions = decode t; rows = rows_in t; is = s.is; sound = s.sound; count = s.count },
  λ m. ap soundness_of m.is ∙ says_sound m.versions m.rows m.sound ∙ ap Some m.count,
)

-- no rows at all is a table too
pub empty_sound : soundness_of [] ≡ Some 0
unfolding soundness_of scan_of scan_rows pieces_of
empty_sound = refl
