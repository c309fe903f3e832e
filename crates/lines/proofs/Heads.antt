-- What the first word of a row says of its version. Assumes nothing.
use mathlib.Core.Path.{◌≡◌, ap, ◌∙◌}
use mathlib.Core.List.{List, []}
use Prim.Native.Nat.{ℕ, ◌/◌, ◌%◌, ◌<◌}
use native.Mathlib.Omega.{arith}
use Rattle.model.specs.declared.Version.{Version}
use Rattle.words.specs.Codec.{words_in}
use Rattle.row.specs.Layout.{version_of, unpack}
use Rattle.rows.specs.Place.{row_at}
use Rattle.rows.specs.Table.{decode}
use Rattle.scan.specs.Sound.{SoundTable}
use Rattle.table.specs.Find.{key_for}
use Rattle.table.specs.Survey.{version_at}
use Rattle.table.proofs.Sought.{sound_load}
use Rattle.lines.specs.Pairs.{held_of, held_in}

pub record Tells (w : ℕ) (v : Version) : Type 0 where
  pub tn : w / 1073741824 ≡ v.id.tn.0
  pub number : w / 16384 % 65536 ≡ v.id.number
  pub key : w / 16384 ≡ key_for v
  pub held : held_in w ≡ held_of v

pub tells : (t : List ℕ) (n i w : ℕ) → SoundTable t n → i < n → w ≡ (words_in (row_at t i)).head → w < 18446744073709551616
    → Tells w (version_at (decode t) i)
unfolding unpack version_of held_in
tells t n i w s h e b =
    let l : unpack (row_at t i) ≡ version_at (decode t) i = sound_load t n s i (unpack []) h in
    let k : (words_in (row_at t i)).head / 1073741824 % 17179869184 ≡ (version_at (decode t) i).id.tn.0 =
    ap (λ (v : Version). v.id.tn.0) l in
    let m : (words_in (row_at t i)).head / 16384 % 65536 ≡ (version_at (decode t) i).id.number = ap (λ (v : Version). v.id.number) l in
    let q : w / 1073741824 ≡ (version_at (decode t) i).id.tn.0 = omega (arith, e, k) in
    let o : w / 16384 % 65536 ≡ (version_at (decode t) i).id.number = omega (arith, e, m) in
    record { tn = q; number = o; key = omega arith; held = ap held_in e ∙ ap held_of l }
