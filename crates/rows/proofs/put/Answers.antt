-- `rows::put` meets its contract. Assumes nothing.
use borrow.Rule.Slice.PartMut.{put_mid, Post-is}
use mathlib.Core.Path.{ap, ◌∙◌}
use mathlib.Core.List.{List, ◌++◌}
use Prim.Native.Nat.{ℕ, ◌+◌, ◌-◌, ◌*◌}
use native.Mathlib.Omega.{arith}
use lib.ListN.{take}
use Rattle.words.specs.Size.{ROW}
use Rattle.words.specs.Codec.{bytes_of}
use Rattle.rows.specs.Place.{put_row}
use Rattle.rows.proofs.put.Goals as goal

pub returns : goal.returns
unfolding put_row
returns c =
    let a = c.args in
    let at = a.i * ROW in
    ap (λ (l : List ℕ). put_mid at (at + ROW - at) a.t.now l) c.put.ensures
    ∙ ap (λ (l : List ℕ). take at a.t.now ++ (bytes_of a.w ++ l)) (Post-is at (at + ROW) a.t.now (omega arith))
