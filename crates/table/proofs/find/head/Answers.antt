-- `find::head` meets its contract. Assumes nothing.
use mathlib.Core.Path.{ap, ◌∙◌}
use Prim.Native.Nat.{ℕ, ◌*◌}
use native.Mathlib.Nat.{add-sub_cancel_left}
use lib.ListN.{take, drop}
use Rattle.octets.specs.Octets.{be}
use Rattle.words.specs.Size.{ROW}
use Rattle.words.specs.Codec.{words_in}
use Rattle.rows.specs.Place.{row_at}
use Rattle.table.proofs.find.head.Goals as goal

pub returns : goal.returns
unfolding row_at words_in
returns c =
    let a = c.args in
    c.u64_at.ensures ∙ ap (λ (k : ℕ). be 8 (take k (drop (a.i * ROW) a.t.now)) 0) (add-sub_cancel_left (a.i * ROW) ROW)
