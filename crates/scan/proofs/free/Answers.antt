-- `scan::free` meets its contract. Assumes nothing.
use mathlib.Core.Path.{ap, ◌∙◌}
use Prim.Native.Nat.{ℕ, ◌*◌}
use native.Mathlib.Nat.{add-sub_cancel_left}
use lib.ListN.{take, drop}
use Rattle.words.specs.Size.{ROW}
use Rattle.words.specs.Codec.{words_in, is_blank}
use Rattle.rows.specs.Place.{row_at}
use Rattle.scan.proofs.free.Goals as goal

pub returns : goal.returns
unfolding row_at
returns c =
    let a = c.args in
    c.zeros.ensures ∙ ap (λ (k : ℕ). is_blank (words_in (take k (drop (a.i * ROW) a.t.now)))) (add-sub_cancel_left (a.i * ROW) ROW)
