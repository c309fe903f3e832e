-- `rows::words` meets its contract. Assumes nothing.
use mathlib.Core.Path.{ap, ◌∙◌}
use Prim.Native.Nat.{ℕ, ◌*◌}
use native.Mathlib.Nat.{add-sub_cancel_left}
use lib.ListN.{take, drop}
use Rattle.words.specs.Size.{ROW}
use Rattle.words.specs.Codec.{words_in}
use Rattle.rows.specs.Place.{row_at}
use Rattle.rows.proofs.words.Goals as goal

pub returns : goal.returns
unfolding row_at
returns c =
    let a = c.args in
    c.get.ensures ∙ ap (λ (k : ℕ). words_in (take k (drop (a.i * ROW) a.t.now))) (add-sub_cancel_left (a.i * ROW) ROW)
