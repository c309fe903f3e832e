-- `rows::store_two` meets its contract. Assumes nothing.
use mathlib.Core.Path.{ap, ◌∙◌}
use mathlib.Core.List.{List}
use Prim.Native.Nat.{ℕ}
use Rattle.row.specs.Layout.{pack}
use Rattle.rows.specs.Place.{put_row}
use Rattle.rows.proofs.store_two.Goals as goal

pub returns : goal.returns
returns c =
    let a = c.args in
    c.store-2.ensures
    ∙ ap (λ (l : List ℕ). put_row l a.j (pack a.w)) c.store.ensures
