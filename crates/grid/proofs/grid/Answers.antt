-- `grid::grid` meets its contract. Assumes nothing.
use mathlib.Core.Path.{sym, ap, ◌∙◌}
use Prim.Native.Nat.{ℕ}
use Rattle.model.specs.Standing.{grid_rule, kind_at}
use Rattle.model.proofs.Cells.{cells, by_place, grid_kind, no_standing}
use Rattle.grid.proofs.grid.Goals as goal

pub returns-then-standing-ge-OTHER : goal.returns-then-standing-ge-OTHER
returns-then-standing-ge-OTHER c = sym (no_standing c.args.status c.args.kind c.args.standing c.if-standing-ge-OTHER.true)

pub returns : goal.returns
unfolding cells
returns c =
    let a = c.args in
    let k = grid_kind a.kind c.requires.1 in
    by_place a.status c.place_of-place.result a.standing c.requires.0 c.place_of-place.ensures.1 c.if-standing-ge-OTHER.false
    ∙ ap (λ (j : ℕ). grid_rule a.status (kind_at j) a.standing) c.place_of-place.ensures.0
    ∙ ap (λ (j : ℕ). grid_rule a.status j a.standing) k.1
