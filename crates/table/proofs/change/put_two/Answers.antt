-- `change::put_two` meets its contract. Assumes nothing.
use mathlib.Core.Path.{◌∙◌}
use Rattle.table.proofs.Steps.{stores_put}
use Rattle.table.proofs.change.put_two.Goals as goal

pub returns : goal.returns
returns c =
    let a = c.args in
    let o = c.requires.over.0 in
    let q = c.requires.over.1 in
    c.store_two.ensures ∙ stores_put a.t.now a.n c.requires.sound_table a.i a.v a.j a.w o.place
    q.place o.name q.name
