-- `change::put_at` meets its contract. Assumes nothing.
use mathlib.Core.Path.{◌∙◌}
use Rattle.table.proofs.Steps.{store_puts}
use Rattle.table.proofs.change.put_at.Goals as goal

pub returns : goal.returns
returns c =
    let a = c.args in
    let o = c.requires.over in
    c.store.ensures ∙ store_puts a.t.now a.n c.requires.sound_table a.i a.v o.place o.name
