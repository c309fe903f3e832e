-- `rows::store` meets its contract. Assumes nothing.
use mathlib.Core.Path.{ap, ◌∙◌}
use Rattle.words.specs.declared.Words.{Words}
use Rattle.words.specs.Codec.{bytes_of}
use Rattle.row.specs.Layout.{pack}
use Rattle.rows.specs.Place.{put_row}
use Rattle.rows.proofs.store.Goals as goal

pub returns : goal.returns
unfolding pack
returns c =
    let a = c.args in
    c.put.ensures ∙ ap (λ (w : Words). put_row a.t.now a.i (bytes_of w))
    c.words_of-w.ensures
