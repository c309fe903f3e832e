-- `words::blank` meets its contract. Assumes nothing.
use mathlib.Core.Path.{◌∙◌}
use mathlib.Core.Bool.{and_assoc}
use Rattle.words.specs.Codec.{is_blank}
use Rattle.words.proofs.blank.Goals as goal

pub returns : goal.returns
unfolding is_blank
returns c =
    let d = c.default.ensures in
    c.eq.ensures ∙ simp (
      d.0,
      d.1.0,
      d.1.1.0,
      d.1.1.1.0,
      d.1.1.1.1.0,
      d.1.1.1.1.1.0,
      d.1.1.1.1.1.1.0,
      d.1.1.1.1.1.1.1.0,
      d.1.1.1.1.1.1.1.1.0,
      d.1.1.1.1.1.1.1.1.1,
      and_assoc,
    )
