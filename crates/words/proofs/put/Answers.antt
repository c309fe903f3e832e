-- `words::put` meets its contract. Assumes nothing.
use mathlib.Core.Path.{ap, ◌∙◌}
use mathlib.Core.List.{List}
use Prim.Native.Nat.{ℕ}
use Rattle.words.specs.Codec.{stored, last_of}
use Rattle.words.proofs.Spelling.{fill}
use Rattle.words.proofs.put.Goals as goal

pub returns : goal.returns
returns c =
    c.put_five-2.ensures
    ∙ ap (λ (l : List ℕ). stored l 40 (last_of c.args.w)) c.put_five.ensures
    ∙ fill c.args.b.now c.args.w c.requires
