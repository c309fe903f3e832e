-- `above::shared` meets its contract. Assumes nothing.
use mathlib.Core.Path.{sym}
use Rattle.model.specs.Sound.{live, sends, worked}
use Rattle.std.proofs.Common.{rules}
use Rattle.tablefaults.proofs.above.shared.Goals as goal

pub returns : goal.returns
returns c =
    rw (
      sym (c.sharer-3.ensures live (λ v b e. search rules)),
      sym (c.sharer-2.ensures sends (λ v b e. search rules)),
      sym (c.sharer.ensures worked (λ v b e. search rules)),
    ) (search rules)
