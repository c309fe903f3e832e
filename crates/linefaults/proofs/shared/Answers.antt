-- `shared` meets its contract. Assumes nothing.
use mathlib.Core.Path.{sym}
use Rattle.std.proofs.Common.{rules}
use Rattle.linefaults.proofs.shared.Goals as goal

pub returns : goal.returns
returns c =
    rw (
      sym (c.rival-live.ensures 33 (λ u b e. search rules)),
      sym (c.rival-sending.ensures 34 (λ u b e. search rules)),
      sym (c.rival-worked.ensures 35 (λ u b e. search rules)),
      sym (c.rival-numbered.ensures 36 (λ u b e. search rules)),
    ) (search rules)
