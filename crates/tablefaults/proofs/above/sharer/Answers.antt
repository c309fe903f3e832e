-- `above::sharer` meets its contract. Assumes nothing.
use mathlib.Core.Path.{sym, ◌∙◌}
use mathlib.Core.Bool.{and-true, and-false}
use Rattle.faults.proofs.Laws.{nearest_none}
use Rattle.tablefaults.specs.Clauses.{version_at}
use Rattle.tablefaults.proofs.above.sharer.Goals as goal

-- what v has not it shares with nobody
pub returns-then-not-has : goal.returns-then-not-has
returns-then-not-has g c p a =
    sym (nearest_none _ c.args.i (λ j k. rw (sym (a c.args.v _ c.has.ensures) ∙ c.if-not-has.true, and-false)))

pub returns : goal.returns
returns g c p a =
    c.nearest.ensures _
    (λ j b k e. e.2 ∙ rw (a (version_at c.args.t.now j) e.0 e.1, sym (a c.args.v _ c.has.ensures) ∙ c.if-not-has.false, and-true))
