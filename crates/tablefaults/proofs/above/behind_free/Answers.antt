-- `above::behind_free` meets its contract. Assumes nothing.
use mathlib.Core.Path.{ap, ◌∙◌}
use Rattle.words.specs.Codec.{is_blank}
use Rattle.tablefaults.specs.Clauses.{free_at}
use Rattle.faults.proofs.Laws.{before_none, before_is}
use Rattle.tablefaults.proofs.above.behind_free.Goals as goal

pub returns-then-i-eq0 : goal.returns-then-i-eq0
returns-then-i-eq0 c = before_none _ c.args.i c.if-i-eq0.true

pub returns : goal.returns
returns c =
    let a = c.args in
    before_is (free_at a.t.now) a.i _ c.if-i-eq0.false (c.blank.ensures ∙ ap is_blank c.words-w.ensures)
