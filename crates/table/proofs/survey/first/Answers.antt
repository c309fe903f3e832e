-- `survey::first` meets its contract. Assumes nothing.

use Rattle.table.proofs.survey.first.Goals as goal

pub returns-then-passes : goal.returns-then-passes
returns-then-passes c = rw c.if-passes.true

pub returns-else-passes : goal.returns-else-passes
returns-else-passes c = rw c.if-passes.false
