-- `selection::smaller` meets its contract. Assumes nothing.

use Rattle.selection.proofs.smaller.Goals as goal

pub returns-then-partner-code : goal.returns-then-partner-code
returns-then-partner-code c = rw c.if-partner-code.true

pub returns : goal.returns
returns c = rw c.if-partner-code.false
