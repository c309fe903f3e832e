-- `classes::write` meets its contract: each answer is a law of proofs/Writing.
-- Assumes nothing.
use Rattle.classes.proofs.Writing.{unsound, malformed, classified}
use Rattle.classes.proofs.write.Goals as goal

pub returns-in_default : goal.returns-in_default
returns-in_default c =
    unsound _ _ _ _ _ c.lists.ensures c.in_default.is

pub returns-then-not-formed : goal.returns-then-not-formed
returns-then-not-formed c =
    malformed _ _ _ _ _ c.lists.ensures
    _ c.in-Some.is _ c.formed.ensures c.if-not-formed.true

pub returns : goal.returns
returns c =
    classified _ _ _ _ _ c.lists.ensures
    _ c.in-Some.is _ c.formed.ensures c.if-not-formed.false _ c.code_of.ensures _ c.classify-c.ensures _ c.store.ensures
