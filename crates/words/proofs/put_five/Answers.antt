-- `words::put_five` meets its contract. Assumes nothing.
use Rattle.words.proofs.Spelling.{five}
use Rattle.words.proofs.put_five.Goals as goal

pub returns : goal.returns
returns c =
    five _ _ _ _ _ _ _ _ _ _ _ _
    c.put_u64.ensures c.put_u64-2.ensures c.put_u64-3.ensures c.put_u64-4.ensures
    c.put_u64-5.ensures
