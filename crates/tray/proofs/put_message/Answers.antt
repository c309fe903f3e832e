-- `tray::put_message` meets its contract: three words, put one after the other.
-- Assumes nothing.
use Rattle.tray.proofs.Laws.{message-put}
use Rattle.tray.proofs.put_message.Goals as goal

pub returns : goal.returns
returns c =
    message-put c.args.tray.now _ _ _ c.args.place _ _ c.args.m c.requires.0
    c.head_of-head.ensures
    c.tail_of-tail.ensures
    c.put_u64.ensures
    c.put_u64-2.ensures c.put_u64-3.ensures
