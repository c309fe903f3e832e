-- `delivery::soas` meets its contract.
-- Assumes nothing.
use Rattle.delivery.proofs.Delivered.{small_first, small_second, told_both}
use borrow.Author.Rules.{rules}
use Rattle.delivery.proofs.soas.Goals as goal

pub put_message-requires : goal.put_message-requires
put_message-requires c = (search rules, small_first _ _ _ c.to_soa.ensures c.requires.all)

pub put_message-requires-2 : goal.put_message-requires-2
put_message-requires-2 c = (search rules, small_second _ _ _ c.to_soa-2.ensures c.requires.all)

pub returns : goal.returns
returns c =
    told_both _ _ _ _ _ _ _ _ c.to_soa.ensures
    c.to_soa-2.ensures c.put_message.ensures
    c.put_message-2.ensures
