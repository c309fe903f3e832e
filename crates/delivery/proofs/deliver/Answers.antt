-- `delivery::deliver` meets its contract: no run, one, or two.
-- Assumes nothing.
use Rattle.delivery.proofs.Delivered.{one_asks, first_asks, second_asks, both_counted, told_mail, told_nothing, told_two}
use native.Mathlib.Omega.{arith}
use borrow.Author.Rules.{rules}
use Rattle.delivery.proofs.deliver.Goals as goal

pub run-requires : goal.run-requires
run-requires c =
    let g = one_asks c.args.mail _ c.requires.mail_len_bound c.requires.all _ c.in-One.is in record { r_bound = g.0; all = g.1 }

pub run-n-requires : goal.run-n-requires
run-n-requires c =
    let g = first_asks c.args.mail _ c.requires.mail_len_bound c.requires.all _ _ c.in-Two.is in record { r_bound = g.0; all = g.1 }

pub run-requires-in-Two : goal.run-requires-in-Two
run-requires-in-Two c =
    let g = second_asks c.args.mail _ c.requires.mail_len_bound c.requires.all _ _ c.in-Two.is _
    c.run-n.ensures.said in record { r_bound = let l = g.0 in omega arith; all = g.1 }

pub overflow_add-result : goal.overflow_add-result
overflow_add-result c =
    let l = both_counted c.args.mail _ c.requires.mail_len_bound c.requires.all _ _
    c.in-Two.is _ _
    c.run-n.ensures.said c.run-in-Two.ensures.said in omega arith

pub returns-in-One : goal.returns-in-One
returns-in-One c =
    told_mail c.args.mail _ _ _ _
    c.in-One.is c.run.ensures

pub returns-in-Two : goal.returns-in-Two
returns-in-Two c =
    told_mail c.args.mail _ _ _ _
    c.in-Two.is
    (told_two c.in-Two.r
    c.in-Two.s _ _ _ _ _
    c.run-n.ensures c.run-in-Two.ensures)

pub returns-in-Silence : goal.returns-in-Silence
returns-in-Silence c = told_mail c.args.mail _ _ _ _ c.in-Silence.is (told_nothing _)
