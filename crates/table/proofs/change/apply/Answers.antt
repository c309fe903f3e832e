-- `table::change::apply` meets its contract, by the rows that change.
-- Assumes nothing.
use Rattle.table.proofs.Applied.{asks, applied, struck}
use Rattle.table.proofs.change.apply.Goals as goal

pub put_at-requires : goal.put_at-requires
put_at-requires c =
    record { sound_table = c.requires.sound_table; over = asks _ _ _ c.args.rows _ c.in-Put.is c.requires.applicable }

pub put_two-requires : goal.put_two-requires
put_two-requires c =
    record { sound_table = c.requires.sound_table; over = asks _ _ _ c.args.rows _ c.in-PutTwo.is c.requires.applicable }

pub add_new-requires : goal.add_new-requires
add_new-requires c =
    record { sound_table = c.requires.sound_table; fresh = asks _ _ _ c.args.rows _ c.in-Add.is c.requires.applicable }

pub strike_at-requires : goal.strike_at-requires
strike_at-requires c =
    record { sound_table = c.requires.sound_table; i_lt_n = (asks _ _ _ c.args.rows _ c.in-Strike.is c.requires.applicable).0 }

pub returns-in-Put : goal.returns-in-Put
returns-in-Put c =
    applied _ _ c.args.rows _
    c.in-Put.is c.put_at.ensures

pub returns-in-PutTwo : goal.returns-in-PutTwo
returns-in-PutTwo c =
    applied _ _ c.args.rows _
    c.in-PutTwo.is c.put_two.ensures

pub returns-in-Add : goal.returns-in-Add
returns-in-Add c =
    applied _ _ c.args.rows _
    c.in-Add.is c.add_new.ensures

pub returns-in-Strike : goal.returns-in-Strike
returns-in-Strike c =
    struck _ _ _ c.args.rows _ _
    c.in-Strike.is c.requires.applicable
    c.strike_at.ensures

pub returns-in-Nothing : goal.returns-in-Nothing
returns-in-Nothing c = applied _ _ c.args.rows _ c.in-Nothing.is c.requires.sound_table.is
