-- `delivery::run` meets its contract, by whom the run is for.
-- Assumes nothing.
use Rattle.delivery.proofs.Delivered.{small_first, told_one, room_to, small_to, told_to}
use native.Mathlib.Omega.{arith}
use borrow.Author.Rules.{rules}
use Rattle.delivery.proofs.run.Goals as goal

pub put_message-requires : goal.put_message-requires
put_message-requires c =
    let e = c.in-Soa.is in (
      let l = room_to c.args.r _ e _ _ c.requires.r_bound in
          omega arith,
      small_first _ _ _ c.to_soa.ensures (small_to c.args.r _ e c.requires.all),
    )

pub soas-requires : goal.soas-requires
soas-requires c =
    let e = c.in-Soas.is in
    record { at_bound = room_to c.args.r _ e _ _ c.requires.r_bound; all = small_to c.args.r _ e c.requires.all }

pub put_message-requires-in-Local : goal.put_message-requires-in-Local
put_message-requires-in-Local c =
    let e = c.in-Local.is in (
      let l = room_to c.args.r _ e _ _ c.requires.r_bound in
          omega arith,
      small_first _ _ _ c.to_local.ensures (small_to c.args.r _ e c.requires.all),
    )

pub put_downloads-requires : goal.put_downloads-requires
put_downloads-requires c =
    let e = c.in-Locals.is in
    record { set_bound = room_to c.args.r _ e _ _ c.requires.r_bound; all = small_to c.args.r _ e c.requires.all }

pub returns-in-Soa : goal.returns-in-Soa
returns-in-Soa c =
    told_to c.args.r _ c.in-Soa.is _ _ _ _
    (told_one _ _ _ _ _ c.to_soa.ensures c.put_message.ensures)

pub returns-in-Soas : goal.returns-in-Soas
returns-in-Soas c = told_to c.args.r _ c.in-Soas.is _ _ _ _ c.soas.ensures

pub returns-in-Local : goal.returns-in-Local
returns-in-Local c =
    told_to c.args.r _ c.in-Local.is _ _ _ _
    (told_one _ _ _ _ _ c.to_local.ensures c.put_message-in-Local.ensures)

pub returns-in-Locals : goal.returns-in-Locals
returns-in-Locals c = told_to c.args.r _ c.in-Locals.is _ _ _ _ c.put_downloads.ensures
