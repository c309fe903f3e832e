-- `rules::on_other` meets its contract. Assumes nothing.
use Rattle.rules.proofs.Deciding.{refused_by_lem, done_by, other_judges, other_says, grid_asks, row_purpose}
use Rattle.rules.proofs.on_other.Goals as goal

pub other-requires : goal.other-requires
other-requires c = let p = c.requires in grid_asks _ _ p.e_value.0 p.asked_value.1 p.asked_value.2 p.e_value.1

pub returns-in-Err : goal.returns-in-Err
returns-in-Err c =
    let p = c.requires.asked_value in
    refused_by_lem _ _ _ _ _ (other_judges _ _ _ _ p.0 p.1 p.2) _ _ c.other.ensures c.in-Err.is c.refused.ensures

pub managed-requires : goal.managed-requires
managed-requires c = row_purpose _ c.requires.e_value.1

pub returns : goal.returns
returns c =
    let p = c.requires.asked_value in
    other_says _ _ _ _ p.0 p.1 p.2 (done_by _ _ _ c.other.ensures c.in_default.is) _ c.managed.ensures
