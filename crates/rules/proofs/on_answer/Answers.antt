-- `rules::on_answer` meets its contract. Assumes nothing.
use Rattle.rules.proofs.Deciding.{refused_by_lem, done_by, answer_judges, answer_says, answer_waits, row_purpose}
use Rattle.rules.proofs.on_answer.Goals as goal

pub returns-in-Err : goal.returns-in-Err
returns-in-Err c =
    let p = c.requires.asked_value in
    refused_by_lem _ _ _ _ _ (answer_judges _ _ _ _ p.0 p.1) _ _ c.answer.ensures c.in-Err.is c.refused.ensures

pub answered-requires : goal.answered-requires
answered-requires c =
    let p = c.requires in record {
      most_le_most_retries = (p.e_value.1, row_purpose _ p.e_value.2);
      waits = answer_waits _ c.args.k.absent _ p.e_value.0 p.asked_value.1 p.e_value.2
          (done_by _ _ _ c.answer.ensures c.in_default.is);
    }

pub returns : goal.returns
returns c =
    let p = c.requires.asked_value in
    answer_says _ _ _ _ p.0 p.1 (done_by _ _ _ c.answer.ensures c.in_default.is) _ c.answered.ensures
