-- `survey::none` meets its contract. Assumes nothing.
use Rattle.table.proofs.Surveys.{none_surveyed}
use Rattle.table.proofs.survey.none.Goals as goal

pub returns : goal.returns
returns c = λ vs k. none_surveyed vs c.args.n k
