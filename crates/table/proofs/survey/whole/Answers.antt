-- `survey::whole` meets its contract: of what was summed, the versions that the kind asks for. Assumes nothing.
use Rattle.table.proofs.Surveys.{of_create, of_other}
use Rattle.table.proofs.survey.whole.Goals as goal

pub returns-then-create : goal.returns-then-create
returns-then-create c =
    λ rs k g. of_create _ rs k _ g _ c.if-create.true _ _ c.look.ensures c.look-then-create.ensures

pub returns : goal.returns
returns c = λ rs k g. of_other _ rs k _ g _ c.if-create.false _ _ c.look-2.ensures c.look-3.ensures
