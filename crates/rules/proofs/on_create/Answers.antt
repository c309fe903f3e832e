-- `rules::on_create` meets its contract. Assumes nothing.
use Rattle.rules.proofs.Deciding.{refused_by_lem, done_by, create_judges, create_room, create_says}
use Rattle.rules.proofs.on_create.Goals as goal

pub returns-in-Err : goal.returns-in-Err
returns-in-Err c =
    refused_by_lem _ _ _ _ _ (create_judges _ _ _ c.requires) _ _ c.create.ensures c.in-Err.is c.refused.ensures

pub created-requires : goal.created-requires
created-requires c =
    create_room c.args.e c.args.k c.args.f c.requires (done_by _ _ _ c.create.ensures c.in_default.is)

pub returns : goal.returns
returns c =
    create_says _ _ _ c.requires (done_by _ _ _ c.create.ensures c.in_default.is) _ c.created.ensures
