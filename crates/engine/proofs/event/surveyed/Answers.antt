-- `engine::event::surveyed` meets its contract: the rows under the two names are those of the line. Assumes nothing.
use Rattle.engine.proofs.Deciding.{surveyed_for}
use Rattle.engine.proofs.event.surveyed.Goals as goal

pub returns : goal.returns
returns c =
    surveyed_for c.args.books.now c.args.e _ _ _ _ c.line_names-line.ensures
    c.is_create.ensures c.line.ensures
