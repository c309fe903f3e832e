-- `event::owner` meets its contract. Assumes nothing.
use mathlib.Core.Path.{sym, ap, ◌∙◌}
use Rattle.model.specs.Books.{owner_of}
use Rattle.model.proofs.Lists.{clash}
use Rattle.books.proofs.Given.{sound_length}
use Rattle.engine.proofs.event.owner.Goals as goal

pub owner-requires : goal.owner-requires
owner-requires c = sound_length _ _ c.requires

pub returns-then-is_create : goal.returns-then-is_create
returns-then-is_create c = λ _. c.owner.ensures c.args.marks ∙ ap (owner_of _) c.code_of.ensures

pub returns : goal.returns
returns c = λ k. clash (sym (sym c.is_create.ensures ∙ c.if-is_create.false) ∙ k)
