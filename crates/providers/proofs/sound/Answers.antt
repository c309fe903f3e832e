-- `providers::sound` meets its contract.
-- Assumes nothing.
use borrow.Author.Rules.{rules}
use Rattle.providers.proofs.MarksLaws.{sound_bits}
use Rattle.providers.proofs.sound.Goals as goal

pub returns : goal.returns
returns c = sound_bits c.args.marks (search rules) (search rules)
