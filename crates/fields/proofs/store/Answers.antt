-- `fields::store` meets its contract. Assumes nothing.
use Rattle.packing.specs.Layout.{eleven_of}
use Rattle.fields.proofs.Answers.{set_all}
use Rattle.fields.proofs.store.Goals as goal

pub returns : goal.returns
returns c = set_all (eleven_of c.args.e) c.args.fields.now c.requires
