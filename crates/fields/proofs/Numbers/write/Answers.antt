-- `fields::Numbers::write` meets its contract. Assumes nothing.
use Rattle.fields.specs.Calls.{event_in}
use Rattle.fields.proofs.Answers.{narrow, wide_refused}
use Rattle.fields.proofs.Numbers.write.Goals as goal

pub returns-then-not-fits_bits : goal.returns-then-not-fits_bits
returns-then-not-fits_bits c =
    wide_refused (event_in c.args.self) c.args.out.now _ c.fits_bits.ensures c.if-not-fits_bits.true

pub narrowed-requires : goal.narrowed-requires
narrowed-requires c = narrow c.args.self _ c.fits_bits.ensures c.if-not-fits_bits.false
