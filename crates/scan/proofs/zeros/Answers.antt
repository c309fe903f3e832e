-- `scan::zeros` meets its contract. Assumes nothing.
use Rattle.words.specs.Codec.{words_in, is_blank}
use Rattle.scan.proofs.zeros.Goals as goal

pub returns : goal.returns
unfolding is_blank words_in
returns c =
    rw (
      c.u64_at.ensures,
      c.u64_at-2.ensures,
      c.u64_at-3.ensures,
      c.u64_at-4.ensures,
      c.u64_at-5.ensures,
      c.u64_at-6.ensures,
      c.u64_at-7.ensures,
      c.u64_at-8.ensures,
      c.u64_at-9.ensures,
      c.u64_at-10.ensures,
    )
