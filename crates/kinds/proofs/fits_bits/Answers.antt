-- The fields that `fits_bits` does not test fit their bits by their types.
-- Assumes nothing.
use mathlib.Core.Bool.{and_assoc, and-true}
use Prim.Native.Nat.{◌<◌}
use borrow.Author.Rules.{rules}
use borrow.Author.Tests.{lt-ltb}
use Rattle.model.specs.Record.{fits_bits}
use Rattle.kinds.proofs.fits_bits.Goals as goal

pub returns : goal.returns
unfolding fits_bits
returns c =
    let e = c.args.e in
    let k : e.kind < 256 = search rules in
    let a : e.cause < 256 = search rules in
    let v : e.version < 65536 = search rules in
    let t : e.time < 4294967296 = search rules in
    let d : e.due < 4294967296 = c.struct_known-6-1.given.1.1.1.1.1.1.1.1.1.0.fits in
    simp (lt-ltb _ _ k, lt-ltb _ _ a, lt-ltb _ _ v, lt-ltb _ _ t, lt-ltb _ _ d, and_assoc, and-true)
