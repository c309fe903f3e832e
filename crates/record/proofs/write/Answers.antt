-- `record::write` meets its contract. Assumes nothing.
use mathlib.Core.Path.{sym, ◌∙◌}
use native.Mathlib.Omega.{arith}
use Rattle.record.proofs.Codec.{fitted, written, refused_length, refused_fields}
use Rattle.record.proofs.write.Goals as goal

pub returns-then-out-ne-RECORD : goal.returns-then-out-ne-RECORD
returns-then-out-ne-RECORD c =
    let a = c.args in
    refused_length a.e a.out.now (λ q. omega arith)

pub returns-then-not-well_formed : goal.returns-then-not-well_formed
returns-then-not-well_formed c =
    let a = c.args in
    refused_fields a.e a.out.now (sym c.well_formed-2.ensures ∙ c.if-not-well_formed.true)

pub pack-w-requires : goal.pack-w-requires
pack-w-requires c = fitted c.args.e (sym c.well_formed-2.ensures ∙ c.if-not-well_formed.false)

pub returns : goal.returns
returns c =
    let a = c.args in
    let w = c.pack-w.result in
    written a.e a.out.now c.put_u64.new.s c.put_u64-2.new.s c.put_u64-3.new.s w.first w.second w.third
    (omega (arith, c)) (sym c.well_formed-2.ensures ∙ c.if-not-well_formed.false)
    c.pack-w.ensures (omega (arith, c.pack-w)) (omega (arith, c.pack-w))
    c.put_u64.ensures c.put_u64-2.ensures c.put_u64-3.ensures
