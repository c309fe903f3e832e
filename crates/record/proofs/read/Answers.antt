-- `record::read` meets its contract. Assumes nothing.
use mathlib.Core.Path.{sym, ◌∙◌}
use mathlib.Core.Bool.{true, false}
use native.Mathlib.Omega.{arith}
use Rattle.record.proofs.Codec.{read_length, read_spare, read_fields_lem}
use Rattle.record.proofs.read.Goals as goal

pub returns-then-s-ne-RECORD : goal.returns-then-s-ne-RECORD
returns-then-s-ne-RECORD c = read_length _ (λ q. omega arith)

pub returns-then-third-ne0 : goal.returns-then-third-ne0
returns-then-third-ne0 c =
    read_spare c.args.s.now c.u64_at-first.result c.u64_at-second.result c.u64_at-third.result
    (omega (arith, c)) c.u64_at-first.ensures c.u64_at-second.ensures c.u64_at-third.ensures
    (omega (arith, c.u64_at-second)) (omega (arith, c.u64_at-third)) c.if-third-ne0.true

pub returns-then-well_formed : goal.returns-then-well_formed
returns-then-well_formed c =
    read_fields_lem c.args.s.now c.u64_at-first.result c.u64_at-second.result c.u64_at-third.result
    (omega (arith, c)) c.u64_at-first.ensures c.u64_at-second.ensures c.u64_at-third.ensures
    (omega (arith, c.u64_at-second)) (omega (arith, c.u64_at-third))
    c.unpack-e.result true c.unpack-e.ensures (sym c.if-well_formed.true ∙ c.well_formed-2.ensures) c.if-third-ne0.false

pub returns-else-well_formed : goal.returns-else-well_formed
returns-else-well_formed c =
    read_fields_lem c.args.s.now c.u64_at-first.result c.u64_at-second.result c.u64_at-third.result
    (omega (arith, c)) c.u64_at-first.ensures c.u64_at-second.ensures c.u64_at-third.ensures
    (omega (arith, c.u64_at-second)) (omega (arith, c.u64_at-third))
    c.unpack-e.result false c.unpack-e.ensures (sym c.if-well_formed.false ∙ c.well_formed-2.ensures) c.if-third-ne0.false
