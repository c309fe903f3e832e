-- `above::sinks` meets its contract. Assumes nothing.
use Prim.Native.Nat.{◌<◌}
use mathlib.Core.Path.{sym, subst}
use Rattle.model.specs.declared.Version.{Version}
use Rattle.row.specs.Layout.{unpack}
use Rattle.faults.proofs.Laws.{before_none, before_is}
use Rattle.scan.proofs.Admits.{tn_fits}
use Rattle.tablefaults.specs.Clauses.{sinks}
use Rattle.tablefaults.proofs.above.sinks.Goals as goal

pub returns-then-i-eq0 : goal.returns-then-i-eq0
returns-then-i-eq0 c = before_none _ c.args.i c.if-i-eq0.true

pub key-requires-2 : goal.key-requires-2
unfolding unpack
key-requires-2 c = subst (λ (u : Version). u.id.tn.0 < 17179869184) (sym c.load-u.ensures) (tn_fits _)

pub returns : goal.returns
unfolding unpack
returns c =
    let a = c.args in
    before_is (sinks a.t.now a.v) a.i _ c.if-i-eq0.false
    (rw (c.key.ensures, c.key-2.ensures, c.load-u.ensures))
