-- `survey::beyond` meets its contract. Assumes nothing.
use mathlib.Core.Path.{subst}
use mathlib.Core.List.{List, [], append-nil}
use borrow.Author.Tests.{lt-ltb, le-ltb}
use Rattle.model.specs.declared.Version.{Version}
use Rattle.model.specs.Table.{rows_of}
use Rattle.rows.specs.Table.{decode}
use Rattle.scan.specs.Sound.{itself}
use Rattle.table.specs.Survey.{Summed, facts_at}
use Rattle.table.proofs.survey.beyond.Goals as goal

pub returns-then-low-high : goal.returns-then-low-high
returns-then-low-high c =
    let a = c.args in
    let vs = decode a.t.now.bytes.now in
    rw (lt-ltb _ _ c.if-low-high.true)
    (subst (λ (l : List Version). Summed vs l a.number (facts_at vs a.t.now.used c.under.result))
    (append-nil (rows_of itself a.high.0 vs))
    (c.under.ensures [] (c.none-p.ensures vs a.number)))

pub returns : goal.returns
returns c =
    let a = c.args in
    rw (le-ltb _ _ c.if-low-high.false) (c.none-p.ensures (decode a.t.now.bytes.now) a.number)
