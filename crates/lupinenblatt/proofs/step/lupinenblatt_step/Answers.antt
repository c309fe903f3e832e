-- `step::lupinenblatt_step` meets its contract. Assumes nothing.
use mathlib.Core.Path.{refl}
use borrow.Author.Tests.{lt-leb}
use Rattle.engine.proofs.Stepping.{did_refuse}
use Rattle.lupinenblatt.proofs.Steps.{wide_retries}
use borrow.Author.Rules.{rules}
use Rattle.lupinenblatt.proofs.step.lupinenblatt_step.Goals as goal

pub returns-then-retries-gt-MOST_RETRIES : goal.returns-then-retries-gt-MOST_RETRIES
returns-then-retries-gt-MOST_RETRIES c =
    did_refuse _ _ _ _ _ (wide_retries c.args.providers.now c.args.books.now c.args.retries c.args.event.now
    c.args.table.now c.args.tray.now (lt-leb _ _ c.if-retries-gt-MOST_RETRIES.true)) (refl, refl)
