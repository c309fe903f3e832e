-- `run::lupinenblatt_run` meets its contract. Assumes nothing.
use mathlib.Core.Path.{refl}
use native.Mathlib.Omega.{arith}
use mathlib.Core.List.{map}
use borrow.Author.Tests.{lt-leb}
use Rattle.providers.specs.Providers.{listed, entry_of}
use Rattle.batch.proofs.Refusing.{went_refused}
use Rattle.lupinenblatt.proofs.Steps.{wide_run}
use borrow.Author.Rules.{rules}
use Rattle.lupinenblatt.proofs.run.lupinenblatt_run.Goals as goal

pub returns-then-retries-gt-MOST_RETRIES : goal.returns-then-retries-gt-MOST_RETRIES
returns-then-retries-gt-MOST_RETRIES c =
    went_refused (listed (map entry_of c.args.providers.now)) c.args.books.now c.args.retries c.args.events.now
    c.args.table.now c.args.tray.now c.args.outcomes.now 1 _ refl
    (wide_run (listed (map entry_of c.args.providers.now)) c.args.books.now c.args.retries c.args.events.now
    c.args.table.now c.args.tray.now c.args.outcomes.now (lt-leb _ _ c.if-retries-gt-MOST_RETRIES.true)) (λ z. omega (arith, z))
