-- `marks::fault` meets its contract. Assumes nothing.
use borrow.Author.Tests.{le-leb, lt-leb}
use lib.ListN.{length}
use Rattle.bookfaults.specs.Clauses.{mark_found, providers_fault}
use Rattle.std.proofs.Common.{rules}
use Rattle.bookfaults.proofs.marks.fault.Goals as goal

pub returns-then-p-gt-PROVIDERS : goal.returns-then-p-gt-PROVIDERS
unfolding providers_fault
returns-then-p-gt-PROVIDERS c = rw (c.whole.ensures, lt-leb (length c.args.p.now) 63 c.if-p-gt-PROVIDERS.true)

pub returns : goal.returns
unfolding providers_fault
returns c =
    rw (c.first.ensures (mark_found c.args.p.now) (λ i r k e. search rules), le-leb (length c.args.p.now) 63 c.if-p-gt-PROVIDERS.false)
