-- `accepted::restated` meets its contract. Assumes nothing.
use borrow.Author.Tests.{eq-eqb, ne_eqb}
use Rattle.rules.proofs.Ruled.{one_told, two_told}
use borrow.Author.Rules.{rules}
use Rattle.rules.proofs.accepted.restated.Goals as goal

pub returns-then-v-w : goal.returns-then-v-w
returns-then-v-w c =
    λ t free h. record {
      is = rw (eq-eqb _ _ c.if-v-w.true) (one_told c.sides-attributes.result
          c.sides-attributes.ensures);
      sits = h;
    }

pub returns : goal.returns
returns c =
    λ t free h. record {
      is = rw (ne_eqb _ _ c.if-v-w.false) (two_told c.sides-status.result
          c.sides-attributes.result c.sides-status.ensures c.sides-attributes.ensures);
      sits = h;
    }
