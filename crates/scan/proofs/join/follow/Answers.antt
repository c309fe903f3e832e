-- `join::follow` meets its contract. Assumes nothing.
use Rattle.scan.proofs.Carries.{follow_go, follow_few, follow_late, follow_twice}
use Rattle.scan.proofs.join.follow.Goals as goal

pub returns-then-had-has-eq0 : goal.returns-then-had-has-eq0
returns-then-had-has-eq0 c =
    let h = c.had_of-had in
    let m = c.bits_of-has in (
      follow_go c.args.s c.args.v c.requires.1 h.result m.result h.ensures.0 m.ensures.0
          c.if-s-last.true c.if-had-has-eq0.true,
      follow_few c.args.s c.args.v c.requires.1 h.result m.result h.ensures.0 m.ensures.0
          c.if-s-last.true c.if-had-has-eq0.true,
    )

pub returns-else-had-has-eq0 : goal.returns-else-had-has-eq0
returns-else-had-has-eq0 c =
    let h = c.had_of-had in
    let m = c.bits_of-has in
    (follow_twice c.args.s c.args.v c.requires.1 h.result m.result h.ensures.0 m.ensures.0 c.if-had-has-eq0.false, tt)

pub returns-else-s-last : goal.returns-else-s-last
returns-else-s-last c =
    let h = c.had_of-had in
    let m = c.bits_of-has in
    (follow_late c.args.s c.args.v c.requires.1 h.result m.result h.ensures.0 m.ensures.0 c.if-s-last.false, tt)
