-- `sets::retries_sound` meets its contract. Assumes nothing.
use mathlib.Core.Path.{◌≡◌, sym}
use borrow.Author.Rules.{rules}
use Rattle.sets.proofs.Everys.{retries_zero}
use Rattle.sets.proofs.retries_sound.Goals as goal

pub returns-then-eq : goal.returns-then-eq
returns-then-eq c =
    let r = c.args.c.retries in
    let low : r.low ≡ 0 = search (rules, c.if-eq.ensures, c.default.ensures) in
    let mid : r.mid ≡ 0 = search (rules, c.if-eq.ensures, c.default.ensures) in
    let high : r.high ≡ 0 = search (rules, c.if-eq.ensures, c.default.ensures) in
    sym (retries_zero c.args.c low mid high)
