-- `decimal::number` meets its contract: what the text spells is what the number so far and the digits behind it spell.
-- Assumes nothing.
use Rattle.std.proofs.Common.{◌≡◌, drop}
use Rattle.decimal.specs.Decimal.{spelled_from, spelled}
use Rattle.decimal.proofs.number.Given as goal

abbrev pub invariant-loop-b : goal.invariant-loop-b
invariant-loop-b l = spelled l.text ≡ spelled_from l.n (drop l.b-index l.text)
