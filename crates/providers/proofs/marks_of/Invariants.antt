-- `providers::marks_of` meets its contract. The loop's invariant: what the records passed say.
-- Assumes nothing.
use mathlib.Core.Path.{◌≡◌}
use mathlib.Core.List.{map}
use Rattle.std.specs.Prelude.{Some}
use Rattle.providers.specs.Growth.{listed_to}
use Rattle.providers.proofs.marks_of.Given as goal

abbrev pub invariant-loop-i : goal.invariant-loop-i
invariant-loop-i g l = Some l.m ≡ listed_to (map g.E.Entry.says l.list) l.i
