-- `classes::store` meets its contract: the places before i hold the numbers of providers 1 to i.
-- Assumes nothing.
use mathlib.Core.Path.{◌≡◌}
use lib.ListN.{take}
use Rattle.selection.specs.Classes.{class_in}
use Rattle.classes.specs.Classes.{numbers_of}
use Rattle.classes.proofs.store.Given as goal

abbrev pub invariant-loop-i : goal.invariant-loop-i
invariant-loop-i l = take l.i l.out ≡ numbers_of (class_in l.c) l.i
