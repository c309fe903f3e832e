-- `find::place` meets its contract. Assumes nothing.
use Prim.Native.Nat.{◌+◌, ◌*◌}
use mathlib.Core.Path.{◌∙◌}
use native.Mathlib.Omega.{arith}
use Rattle.table.proofs.Sought.{sound_rises, sound_place}
use Rattle.table.proofs.find.place.Goals as goal

pub lower-requires : goal.lower-requires
lower-requires c =
    record {
      n_in_bounds = omega (arith, c.requires.sound_table.whole, c.requires.sound_table.room);
      rises = sound_rises c.args.t.now c.args.n c.requires.sound_table;
      k_bound = omega arith;
    }

pub returns : goal.returns
returns c =
    c.lower.ensures ∙ sound_place c.args.t.now c.args.n c.requires.sound_table (c.args.k.tn.0 * 65536 + c.args.k.number)
