-- `find::versions` meets its contract. Assumes nothing.
use Prim.Native.Nat.{ℕ, ◌+◌, ◌*◌}
use mathlib.Core.Path.{◌∙◌, ap}
use native.Mathlib.Nat.{add-zero}
use native.Mathlib.Omega.{arith}
use Rattle.rows.specs.Table.{decode}
use Rattle.table.specs.Find.{keys_of, place_in}
use Rattle.table.proofs.Finds.{lower_more}
use Rattle.table.proofs.Sought.{sound_rises, sound_place}
use Rattle.table.proofs.find.versions.Goals as goal

pub lower-from-requires : goal.lower-from-requires
lower-from-requires c =
    record {
      n_in_bounds = omega (arith, c.requires.sound_table.whole, c.requires.sound_table.room);
      rises = sound_rises c.args.t.now c.args.n c.requires.sound_table;
      k_bound = omega arith;
    }

pub reach-to-requires : goal.reach-to-requires
reach-to-requires c =
    let a = c.args in
    omega (
      arith,
      c.lower-from.ensures,
      sound_place a.t.now a.n c.requires.sound_table ((a.tn.0 + 1) * 65536 + 0),
      lower_more (a.tn.0 * 65536) ((a.tn.0 + 1) * 65536 + 0) (omega arith) (keys_of a.n a.t.now),
    )

pub returns : goal.returns
returns c =
    let a = c.args in
    let at = sound_place a.t.now a.n c.requires.sound_table in (
      c.lower-from.ensures ∙ at (a.tn.0 * 65536),
      c.reach-to.ensures ∙ ap (λ (k : ℕ). place_in k (decode a.t.now)) (add-zero ((a.tn.0 + 1) * 65536)),
    )
