-- `change::add_new` meets its contract. Assumes nothing.
use mathlib.Core.Path.{◌≡◌, ap, ◌∙◌}
use Prim.Native.Nat.{ℕ}
use native.Mathlib.Omega.{arith}
use Rattle.row.specs.Layout.{pack}
use Rattle.rows.specs.Place.{ins_row}
use Rattle.rows.specs.Table.{decode}
use Rattle.table.specs.Find.{key_for, place_in}
use Rattle.table.proofs.Sought.{place_le}
use Rattle.table.proofs.Steps.{insert_puts}
use borrow.Author.Rules.{rules}
use Rattle.table.proofs.change.add_new.Goals as goal

pub insert-requires : goal.insert-requires
insert-requires c =
    let a = c.args in
    let s = c.requires.sound_table in
    let i : c.place-i.result ≡ place_in (key_for a.v) (decode a.t.now) = c.place-i.ensures in
    record {
      i_le_n = omega (arith, i, place_le (key_for a.v) (decode a.t.now), s.count, s.whole, c.requires.fresh.free);
      in_bits = c.requires.fresh.small;
    }

pub returns : goal.returns
returns c =
    let a = c.args in
    let f = c.requires.fresh in
    c.insert.ensures
    ∙ ap (λ (i : ℕ). ins_row a.t.now i a.n (pack a.v)) c.place-i.ensures
    ∙ insert_puts a.t.now a.n c.requires.sound_table a.v f.free (search rules) f.absent
