-- `selection::classify` meets its contract: the pass has what the classes need.
-- Assumes nothing.
use Rattle.books.specs.Packed.{decode_books}
use Rattle.selection.proofs.Classing.{class_each}
use Rattle.selection.proofs.classify.Goals as goal

pub returns : goal.returns
returns c =
    let a = c.args in
    let r = c.one_pass-pass.ensures in
    record {
      each = class_each (decode_books a.marks a.books.now) a.code _ _ r.selected r.paired;
      selected = r.selected;
    }
