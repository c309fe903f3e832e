-- `beyond` meets its contract: s is the start. Assumes nothing.
use mathlib.Core.Path.{sym, ap, ◌∙◌}
use Rattle.std.specs.Prelude.{Some}
use Rattle.books.proofs.Given.{sound_length, sound_splits_lem}
use Rattle.unsound.proofs.Theorems.{books_fault_lem, no_fault, line_fault_lem, books_kept}
use Rattle.unsound.proofs.beyond.Goals as goal

pub returns-then-books_check-ne0 : goal.returns-then-books_check-ne0
returns-then-books_check-ne0 c =
    ap Some c.whole.ensures ∙ books_fault_lem _ c.args.providers.now c.args.books.now c.args.n c.requires
    (λ z. c.if-books_check-ne0.true (c.books_check.ensures ∙ z))

pub sound-requires : goal.sound-requires
sound-requires c =
    let k = books_kept c.args.table.now c.args.providers.now c.args.books.now c.args.n c.requires
    (sym c.books_check.ensures ∙ c.if-books_check-ne0.false) in
    record { sound_table = c.requires; books_len = (sound_length _ _ k, sound_splits_lem _ _ k) }

pub returns-then-sound : goal.returns-then-sound
returns-then-sound c =
    no_fault _ c.args.providers.now c.args.books.now c.args.n c.requires
    (sym c.books_check.ensures ∙ c.if-books_check-ne0.false)
    (sym c.sound.ensures ∙ c.if-sound.true)

pub fault-requires : goal.fault-requires
fault-requires c =
    let k = books_kept c.args.table.now c.args.providers.now c.args.books.now c.args.n c.requires
    (sym c.books_check.ensures ∙ c.if-books_check-ne0.false) in
    record { sound_table = c.requires; books_len = (sound_length _ _ k, sound_splits_lem _ _ k) }

pub returns : goal.returns
returns c =
    c.fault.ensures ∙ line_fault_lem _ c.args.providers.now c.args.books.now c.args.n c.requires
    (sym c.books_check.ensures ∙ c.if-books_check-ne0.false)
