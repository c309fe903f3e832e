-- `lent` meets its contract. Assumes nothing.
use mathlib.Core.Path.{sym, ap, ◌∙◌}
use borrow.Author.Rules.{rules}
use Rattle.std.specs.Prelude.{is_some}
use Rattle.soundbooks.proofs.Keeping.{kept_is, kept_marks}
use Rattle.books.proofs.Given.{sound_length, sound_splits_lem}
use Rattle.scan.proofs.Meant.{sound_says}
use Rattle.checks.proofs.Lending.{lent_unscanned, lent_sound_lem, lent_unlined, lent_unkept}
use Rattle.checks.proofs.lent.Goals as goal

pub returns-in_err-used : goal.returns-in_err-used
returns-in_err-used c =
    c.from_residual.ensures ∙ lent_unscanned c.args.marks _ _ (sym c.verdict.ensures ∙ c.in_err-used.was)

pub returns-in_err-kept : goal.returns-in_err-kept
returns-in_err-kept c =
    c.from_residual-in_err-kept.ensures
    ∙ lent_unkept c.args.marks _ _ c.in_ok-used.used (sym c.verdict.ensures ∙ c.in_ok-used.was)
    (sym (kept_is c.args.marks _) ∙ ap is_some (sym c.kept.ensures ∙ c.in_err-kept.was))

pub sound-requires : goal.sound-requires
sound-requires c =
    let z = c.type_inv.table in
    let k = kept_marks c.args.marks _ _ (sym c.kept.ensures ∙ c.in_ok-kept.was) in
    record {
      sound_table = sound_says _ _ (λ i. let f = z i in search rules) (sym c.verdict.ensures ∙ c.in_ok-used.was);
      books_len = (sound_length c.in_ok-kept.field-0 _ k.1, sound_splits_lem c.in_ok-kept.field-0 _ k.1);
    }

pub returns-then-sound : goal.returns-then-sound
returns-then-sound c =
    lent_sound_lem c.args.marks _ _ c.in_ok-used.used (sym c.verdict.ensures ∙ c.in_ok-used.was)
    (sym (kept_is c.args.marks _) ∙ ap is_some (sym c.kept.ensures ∙ c.in_ok-kept.was))
    (sym c.sound.ensures ∙ c.if-sound.true)

pub returns-else-sound : goal.returns-else-sound
returns-else-sound c =
    lent_unlined c.args.marks _ _ c.in_ok-used.used (sym c.verdict.ensures ∙ c.in_ok-used.was)
    (sym (kept_is c.args.marks _) ∙ ap is_some (sym c.kept.ensures ∙ c.in_ok-kept.was))
    (sym c.sound.ensures ∙ c.if-sound.false)
