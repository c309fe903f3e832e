-- `shape_fits` meets its contract. Assumes nothing.
use mathlib.Core.Path.{sym, ◌∙◌}
use borrow.Author.Tests.{leb-true}
use Rattle.sound.specs.Order.{shape_fits}
use Rattle.sound.proofs.Clauses.{outline_status, outline_purpose}
use Rattle.sound.proofs.shape_fits.Goals as goal

pub returns-then-not-outline_fits : goal.returns-then-not-outline_fits
unfolding shape_fits
returns-then-not-outline_fits c =
    rw (sym c.outline_fits.ensures ∙ c.if-not-outline_fits.true)

pub marks_fit-requires : goal.marks_fit-requires
marks_fit-requires c =
    let v = c.args.v in
    let e = sym c.outline_fits.ensures ∙ c.if-not-outline_fits.false in
    (leb-true _ _ (outline_status v e), leb-true _ _ (outline_purpose v e))

pub returns-then-not-marks_fit : goal.returns-then-not-marks_fit
unfolding shape_fits
returns-then-not-marks_fit c =
    rw (
      sym c.outline_fits.ensures ∙ c.if-not-outline_fits.false,
      sym c.marks_fit.ensures ∙ c.if-not-marks_fit.true,
    )

pub returns : goal.returns
unfolding shape_fits
returns c =
    rw (
      sym c.outline_fits.ensures
          ∙ c.if-not-outline_fits.false,
      sym c.marks_fit.ensures ∙ c.if-not-marks_fit.false,
    )
    c.sides_fit.ensures
