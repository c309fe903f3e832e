-- `sides::sides_fit` meets its contract. Assumes nothing.
use mathlib.Core.Path.{sym, ◌∙◌}
use Rattle.model.specs.Sound.{providers_fit, new_whole, old_whole, cause_fits, canceller_fits, within_fits}
use Rattle.sound.proofs.Clauses.{sides_order}
use Rattle.sound.proofs.sides.sides_fit.Goals as goal

pub returns-then-not-new_whole : goal.returns-then-not-new_whole
returns-then-not-new_whole c =
    let v = c.args.v in
    sym (sides_order (providers_fit v) (new_whole v.new) (old_whole v.old) (cause_fits v.old) (canceller_fits v) (within_fits v)
    ∙ rw (sym c.new_whole.ensures ∙ c.if-not-new_whole.true))

pub returns-then-not-old_whole : goal.returns-then-not-old_whole
returns-then-not-old_whole c =
    let v = c.args.v in
    sym (sides_order (providers_fit v) (new_whole v.new) (old_whole v.old) (cause_fits v.old) (canceller_fits v) (within_fits v)
    ∙ rw (
      sym c.new_whole.ensures ∙ c.if-not-new_whole.false,
      sym c.old_whole.ensures ∙ c.if-not-old_whole.true,
    ))

pub returns : goal.returns
returns c =
    let v = c.args.v in
    rw (
      c.providers_fit.ensures,
      c.cause_fits.ensures,
      c.canceller_fits.ensures,
      c.within_fits.ensures,
    )
    (sym (sides_order (providers_fit v) (new_whole v.new) (old_whole v.old) (cause_fits v.old) (canceller_fits v) (within_fits v)
    ∙ rw (
      sym c.new_whole.ensures ∙ c.if-not-new_whole.false,
      sym c.old_whole.ensures ∙ c.if-not-old_whole.false,
    )))
