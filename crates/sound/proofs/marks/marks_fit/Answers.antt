-- `marks::marks_fit` meets its contract. Assumes nothing.
use mathlib.Core.Path.{◌≡◌, refl, ◌∙◌}
use mathlib.Core.Bool.{Bool, true, false, cond}
use Rattle.std.specs.Int.{from_bool}
use Rattle.model.specs.Sound.{sides_needed}
use Rattle.sound.specs.Marks.{marks_fit}
use Rattle.sound.proofs.Fitting.{entry_rule}
use Rattle.sound.proofs.marks.marks_fit.Goals as goal

bit : (b : Bool) → from_bool b ≡ cond b 1 0
bit true = refl
bit false = refl

pub returns : goal.returns
unfolding marks_fit sides_needed
returns c =
    let v = c.args.v in
    rw (
      c.places-places.ensures,
      c.from-live.ensures ∙ bit v.live,
      c.from-new.ensures ∙ bit v.new.created,
      c.from-old.ensures ∙ bit v.old.created,
    )
    (entry_rule v.status v.cast.purpose v.live v.new.created v.old.created c.requires.0 c.requires.1)
