-- `found` meets its contract. Assumes nothing.
use Prim.Native.Nat.{◌<◌}
use mathlib.Core.Path.{◌≡◌, sym, ap, ◌∙◌, subst}
use mathlib.Core.Bool.{false}
use native.Mathlib.Omega.{arith}
use Rattle.model.specs.declared.Version.{Version}
use Rattle.words.specs.Codec.{is_blank}
use Rattle.scan.proofs.Admits.{tn_fits}
use Rattle.tablefaults.specs.Clauses.{free_at, row_found}
use Rattle.tablefaults.proofs.found.Goals as goal

pub returns-then-blank : goal.returns-then-blank
unfolding row_found
returns-then-blank c =
    rw (ap is_blank (sym c.words-w.ensures), sym c.blank.ensures ∙ c.if-blank.true)

pub shared-shared-requires : goal.shared-shared-requires
shared-shared-requires c =
    (omega arith, subst (λ (v : Version). v.id.tn.0 < 17179869184) (sym c.version_of-v.ensures) (tn_fits _))

pub returns : goal.returns
unfolding row_found
returns c =
    let a = c.args in
    let used : free_at a.t.now a.i ≡ false = ap is_blank (sym c.words-w.ensures)
    ∙ (sym c.blank.ensures ∙ c.if-blank.false) in
    rw (
      used,
      c.form.ensures,
      c.ranges-ranges.ensures,
      c.sides-sides.ensures,
      c.cast-cast.ensures,
      c.shared-shared.ensures,
      c.typed-typed.ensures,
      c.version_of-v.ensures,
      c.words-w.ensures,
    )
