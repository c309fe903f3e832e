-- `scan::admit` meets its contract. Assumes nothing.
use mathlib.Core.Path.{sym, ap, ◌∙◌, subst}
use Prim.Native.Nat.{◌<◌}
use Rattle.model.specs.declared.Version.{Version}
use Rattle.model.specs.Sound.{sound_version}
use Rattle.scan.specs.Join.{join_of}
use Rattle.scan.specs.Carried.{group_of}
use Rattle.scan.proofs.Admits.{tn_fits, admit_sound, admit_unsound, admit_spare}
use Rattle.scan.proofs.admit.Goals as goal

pub follow-requires : goal.follow-requires
follow-requires c =
    (subst (λ (v : Version). v.id.tn.0 < 17179869184) (sym c.version_of-v.ensures) (tn_fits c.args.w), c.requires)

pub returns-then-sound_version : goal.returns-then-sound_version
returns-then-sound_version c =
    let a = c.args in
    let e = c.version_of-v.ensures in (
      c.follow.ensures.0 ∙ ap (join_of (group_of a.s)) e
          ∙ admit_sound (group_of a.s) a.w (sym c.spare_free.ensures
          ∙ c.if-spare_free.true) (ap sound_version (sym e) ∙ sym c.sound_version.ensures
          ∙ c.if-sound_version.true),
      c.follow.ensures.1,
    )

pub returns-else-sound_version : goal.returns-else-sound_version
returns-else-sound_version c =
    let a = c.args in
    let e = c.version_of-v.ensures in (
      admit_unsound (group_of a.s) a.w (sym c.spare_free.ensures
          ∙ c.if-spare_free.true) (ap sound_version (sym e) ∙ sym c.sound_version.ensures ∙ c.if-sound_version.false),
      tt,
    )

pub returns-else-spare_free : goal.returns-else-spare_free
returns-else-spare_free c =
    let a = c.args in
    (admit_spare (group_of a.s) a.w (sym c.spare_free.ensures ∙ c.if-spare_free.false), tt)
