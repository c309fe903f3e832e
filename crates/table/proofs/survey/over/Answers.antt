-- `survey::over` meets its contract. Assumes nothing.
use mathlib.Core.Path.{ap, ◌∙◌}
use mathlib.Core.Bool.{Bool, cond, not, ◌&&◌, ◌||◌}
use mathlib.Core.List.{[]}
use Prim.Native.Nat.{◌-◌, ◌<◌}
use native.Mathlib.Omega.{arith}
use Rattle.std.specs.Prelude.{Some}
use Rattle.model.specs.Sound.{numbered, sends}
use Rattle.row.specs.Layout.{unpack}
use Rattle.rows.specs.Table.{decode}
use Rattle.table.specs.Survey.{at_place, seen_at}
use Rattle.table.proofs.Sought.{sound_load}
use Rattle.table.proofs.Surveys.{survey_turns, place_seen}
use Rattle.table.proofs.survey.over.Goals as goal

pub loop-i-preserved : goal.loop-i-preserved
loop-i-preserved c =
    let a = c.args in
    let vs = decode a.t.now.bytes.now in
    let i = c.loop-i.i - 1 in
    let v = c.load-v.result in
    let p = c.loop-i.sum in
    let h : i < a.t.now.used = omega (arith, c.loop-i-test.true, c.loop-i.auto, c.requires.from_le_to) in
    let e = c.load-v.ensures ∙ sound_load a.t.now.bytes.now a.t.now.used c.args.t.now.sound i (unpack []) h in (
      omega (arith, c.loop-i-test.true),
      λ r g. survey_turns vs r a.number a.to i c.loop-i.i v _ _
          (omega (arith, c.loop-i-test.true))
          (omega (arith, c.loop-i-test.true, c.loop-i.auto))
          (omega (arith, c.requires.from_le_to, c.args.t.now.sound.count))
          e
          (λ x. record {
            newest = c.max.ensures x;
            stamp = c.max-in-loop-i.ensures x;
            sends = sends v || p.sends;
            blocked = (not (numbered a.number v) && sends v) || p.blocked;
            former = place_seen vs a.t.now.used (not (numbered a.number v) && v.live) i v p.former _ c.first.ensures h e x;
            live = place_seen vs a.t.now.used v.live i v p.live _ c.first-in-loop-i.ensures h e x;
            worked =
                (place_seen vs a.t.now.used c.is_worked.result i v p.worked _ c.first-in-loop-i-2.ensures h e
                ∙ ap (λ (b : Bool). cond b (Some (at_place i v)) (seen_at vs a.t.now.used p.worked)) c.is_worked.ensures) x;
            asked = place_seen vs a.t.now.used (numbered a.number v) i v p.asked _ c.first-in-loop-i-3.ensures h e x;
          })
          (c.loop-i.invariant.1 r g),
    )
