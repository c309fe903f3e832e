-- `tray::put_downloads` meets its contract. The loop's invariant: what is left to be put, put from here, gives the whole.
-- Assumes nothing.
use borrow.Author.Rules.{rules}
use mathlib.Core.Bool.{true, false}
use mathlib.Core.List.{List}
use Prim.Native.Nat.{ℕ, ◌+◌, ◌-◌, ◌<◌}
use mathlib.Core.Path.{◌≡◌, refl, sym, ap, ◌∙◌, subst}
use native.Mathlib.Omega.{arith}
use lib.ListN.{length}
use Rattle.systems.specs.Set.{member, count}
use Rattle.verdict.specs.Verdict.{to_local, to_locals}
use Rattle.tray.specs.Tray.{put_all}
use Rattle.tray.proofs.Laws.{put-length}
use Rattle.tray.proofs.Downloads.{members-above, count_out, count_in, length_locals, room, small_local, put_step, skip_step}
use Rattle.tray.proofs.Downloads.{put_end}
use Rattle.tray.proofs.put_downloads.Goals.{then-has, else-has}
use Rattle.tray.proofs.put_downloads.Goals as goal

pub loop-provider-init : goal.loop-provider-init
unfolding count
loop-provider-init c = (refl, search rules, refl)

pub put_message-requires : goal.put_message-requires
put_message-requires c =
    let a = c.args in
    let l = c.loop-provider in
    let p = l.provider - 1 in
    let e : l.provider ≡ p + 1 = omega (arith, l.auto) in
    let h : p < 63 = omega (arith, l.auto, c.loop-provider-test.true) in
    let in' : member a.set (p + 1) ≡ true = subst (λ (j : ℕ). member a.set j ≡ true) e (sym c.has.ensures ∙ c.if-has.true) in (
      room a.tray.now l.tray a.m a.from l.at p a.set h in' l.invariant.1 c.requires.set_bound l.invariant.0,
      small_local a.m _ a.set p c.requires.all h in' (c.to_local.ensures ∙ ap (to_local a.m) e),
    )

pub overflow_add-at : goal.overflow_add-at
overflow_add-at c =
    let a = c.args in
    let l = c.loop-provider in
    let p = l.provider - 1 in
    let e : l.provider ≡ p + 1 = omega (arith, l.auto) in
    let h : p < 63 = omega (arith, l.auto, c.loop-provider-test.true) in
    let in' : member a.set (p + 1) ≡ true = subst (λ (j : ℕ). member a.set j ≡ true) e (sym c.has.ensures ∙ c.if-has.true) in
    omega (arith, room a.tray.now l.tray a.m a.from l.at p a.set h in' l.invariant.1 c.requires.set_bound l.invariant.0)

pub loop-provider-preserved : goal.loop-provider-preserved
loop-provider-preserved c =
    let a = c.args in
    let l = c.loop-provider in
    let p = l.provider - 1 in
    let e : l.provider ≡ p + 1 = omega (arith, l.auto) in
    let n : l.provider + 1 - 1 ≡ p + 1 = omega (arith, l.auto) in
    let h : p < 63 = omega (arith, l.auto, c.loop-provider-test.true) in
    elim c.if-has.branch [
      | then-has w ↦
          let in' : member a.set (p + 1) ≡ true = subst (λ (j : ℕ). member a.set j ≡ true) e (sym c.has.ensures ∙ w.if-has.true) in
          let r = room a.tray.now l.tray a.m a.from l.at p a.set h in' l.invariant.1 c.requires.set_bound l.invariant.0 in
          rw (w.tray-is, w.at-is, n) (
            ap length w.put_message.ensures ∙ put-length l.tray l.at _ r ∙ l.invariant.0,
            omega (arith, l.invariant.1, count_in a.set p in'),
            put_step l.tray _ l.at p a.m _ a.set h in' (w.to_local.ensures ∙ ap (to_local a.m) e) w.put_message.ensures ∙ l.invariant.2,
          )
      | else-has w ↦
          let out : member a.set (p + 1) ≡ false = subst (λ (j : ℕ). member a.set j ≡ false) e (sym c.has.ensures ∙ w.if-has.false) in
          rw (w.tray-is, w.at-is, n) (
            l.invariant.0,
            l.invariant.1 ∙ ap (λ (k : ℕ). a.from + k) (sym (count_out a.set p out)),
            skip_step l.tray l.at p a.m a.set h out ∙ l.invariant.2,
          )
    ]

pub returns : goal.returns
returns c =
    let a = c.args in
    let l = c.loop-provider in
    let p = l.provider - 1 in
    let e : p ≡ 63 = omega (arith, l.auto, c.loop-provider-test.false) in
    record {
      tray = sym (put_end l.tray l.at p a.m a.set (omega (arith, e))) ∙ l.invariant.2
          ∙ ap (λ (ps : List ℕ). put_all a.tray.now a.from (to_locals a.m ps)) (sym (members-above a.set));
      said = omega (arith, l.invariant.1, ap (count a.set) e, length_locals a.m a.set);
    }
