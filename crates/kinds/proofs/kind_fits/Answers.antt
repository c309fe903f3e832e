-- `kinds::kind_fits` meets its contract. Assumes nothing.
use mathlib.Core.Path.{◌≡◌, ◌∙◌, sym}
use mathlib.Core.Logic.{⊎_elim}
use native.Mathlib.Omega.{arith}
use Rattle.model.specs.Record.{kind_fits}
use Rattle.kinds.proofs.KindCases.{above, plain}
use Rattle.kinds.proofs.kind_fits.Goals as goal

pub returns-in-1 : goal.returns-in-1
unfolding kind_fits
returns-in-1 c = c.new_creates.ensures ∙ simp c.in-1.is

pub returns-in-2 : goal.returns-in-2
unfolding kind_fits
returns-in-2 c = c.old_creates.ensures ∙ simp c.in-2.is

pub returns-in-3 : goal.returns-in-3
unfolding kind_fits
returns-in-3 c = c.new_modifies.ensures ∙ simp c.in-3.is

pub returns-in-4 : goal.returns-in-4
unfolding kind_fits
returns-in-4 c = c.old_modifies.ensures ∙ simp c.in-4.is

pub returns-in-9 : goal.returns-in-9
unfolding kind_fits
returns-in-9 c = c.modifies_active.ensures ∙ simp c.in-9.is

pub returns-in-11 : goal.returns-in-11
unfolding kind_fits
returns-in-11 c = c.replies.ensures ∙ simp c.in-11.is

pub returns-in-12 : goal.returns-in-12
unfolding kind_fits
returns-in-12 c = c.silent.ensures ∙ simp c.in-12.is

pub returns-in_default : goal.returns-in_default
unfolding kind_fits
returns-in_default c =
    let z : c.args.e.kind ≡ 0 = omega arith in
    simp z

pub returns-in_default-2 : goal.returns-in_default-2
returns-in_default-2 c = sym (above c.args.e (omega arith))

pub returns-in-5-to-8 : goal.returns-in-5-to-8
unfolding kind_fits
returns-in-5-to-8 c =
    c.plainly.ensures
    ∙ ⊎_elim
    (λ w.
    let z : c.args.e.kind ≡ 10 = omega arith in
    simp z)
    (λ w.
    plain c.args.e (omega arith) (omega arith) (λ q. omega arith) (λ q. omega arith) (λ q. omega arith) (λ q. omega arith)
    (λ q. omega arith) (λ q. omega arith) (λ q. omega arith) (λ q. omega arith))
    c.in-5-to-8-1.branch-raw
