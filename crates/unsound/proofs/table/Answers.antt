-- `table` meets its contract. Assumes nothing.
use mathlib.Core.Path.{sym, ap, ◌∙◌}
use Rattle.scan.proofs.Meant.{sound_says}
use Rattle.tablefaults.proofs.Verdict.{is_sound}
use Rattle.faults.specs.Faults.{told}
use Rattle.unsound.specs.Unsound.{fault_in}
use Rattle.unsound.proofs.Theorems.{own_fault, sound_fault}
use borrow.Author.Rules.{rules}
use Rattle.unsound.proofs.table.Goals as goal

pub beyond-requires : goal.beyond-requires
beyond-requires c =
    let z = c.type_inv.table in
    sound_says _ _ (λ i. let f = z i in search rules) (sym c.verdict.ensures ∙ c.in-Some.is)

pub returns-in-Some : goal.returns-in-Some
unfolding fault_in
returns-in-Some c =
    let a = c.args in
    c.tell.ensures ∙ ap told (c.beyond.ensures ∙ sound_fault a.table.now a.providers.now a.books.now
    (ap is_sound (sym c.verdict.ensures ∙ c.in-Some.is)))

pub returns-in-None : goal.returns-in-None
unfolding fault_in
returns-in-None c =
    let a = c.args in
    c.tell-in-None.ensures ∙ ap told (c.fault.ensures ∙ own_fault a.table.now a.providers.now a.books.now
    (ap is_sound (sym c.verdict.ensures ∙ c.in-None.is)))
