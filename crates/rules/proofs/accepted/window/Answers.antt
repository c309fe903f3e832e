-- `accepted::window` meets its contract. Assumes nothing.
use mathlib.Core.Path.{sym, ◌∙◌}
use Rattle.rules.proofs.Ruled.{window_marks_lem, window_turns}
use borrow.Author.Rules.{rules}
use Rattle.rules.proofs.accepted.window.Goals as goal

pub returns-then-window_marks : goal.returns-then-window_marks
returns-then-window_marks c =
    window_marks_lem _ _ _ _ _ (sym c.window_marks.ensures ∙ c.if-window_marks.true)
    c.window_marked.ensures c.marked.ensures

pub returns : goal.returns
returns c =
    window_turns _ _ _ _ _ (sym c.window_marks.ensures ∙ c.if-window_marks.false)
    c.window_turned.ensures c.turned.ensures
