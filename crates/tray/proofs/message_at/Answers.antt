-- `tray::message_at` meets its contract: the message that three words are.
-- Assumes nothing.
use mathlib.Core.Path.{◌∙◌, ap, ap₂}
use Prim.Native.Nat.{ℕ}
use Rattle.tray.specs.Tray.{message_of}
use Rattle.tray.proofs.message_at.Goals as goal

pub returns : goal.returns
returns c =
    c.message_of.ensures ∙ ap₂ (λ (x y : ℕ). message_of x y c.u64_at-failed.result)
    c.u64_at-head.ensures c.u64_at-tail.ensures ∙ ap (message_of _ _) c.u64_at-failed.ensures
