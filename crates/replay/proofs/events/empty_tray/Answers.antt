-- How long a repeated value is, by its law and not by counting.
use Rattle.std.proofs.Common.{ℕ, sym}
use Rattle.std.proofs.lemmas.List.{length-replicate}
use Rattle.replay.proofs.events.empty_tray.Goals as goal

pub returns : goal.returns
returns c = sym (length-replicate {A = ℕ} 1572864 0)
