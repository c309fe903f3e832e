-- `tray::put_downloads` meets its contract. The loop's invariant: what is left to be put, put from here, gives the whole.
-- Assumes nothing.
use Prim.Native.Nat.{◌+◌, ◌-◌}
use mathlib.Core.Path.{◌≡◌}
use lib.ListN.{length}
use Rattle.systems.specs.Set.{count}
use Rattle.verdict.specs.Verdict.{to_locals}
use Rattle.tray.specs.Tray.{put_all}
use Rattle.tray.proofs.Downloads.{above}
use Rattle.tray.proofs.put_downloads.Given as goal

abbrev pub invariant-loop-provider : goal.invariant-loop-provider
invariant-loop-provider l = (length l.tray ≡ length l.initial.tray) × (l.at ≡ l.from + count l.set (l.provider - 1))
    × (put_all l.tray l.at (to_locals l.m (above l.set (l.provider - 1))) ≡ put_all l.initial.tray l.from (to_locals l.m (above l.set 0)))
