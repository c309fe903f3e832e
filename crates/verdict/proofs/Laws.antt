-- What is told to a set of systems.
-- Assumes nothing.
use mathlib.Core.Path.{◌≡◌, refl}
use Prim.Native.Nat.{ℕ}
use Rattle.model.specs.Tray.{members, download_to, downloads}
use Rattle.verdict.specs.Verdict.{to_locals}
use Rattle.model.specs.declared.Version.{Version}

-- the model's downloads of a version are the messages to the waiting, whatever provider the message to copy names
pub downloads_are : (w : Version) (p : ℕ) → to_locals (download_to w p) (members w.cast.waiting) ≡ downloads w
downloads_are w p = refl
