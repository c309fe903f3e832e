-- What a sound version gives of a system that it waits for.
-- Assumes nothing.
use Rattle.std.specs.Prelude.{◌≡◌, true, false, ℕ, ◌≤◌}
use Rattle.model.specs.Numbers.{last_provider}
use Rattle.systems.specs.Set.{member}
use Rattle.model.specs.declared.Broadcast.{Broadcast}
use Rattle.answers.specs.Octals.{Octals}

-- system p is waited for, and is in neither of the other sets
pub record Waits (c : Broadcast) (p : ℕ) : Type 0 where
  pub named : 1 ≤ p
  pub few : p ≤ last_provider
  pub waiting : member c.waiting p ≡ true
  pub unconfirmed : member c.confirmed p ≡ false
  pub unfailed : member c.failed p ≡ false
  pub words : Octals c.retries
