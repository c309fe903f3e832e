-- The clauses on a broadcast's sets and retries, together as the code asks them.
-- Assumes nothing.
use Rattle.std.specs.Prelude.{Bool, ◌&&◌}
use Rattle.model.specs.declared.Broadcast.{Broadcast}
use Rattle.model.specs.Numbers.{is_set}
use Rattle.model.specs.Sound.{retries_in_range, sets_apart, retries_fit}

-- the sets [V1, V6]
unfoldable pub sets_fit : Broadcast → Bool
sets_fit c = is_set c.confirmed && is_set c.waiting && is_set c.failed && sets_apart c

-- the retries [V1, V6]
unfoldable pub retries_sound : Broadcast → Bool
retries_sound c = retries_in_range c.retries && retries_fit c
