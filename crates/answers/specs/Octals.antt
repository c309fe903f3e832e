-- What the retries of a sound version have.
-- Assumes nothing.
use Rattle.std.specs.Prelude.{◌^◌, ◌<◌}
use Rattle.model.specs.declared.Retries.{Retries}

-- the three words have their highest bit free
pub record Octals (r : Retries) : Type 0 where
  pub low : r.low < 2 ^ 63
  pub mid : r.mid < 2 ^ 63
  pub high : r.high < 2 ^ 63
