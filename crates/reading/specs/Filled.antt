-- What a buffer was filled with. Assumes nothing.
use Rattle.std.specs.Prelude.{ℕ, Result, Ok, Err}

-- how many bytes there are, whether all went well or a read failed behind them
abbrev pub read_in : Result ℕ ℕ → ℕ
read_in (Ok n) = n
read_in (Err n) = n
