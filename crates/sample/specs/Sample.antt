-- A provider list that stands in the code. [Z1]
-- Assumes nothing.
use Rattle.std.specs.Prelude.{true, List, [], ◌∷◌}
use Rattle.model.specs.declared.Provider.{Provider}

-- present, and runs a Local SMS
abbrev pub both : Provider
both = record { present = true; local = true }

-- providers 1 to 3
abbrev pub three : List Provider
three = both ∷ both ∷ both ∷ []
