-- What a version's status, marks and purpose may be together.
-- Assumes nothing.
use Rattle.std.specs.Prelude.{Bool, ◌&&◌, List, [], ◌∷◌, ℕ}
use Rattle.model.specs.declared.Version.{Version}
use Rattle.model.specs.Sound.{one_created, sides_needed, purpose_fits, live_fits}

-- one side has created, and each that the status needs; the purpose and the live mark are the status's [V2, V3, V8, V9]
unfoldable pub marks_fit : Version → Bool
marks_fit v = one_created v && sides_needed v && purpose_fits v && live_fits v

-- the same as a table: of each status, the purposes and marks that fit, as bits
unfoldable pub fit_bits : List ℕ
fit_bits = 14 ∷ 10 ∷ 8 ∷ 3233860608 ∷ 3072 ∷ 49152 ∷ 3233857536 ∷ 12 ∷ 14 ∷ []
