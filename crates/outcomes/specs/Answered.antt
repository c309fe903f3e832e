-- What an event is answered, and how a run notes it.
-- Assumes nothing.
use Rattle.std.specs.Prelude.{List, ℕ, ◌+◌, ◌*◌, set}
use Rattle.model.specs.Outcomes.{number_of}
use Rattle.model.specs.declared.Outcome.{Outcome}
use Rattle.outcomes.specs.declared.Answer.{Answer}

-- the outcome's number, and so many messages
abbrev pub answer_of : Outcome → ℕ → Answer
answer_of o n = record { outcome = number_of o; count = n }

-- the outcome and the count of event i, in two bytes
abbrev pub noted : List ℕ → ℕ → Answer → List ℕ
noted o i a = set (set o (2 * i) a.outcome) (2 * i + 1) a.count
