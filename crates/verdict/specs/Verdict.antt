-- What a verdict means: the model's changes of the table and its messages, in their order.
-- Assumes nothing.
use Rattle.std.specs.Prelude.{ℕ, true, false, List, [], ◌∷◌, ◌++◌, map}
use Rattle.model.specs.Table.{Change, put, add, strike}
use Rattle.model.specs.Given.{Result}
use Rattle.model.specs.Tray.{members}
use Rattle.model.specs.declared.Message.{Message}
use Rattle.verdict.specs.declared.Rows.{Rows}
use Rattle.verdict.specs.declared.Rows.TheVariants.{Nothing, Put, PutTwo, Add, Strike}
use Rattle.verdict.specs.declared.To.{To}
use Rattle.verdict.specs.declared.To.TheVariants.{Soa, Soas, Local, Locals}
use Rattle.verdict.specs.declared.Run.{Run}
use Rattle.verdict.specs.declared.Mail.{Mail}
use Rattle.verdict.specs.declared.Mail.TheVariants.{Silence, One, Two}
use Rattle.verdict.specs.declared.Verdict.{Verdict}

-- ---- rows

abbrev pub changes_of : Rows → List Change
changes_of Nothing = []
changes_of (Put v i) = put v ∷ []
changes_of (PutTwo v i w j) = put v ∷ put w ∷ []
changes_of (Add v) = add v ∷ []
changes_of (Strike i k) = strike k ∷ []

-- ---- messages

-- the same message to a provider's SOA, and to its Local SMS
abbrev pub to_soa : Message → ℕ → Message
to_soa m p = record {
  local = false;
  provider = p;
  sort = m.sort;
  id = m.id;
  status = m.status;
  failed = m.failed;
  lrn = m.lrn;
}

abbrev pub to_local : Message → ℕ → Message
to_local m p = record {
  local = true;
  provider = p;
  sort = m.sort;
  id = m.id;
  status = m.status;
  failed = m.failed;
  lrn = m.lrn;
}

-- to the Local SMSs of some providers
abbrev pub to_locals : Message → List ℕ → List Message
to_locals m ps = map (to_local m) ps

-- those of a set are told with rising provider
abbrev pub toward : Message → To → List Message
toward m (Soa p) = to_soa m p ∷ []
toward m (Soas p q) = to_soa m p ∷ to_soa m q ∷ []
toward m (Local p) = to_local m p ∷ []
toward m (Locals s) = to_locals m (members s)

abbrev pub run_of : Run → List Message
run_of r = toward r.say r.to

abbrev pub messages_of : Mail → List Message
messages_of Silence = []
messages_of (One r) = run_of r
messages_of (Two r s) = run_of r ++ run_of s

-- ---- both, with the outcome

abbrev pub result_of : Verdict → Result
result_of v = record { out = v.out; sent = messages_of v.mail; does = changes_of v.rows }
