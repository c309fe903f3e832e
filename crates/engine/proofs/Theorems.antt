-- What is proved of one step, and of many, over bytes. Each statement speaks of `result_of`, which the promise of the step cites.
-- Assumes nothing.
use mathlib.Core.Path.{◌≡◌, sym, ap, ap₂, ◌∙◌, subst}
use Prim.Native.Nat.{ℕ, ◌≤◌}
use mathlib.Core.Bool.{Bool, true, false}
use mathlib.Core.List.{List, [], map}
use lib.ListN.{length}
use Rattle.model.specs.Given.{Result}
use Rattle.model.specs.Outcomes.{is_done}
use Rattle.providers.specs.Providers.{listed, entry_of}
use Rattle.checks.specs.Checks.{soundness_lent}
use Rattle.std.specs.Prelude.{Some}
use Rattle.tray.specs.Tray.{places_in, put_all, read_places}
use Rattle.tray.proofs.Laws.{tray_reads}
use Rattle.octets.specs.Octets.{Bytes}
use Rattle.packing.specs.Layout.{read_event}
use Rattle.outcomes.specs.declared.Answer.{Answer}
use Rattle.engine.specs.Event.{Did}
use Rattle.engine.specs.Step.{result_in, result_of}
use Rattle.engine.specs.Demands.{is_record, ByteDemand3}
use Rattle.model.proofs.Outcomes.{zero_done, other_refused}
use Rattle.engine.proofs.Keeping.{refused_silent, result_few, used_after, done_scanned}
use Rattle.engine.proofs.Exactly.{lent_sound, one_lent, lent_one, two_lent, lent_two}
use Rattle.engine.proofs.Mail.{sent_fits}
use Rattle.engine.proofs.Bytewise.{byte_reordering}

-- The promise allows one result: two steps on the same bytes leave the same table, the same tray and the same answer. [H2]
pub did_one : (x : Result) (t y u z v w : List ℕ) (a c : Answer) → Did x t y u z a → Did x t y v w c
    → (u ≡ v) × (z ≡ w) × (a.outcome ≡ c.outcome) × (a.count ≡ c.count)
did_one x t y u z v w a c d e =
    (d.table ∙ sym e.table, d.tray ∙ sym e.tray, d.outcome ∙ sym e.outcome, d.count ∙ sym e.count)

module _ (p b : List ℕ) (most : ℕ) (e t y u z : List ℕ) (a : Answer) (d : Did (result_of p b most e t y) t y u z a) where
  -- table, provider list and books are sound, R is 0 to 7, and the tray has 64 whole places
  abbrev pub Lends : Bool
  Lends = lent_sound (listed (map entry_of p)) b most e t y

  -- Demand 1: after a refusal table and tray hold the bytes that they held before, and no message is told. [O1]
  pub refusal_keeps : (a.outcome ≡ 0 → ⊥) → (u ≡ t) × (z ≡ y) × (a.count ≡ 0)
  unfolding put_all
  refusal_keeps h =
      let r : is_done (result_of p b most e t y).out ≡ false = other_refused (result_of p b most e t y).out (λ q. h (d.outcome ∙ q)) in
      let n : (result_of p b most e t y).sent ≡ [] = refused_silent (listed (map entry_of p)) b most e t y r in
      (d.table ∙ rw r, d.tray ∙ ap (put_all y 0) n, d.count ∙ ap length n)

  -- Every outcome 0 leaves a table that the soundness check accepts. [V12]
  pub done_accepted : a.outcome ≡ 0 → soundness_lent (listed (map entry_of p)) b u
      ≡ Some (used_after (listed (map entry_of p)) b most e t y)
  done_accepted h =
      ap (soundness_lent (listed (map entry_of p)) b) d.table ∙ done_scanned (listed (map entry_of p)) b most e t y
      (ap is_done (zero_done (result_of p b most e t y).out (sym d.outcome ∙ h)))

  -- Outcome 1 exactly when table, provider list or books are unsound, R is above 7, or the tray has fewer than 64 whole places. [O2]
  pub one_exactly : Bytes t → (a.outcome ≡ 1 → Lends ≡ false) × (Lends ≡ false → a.outcome ≡ 1)
  one_exactly h = (
    λ q. one_lent (listed (map entry_of p)) b most e t y h (sym d.outcome ∙ q),
    λ q. d.outcome ∙ lent_one (listed (map entry_of p)) b most e t y h q,
  )

  -- Outcome 2 exactly when all that is sound, and the record is not 24 bytes or malformed. [O9]
  pub two_exactly : Bytes t
      → (a.outcome ≡ 2 → (Lends ≡ true) × (is_record (read_event e) ≡ false)) × (Lends ≡ true → is_record (read_event e) ≡ false
      → a.outcome ≡ 2)
  two_exactly h = (
    λ q. two_lent (listed (map entry_of p)) b most e t y h (sym d.outcome ∙ q),
    λ q m. d.outcome ∙ lent_two (listed (map entry_of p)) b most e t y h q m,
  )

  -- At most 63 messages.
  pub few_messages : a.count ≤ 63
  few_messages = subst (λ (n : ℕ). n ≤ 63) (sym d.count) (result_few (listed (map entry_of p)) b most e t y)

  -- The first places of the tray, as many as the count says, read back as the messages of the event, in their order. [Y8]
  pub messages_read_back : Bytes t → read_places z 0 a.count ≡ (result_of p b most e t y).sent
  messages_read_back h =
      ap₂ (λ (l : List ℕ) (n : ℕ). read_places l 0 n) d.tray d.count
      ∙ tray_reads (result_of p b most e t y).sent y (sent_fits (listed (map entry_of p)) b most e t y h)

-- A step sees the tray only by its number of whole places. [Y8]
pub tray_by_places : (p b : List ℕ) (most : ℕ) (e t y z : List ℕ) → places_in y ≡ places_in z
    → result_of p b most e t y ≡ result_of p b most e t z
unfolding result_in
tray_by_places p b most e t y z h = rw h

-- Demand 3, over bytes: see specs/Demands.antt. [H4]
pub demand3_bytes : ByteDemand3
demand3_bytes = byte_reordering
