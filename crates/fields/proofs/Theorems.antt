-- The top statements on the calls for C, each about what the promises cite.
-- Assumes nothing.
use mathlib.Core.Path.{◌≡◌, sym, ◌∙◌}
use mathlib.Core.List.{List}
use Prim.Native.Nat.{ℕ, ◌<◌}
use lib.ListN.{length, get_or}
use Rattle.model.specs.declared.Event.{Event}
use Rattle.model.specs.Record.{Reading}
use Rattle.packing.specs.Layout.{eleven_of, event_of, read_event, Written}
use Rattle.record.proofs.Theorems.{write_then_read, read_then_write}
use Rattle.fields.specs.Calls.{FIELDS, Handed}
use Rattle.fields.proofs.Answers.{handed_is, handed_done}

-- WRITE, THEN READ: what a write has left, saying 0, is handed back to eleven places, saying 0. [E6]
pub call_write_then_read : (e : Event) (xs ys us vs : List ℕ) (n : ℕ) → Written e xs ys 0 → length us ≡ FIELDS
    → Handed (read_event ys) us vs n → (vs ≡ eleven_of e) × (n ≡ 0)
call_write_then_read e xs ys us vs n w l h = handed_is (read_event ys) e us vs n (write_then_read e xs ys w) l h

-- READ, THEN WRITE: the fields that a read has handed over, saying 0, write back to the same bytes, saying 0. [E6]
pub call_read_then_write : (bs : List ℕ) → ((i : ℕ) → get_or bs i 0 < 256) → (us vs : List ℕ) → Handed (read_event bs) us vs 0
    → (ys zs : List ℕ) (r : ℕ) → length ys ≡ 24 → Written (event_of vs) ys zs r → (zs ≡ bs) × (r ≡ 0)
call_read_then_write bs h us vs d ys zs r l w = read_then_write bs h (event_of vs) (handed_done (read_event bs) us vs d) ys zs r l w

-- The promise of `lupinenblatt_record_read` allows one result; that of `lupinenblatt_record_write` is `write`'s own (`IsWritten-one`). [H2]
pub handed_one : (g : Reading) (xs ys zs : List ℕ) (m n : ℕ) → Handed g xs ys m → Handed g xs zs n → (ys ≡ zs) × (m ≡ n)
handed_one g xs ys zs m n p q = (p.after ∙ sym q.after, p.said ∙ sym q.said)
