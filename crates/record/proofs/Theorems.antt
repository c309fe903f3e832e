-- The top statements on the event record. Each is about the definitions that the promises of `read` and `write` cite.
-- Assumes nothing.
use mathlib.Core.Path.{◌≡◌, sym, ap, ◌∙◌}
use mathlib.Core.Bool.{Bool, true, cond}
use mathlib.Core.List.{List}
use Prim.Native.Nat.{ℕ}
use borrow.Author.Tests.{eq-eqb}
use lib.ListN.{length}
use lib.Dec.{eqb}
use Rattle.octets.specs.Octets.{Bytes, be}
use Rattle.octets.proofs.Laws.{bytes_digits, length_digits}
use Rattle.octets.specs.Fields.{cut, join}
use Rattle.octets.proofs.Fields.{and_r}
use Rattle.model.specs.declared.Event.{Event}
use Rattle.std.specs.Prelude.{Ok}
use Rattle.model.specs.Record.{well_formed}
use Rattle.packing.specs.Layout.{widths, fields_of, bytes_of, read_event, writable, Written}
use Rattle.packing.proofs.Inverse.{said_done, record_one, read_written, written_read, bytes_are, fields_are}

-- Reading answers a record only for well-formed fields. [E5]
pub read_is_formed : (xs : List ℕ) (e : Event) → read_event xs ≡ Ok e → well_formed e ≡ true
read_is_formed xs e q = (fields_are (cut widths (be 24 xs 0)) e (bytes_are xs e q).1).1

-- WRITE, THEN READ: the bytes that a write has left, saying 0, read to the fields that it was given. [E6]
pub write_then_read : (e : Event) (xs ys : List ℕ) → Written e xs ys 0 → read_event ys ≡ Ok e
write_then_read e xs ys w =
    let q : writable e xs ≡ true = said_done (writable e xs) w.said in
    ap read_event (w.after ∙ ap (λ (b : Bool). cond b (bytes_of e) xs) q) ∙ read_written e (and_r (eqb (length xs) 24) (well_formed e) q)

-- READ, THEN WRITE: what was read writes back to the same bytes, on any 24 bytes, and says 0. [E6]
pub read_then_write : (xs : List ℕ) → Bytes xs → (e : Event) → read_event xs ≡ Ok e
    → (ys zs : List ℕ) (r : ℕ) → length ys ≡ 24 → Written e ys zs r → (zs ≡ xs) × (r ≡ 0)
read_then_write xs h e q ys zs r l w =
    let f : well_formed e ≡ true = read_is_formed xs e q in
    (w.after ∙ simp (eq-eqb (length ys) 24 l, f) (written_read xs h e q), w.said ∙ simp (eq-eqb (length ys) 24 l, f))

-- EVERY VALID SET OF FIELDS HAS ONE RECORD: 24 bytes that read to it, and no others. [E6]
pub record OneRecord (e : Event) : Type 0 where
  pub whole : length (bytes_of e) ≡ 24
  pub bytes : Bytes (bytes_of e)
  pub reads : read_event (bytes_of e) ≡ Ok e
  pub only : (xs : List ℕ) → Bytes xs → read_event xs ≡ Ok e → xs ≡ bytes_of e

pub one_record : (e : Event) → well_formed e ≡ true → OneRecord e
unfolding bytes_of
one_record e w =
    record {
      whole = length_digits 24 (join widths (fields_of e));
      bytes = bytes_digits 24 (join widths (fields_of e));
      reads = read_written e w;
      only = λ xs h q. sym (written_read xs h e q);
    }

-- and two sets of fields never share one [E6]
pub record_apart : (d e : Event) → well_formed d ≡ true → well_formed e ≡ true → bytes_of d ≡ bytes_of e → d ≡ e
record_apart d e v w q = record_one d e (sym (read_written d v) ∙ rw q (read_written e w))

-- The promise of `write` allows one result. (That of `read` is an equation.) [H2]
pub written_one : (e : Event) (xs ys zs : List ℕ) (r s : ℕ) → Written e xs ys r → Written e xs zs s → (ys ≡ zs) × (r ≡ s)
written_one e xs ys zs r s p q = (p.after ∙ sym q.after, p.said ∙ sym q.said)
