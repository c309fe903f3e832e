-- One event on a sound table: what it is given, and what it leaves.
-- Assumes nothing.
use Rattle.std.specs.Prelude.{◌≡◌, ℕ, ◌≤◌, Bool, true, cond, List, ltb, length, Option}
use Rattle.std.proofs.Math.Option.{some}
use Rattle.model.specs.Step.{PLACES}
use Rattle.model.specs.Table.{changes, rows_of}
use Rattle.model.specs.Numbers.{code_of}
use Rattle.model.specs.Books.{owner_of}
use Rattle.model.specs.Record.{is_create, is_broadcast, well_formed}
use Rattle.model.specs.Selection.{selected_for}
use Rattle.model.specs.Outcomes.{is_done, number_of}
use Rattle.model.specs.Given.{Given, Result}
use Rattle.judge.specs.Judged.{absent_in}
use Rattle.rules.specs.declared.Known.{Known}
use Rattle.books.specs.Packed.{decode_books, sound_bytes}
use Rattle.rows.specs.Table.{decode, encode}
use Rattle.scan.specs.Sound.{rows_in}
use Rattle.lines.specs.Lines.{line_by}
use Rattle.table.specs.Survey.{the_one}
use Rattle.table.specs.declared.survey.Placed.{Placed}
use Rattle.tray.specs.Tray.{put_all}
use Rattle.outcomes.specs.declared.Answer.{Answer}
use Rattle.model.specs.declared.Event.{Event}
use Rattle.model.specs.declared.Version.{Version}
use Rattle.model.specs.declared.Marks.{Marks}

-- the rows of the event's line
abbrev pub line_rows : List ℕ → Event → List Version → List Version
line_rows b e vs = rows_of (line_by b) (line_by b e.tn.0) vs

-- what the rules see of the bytes
abbrev pub given_to : Marks → List ℕ → ℕ → List ℕ → Event → Given
given_to m b most t e = record {
  books = decode_books m b;
  most = most;
  free = ltb (length (decode t)) (rows_in t);
  event = e;
  rows = line_rows b e (decode t);
}

-- what the rules are told beside the versions, where `asked` is the one that the event names
pub record KnownTo (m : Marks) (b : List ℕ) (R : ℕ) (row : Bool) (e : Event) (asked : Option Placed) (k : Known) : Type 0 where
  pub most : k.most ≡ R
  pub absent : k.absent ≡ absent_in m e
  pub owner : is_create e.kind ≡ true → k.owner ≡ owner_of (decode_books m b) (code_of e.tn)
  pub free : k.free ≡ row
  pub selected : is_broadcast e.kind ≡ true → (v : Version) → the_one asked ≡ some v
      → k.selected ≡ selected_for (decode_books m b) v.id.tn

-- the books are sound, the event well formed, and the tray has its places
pub record Ready (m : Marks) (b : List ℕ) (e : Event) (k : ℕ) : Type 0 where
  pub sound : sound_bytes m b ≡ true
  pub formed : well_formed e ≡ true
  pub places : PLACES ≤ k

-- the table after a result: where it is done, the bytes of the changed versions
abbrev pub table_after : Result → List ℕ → List ℕ
table_after x t = cond (is_done x.out) (encode (changes x.does (decode t)) (rows_in t)) t

-- the outcome's number, the count, the table and the tray are those of the result
pub record Did (x : Result) (t y after tray_after : List ℕ) (a : Answer) : Type 0 where
  pub outcome : a.outcome ≡ number_of x.out
  pub count : a.count ≡ length x.sent
  pub table : after ≡ table_after x t
  pub tray : tray_after ≡ put_all y 0 x.sent
