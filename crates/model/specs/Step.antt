-- One event on a table, and a list of them.
-- Assumes nothing.
use Rattle.std.specs.Prelude.{ℕ, Bool, cond, not, ◌&&◌, List, [], ◌∷◌, ◌++◌, eqb, ltb, leb, length, Ok, Err}
use Rattle.std.proofs.Math.Option.{Option, none, some}
use Rattle.model.specs.Kinds as kind
use Rattle.model.specs.Books.{Books, sound_books, sound_retries, line_of}
use Rattle.model.specs.Table.{strike, rows_of, changes}
use Rattle.model.specs.Sound.{sound_table}
use Rattle.model.specs.Record.{Reading, is_create, is_modify, is_answer, is_broadcast, well_formed}
use Rattle.model.specs.Outcomes.{order_of, judge}
use Rattle.model.specs.Given.{Given, Result, refuse, accept, unless, found, rest}
use Rattle.model.specs.Creates.{creates}
use Rattle.model.specs.Changes.{modifies, turns, cancelled, acknowledged, resolved, window_runs}
use Rattle.model.specs.Broadcast.{broadcasts}
use Rattle.model.specs.Answers.{answers}
use Rattle.model.specs.Refusals.{refuses}
use Rattle.model.specs.declared.Version.{Version}
use Rattle.model.specs.declared.Event.{Event}
use Rattle.model.specs.declared.Message.{Message}
use Rattle.model.specs.declared.Outcome.{Outcome}
use Rattle.model.specs.declared.Outcome.TheVariants.{Unsound, Malformed, Unknown}

-- ---- what an accepted event does

-- Purge removes the row; later rows move up. Nobody is told. [U1, Y7]
abbrev pub purges : Version → Result
purges v = accept [] (strike v.id ∷ [])

-- kinds 3 to 10 and 13 to 15
unfoldable pub manages : Books → Event → Version → List Version → Result
manages bk e v others =
    cond (is_modify e.kind) (modifies e v)
    (cond (eqb e.kind kind.cancel) (turns (cancelled e v))
    (cond (eqb e.kind kind.acknowledge) (turns (acknowledged e v))
    (cond (eqb e.kind kind.resolve) (turns (resolved e v))
    (cond (eqb e.kind kind.window_ran_out) (window_runs e v)
    (cond (is_broadcast e.kind) (broadcasts bk e v others)
    (purges v))))))

abbrev pub when_found : Option Version → (Version → Result) → Result
when_found none f = refuse Unknown
when_found (some v) f = f v

unfoldable pub accepted : Given → Result
accepted g =
    cond (is_create g.event.kind) (creates g.event g.rows)
    (cond (is_answer g.event.kind) (when_found (found g) (λ (v : Version). answers g.most g.event v (rest g)))
    (when_found (found g) (λ (v : Version). manages g.books g.event v (rest g))))

-- ---- the rules: refused in the order of its kind, or done

abbrev pub judged : Given → Outcome
judged g = judge (refuses g) (order_of g.event.kind)

unfoldable pub rule : Given → Result
rule g = unless (judged g) (accepted g)

-- ---- one step

-- the books, R, and how many rows the table and how many whole places the tray has
pub record Setting : Type 0 where
  pub books : Books
  pub most : ℕ
  pub rows : ℕ
  pub places : ℕ

-- the tray's smallest size
abbrev pub PLACES : ℕ
PLACES = 64

abbrev pub line : Setting → ℕ → ℕ
line s = line_of s.books

-- Table or books unsound, R above 7, or a tray below 64 whole places. [O2]
unfoldable pub unsound : Setting → List Version → Bool
unsound s t =
    not (sound_table (line s) s.rows t && sound_books s.books && sound_retries s.most && leb PLACES s.places)

abbrev pub given : Setting → Event → List Version → Given
given s e t =
    record {
      books = s.books;
      most = s.most;
      free = ltb (length t) s.rows;
      event = e;
      rows = rows_of (line s) (line s e.tn.0) t;
    }

-- a record that is malformed, or whose fields are [O9]
abbrev pub when_read : Reading → (Event → Result) → Result
when_read (Err m) f = refuse Malformed
when_read (Ok e) f = cond (well_formed e) (f e) (refuse Malformed)

-- Outcome 1 comes before 2, and 2 before the rules' own.
unfoldable pub step : Setting → Reading → List Version → Result
step s x t = cond (unsound s t) (refuse Unsound) (when_read x (λ (e : Event). rule (given s e t)))

-- ---- a list of events, one after the other

abbrev pub Step : Type 0
Step = Event → List Version → Result

abbrev pub step_of : Setting → Step
step_of s e t = step s (Ok e) t

module _ (does : Step) where
  abbrev pub after : Event → List Version → List Version
  after e t = changes (does e t).does t

  abbrev pub final : List Event → List Version → List Version
  final [] t = t
  final (e ∷ es) t = final es (after e t)

  abbrev pub outcomes : List Event → List Version → List Outcome
  outcomes [] t = []
  outcomes (e ∷ es) t = (does e t).out ∷ outcomes es (after e t)

  abbrev pub messages : List Event → List Version → List Message
  messages [] t = []
  messages (e ∷ es) t = (does e t).sent ++ messages es (after e t)
