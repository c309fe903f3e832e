-- Steps over bytes are document 01's steps over what the bytes say.
-- Assumes nothing.
use mathlib.Core.Path.{◌≡◌, refl, sym, ap, ap₂, ◌∙◌, subst}
use Prim.Native.Nat.{ℕ, zero, suc, ◌+◌, ◌≤◌}
use mathlib.Core.Bool.{Bool, true, false}
use mathlib.Core.List.{List, [], ◌∷◌, ◌++◌, map}
use lib.ListN.{length}
use borrow.Author.Tests.{le-leb}
use Rattle.model.specs.Basics.{All, none, with}
use Rattle.model.specs.Outcomes.{is_done, number_of}
use Rattle.model.specs.Record.{well_formed}
use Rattle.model.specs.Sound.{sound_table}
use Rattle.model.specs.Given.{Result}
use Rattle.model.specs.Step.{Setting, unsound, step_of, after, final, outcomes, messages}
use Rattle.model.specs.Exchange.{Exchangeable, MayAt, May, reorder, swap_at, mail_of, Same}
use Rattle.model.proofs.Lists.{clash}
use Rattle.model.proofs.SoundTables.{says_table, table_says}
use Rattle.model.proofs.Reordering.{sane_of, of_sane}
use Rattle.model.proofs.Theorems.{stays_sound, refusal_changes_nothing, demand3}
use Rattle.model.specs.declared.Version.{Version}
use Rattle.model.specs.declared.Event.{Event}
use Rattle.model.specs.declared.Message.{Message}
use Rattle.model.specs.Record.{Reading}
use Rattle.std.specs.Prelude.{Ok, Err}
use Rattle.packing.specs.Layout.{read_event}
use Rattle.packing.proofs.Inverse.{bytes_are, fields_are}
use Rattle.record.proofs.Theorems.{read_is_formed}
use Rattle.providers.specs.Providers.{listed, entry_of, marks_in}
use Rattle.model.specs.declared.Marks.{Marks}
use Rattle.std.specs.Prelude.{Option, is_some}
use Rattle.books.specs.Packed.{decode_books, sound_bytes}
use Rattle.books.proofs.Given.{sound_books_lem}
use Rattle.rows.specs.Table.{decode, encode}
use Rattle.scan.specs.Sound.{rows_in, itself}
use Rattle.scan.proofs.Meant.{sound_says}
use Rattle.lines.specs.Lines.{line_by}
use Rattle.lines.proofs.Meaning.{table_lines, lines_table, says_sound_in}
use Rattle.checks.proofs.Lending.{lent_says, says_lent}
use Rattle.table.proofs.Steps.{says_again, rows_again}
use Rattle.tray.specs.Tray.{places_in}
use Rattle.engine.specs.Event.{table_after}
use Rattle.engine.specs.Step.{result_in, result_of}
use Rattle.engine.specs.Demands.{is_record, fields_in, table_by, table_at_end, numbers_in, messages_in, SameBytes}
use Rattle.engine.specs.Demands.{ByteDemand3}

-- ---- records

pub record_is : (xs : List ℕ) → is_record (read_event xs) ≡ true → read_event xs ≡ Ok (fields_in xs)
record_is xs h = go (read_event xs) refl h
  where
    go : (r : Reading) → read_event xs ≡ r → is_record (read_event xs) ≡ true → read_event xs ≡ Ok (fields_in xs)
    go (Ok e) q k = q ∙ ap Ok (sym (fields_are _ e (bytes_are xs e q).1).2)
    go (Err m) q k = clash (rw q at k)

-- ---- exchanges of records are exchanges of their fields

module _ {A B : Type 0} (f : A → B) where
  swap_map : (n : ℕ) (l : List A) → map f (swap_at n l) ≡ swap_at n (map f l)
  swap_map zero [] = refl
  swap_map zero (a ∷ []) = refl
  swap_map zero (a ∷ b ∷ l) = refl
  swap_map (suc n) [] = refl
  swap_map (suc n) (a ∷ l) = ap (λ (r : List B). f a ∷ r) (swap_map n l)

  pub reorder-map : (ns : List ℕ) (l : List A) → map f (reorder ns l) ≡ reorder ns (map f l)
  reorder-map [] l = refl
  reorder-map (n ∷ ns) l = reorder-map ns (swap_at n l) ∙ ap (reorder ns) (swap_map n l)

  module _ (R : B → B → Type 0) where
    may_at_map : (n : ℕ) (l : List A) → MayAt (λ (a b : A). R (f a) (f b)) n l → MayAt R n (map f l)
    may_at_map zero [] m = absurd m
    may_at_map zero (a ∷ []) m = absurd m
    may_at_map zero (a ∷ b ∷ l) m = m
    may_at_map (suc n) [] m = absurd m
    may_at_map (suc n) (a ∷ l) m = may_at_map n l m

    pub may_map : (ns : List ℕ) (l : List A) → May (λ (a b : A). R (f a) (f b)) ns l → May R ns (map f l)
    may_map [] l m = m
    may_map (n ∷ ns) l m = (may_at_map n l m.0, subst (λ (k : List B). May R ns k) (swap_map n l) (may_map ns (swap_at n l) m.1))

module _ {A : Type 0} (P : A → Type 0) where
  all_swap : (n : ℕ) (l : List A) → All P l → All P (swap_at n l)
  all_swap zero [] h = h
  all_swap zero (a ∷ []) h = h
  all_swap zero (a ∷ b ∷ l) (with p (with q h)) = with q (with p h)
  all_swap (suc n) [] h = h
  all_swap (suc n) (a ∷ l) (with p h) = with p (all_swap n l h)

  pub all-reorder : (ns : List ℕ) (l : List A) → All P l → All P (reorder ns l)
  all-reorder [] l h = h
  all-reorder (n ∷ ns) l h = all-reorder ns (swap_at n l) (all_swap n l h)

-- ---- one step, and many

module _ (p b : List ℕ) (most : ℕ) (y : List ℕ) (rows : ℕ) where
  abbrev L : Option Marks
  L = listed (map entry_of p)

  abbrev S : Setting
  S = record { books = decode_books (marks_in L) b; most = most; rows = rows; places = places_in y }

  module _ (hl : is_some L ≡ true) (hb : sound_bytes (marks_in L) b ≡ true) where
    module _ (vs : List Version) (h : unsound S vs ≡ false) where
      lined : sound_table (line_by b) rows vs ≡ true
      lined = says_table (line_by b) rows vs (sane_of S vs h).table

      sound : sound_table itself rows vs ≡ true
      sound = (lines_table (line_by b) rows vs lined).0

      pub at : (e : List ℕ) → is_record (read_event e) ≡ true → result_of p b most e (encode vs rows) y ≡ step_of S (fields_in e) vs
      unfolding result_in
      at e f = rw (
        says_lent L b (encode vs rows) hl hb,
        says_sound_in b vs rows lined,
        record_is e f,
        says_again vs rows sound,
        rows_again vs rows sound,
      )

      pub next : (e : List ℕ) → is_record (read_event e) ≡ true
          → table_by p b most y e (encode vs rows) ≡ encode (after (step_of S) (fields_in e) vs) rows
      next e f = ap (λ (x : Result). table_after x (encode vs rows)) (at e f) ∙ go (is_done (step_of S (fields_in e) vs).out) refl
        where
          go : (d : Bool) → is_done (step_of S (fields_in e) vs).out ≡ d
              → table_after (step_of S (fields_in e) vs) (encode vs rows) ≡ encode (after (step_of S) (fields_in e) vs) rows
          go true q = rw (q, says_again vs rows sound, rows_again vs rows sound)
          go false q = rw q (ap (λ (x : List Version). encode x rows) (sym (refusal_changes_nothing S (fields_in e) vs q)))

    abbrev Records : List (List ℕ) → Type 0
    Records es = All (λ (e : List ℕ). is_record (read_event e) ≡ true) es

    pub end_is : (es : List (List ℕ)) (vs : List Version) → unsound S vs ≡ false → Records es
        → table_at_end p b most y es (encode vs rows) ≡ encode (final (step_of S) (map fields_in es) vs) rows
    end_is [] vs h r = refl
    end_is (e ∷ es) vs h (with f r) =
        ap (table_at_end p b most y es) (next vs h e f)
        ∙ end_is es (after (step_of S) (fields_in e) vs) (stays_sound S (fields_in e) vs h) r

    pub numbers_are : (es : List (List ℕ)) (vs : List Version) → unsound S vs ≡ false → Records es
        → numbers_in p b most y es (encode vs rows) ≡ map number_of (outcomes (step_of S) (map fields_in es) vs)
    numbers_are [] vs h r = refl
    numbers_are (e ∷ es) vs h (with f r) =
        ap₂ (λ (x : Result) (l : List ℕ). number_of x.out ∷ l) (at vs h e f)
        (ap (numbers_in p b most y es) (next vs h e f)
        ∙ numbers_are es (after (step_of S) (fields_in e) vs) (stays_sound S (fields_in e) vs h)
        r)

    pub messages_are : (es : List (List ℕ)) (vs : List Version) → unsound S vs ≡ false → Records es
        → messages_in p b most y es (encode vs rows) ≡ messages (step_of S) (map fields_in es) vs
    messages_are [] vs h r = refl
    messages_are (e ∷ es) vs h (with f r) =
        ap₂ (λ (x : Result) (l : List Message). x.sent ++ l) (at vs h e f)
        (ap (messages_in p b most y es) (next vs h e f) ∙ messages_are es (after (step_of S) (fields_in e) vs)
        (stays_sound S (fields_in e) vs h) r)

    pub same_bytes : (ns : List ℕ) (es : List (List ℕ)) (vs : List Version) → unsound S vs ≡ false → Records es
        → Same (line_by b) (step_of S) ns (map fields_in es) vs
        → SameBytes p b most y ns es (encode vs rows)
    same_bytes ns es vs h r q =
        let k : Records (reorder ns es) = all-reorder (λ (e : List ℕ). is_record (read_event e) ≡ true) ns es r in
        let m : map fields_in (reorder ns es) ≡ reorder ns (map fields_in es) = reorder-map fields_in ns es in
        record {
          tables = end_is (reorder ns es) vs h k
              ∙ ap (λ (l : List Event). encode (final (step_of S) l vs) rows) m
              ∙ ap (λ (x : List Version). encode x rows) q.tables
              ∙ sym (end_is es vs h r);
          outs = numbers_are (reorder ns es) vs h k
              ∙ ap (λ (l : List Event). map number_of (outcomes (step_of S) l vs)) m
              ∙ ap (map number_of) q.outs
              ∙ reorder-map number_of ns (outcomes (step_of S) (map fields_in es) vs)
              ∙ ap (reorder ns) (sym (numbers_are es vs h r));
          mail = λ local s n.
              ap (mail_of (line_by b) local s n)
              (messages_are (reorder ns es) vs h k ∙ ap (λ (l : List Event). messages (step_of S) l vs) m)
              ∙ q.mail local s n
              ∙ ap (mail_of (line_by b) local s n) (sym (messages_are es vs h r));
        }

-- ---- demand 3

formed_fields : (es : List (List ℕ)) → All (λ (e : List ℕ). is_record (read_event e) ≡ true) es
    → All (λ (e : Event). well_formed e ≡ true) (map fields_in es)
formed_fields [] h = none
formed_fields (e ∷ es) (with f h) = with (read_is_formed e (fields_in e) (record_is e f)) (formed_fields es h)

length-map : (es : List (List ℕ)) → length (map fields_in es) ≡ length es
length-map [] = refl
length-map (e ∷ es) = ap suc (length-map es)

pub byte_reordering : ByteDemand3
byte_reordering p b most y ns es t used l may =
    let k = lent_says (listed (map entry_of p)) b t used l.table in
    let s = sound_says t used l.bytes k.scanned in
    let marks = (marks_in (listed (map entry_of p))) in
    let S : Setting = record { books = decode_books marks b; most = most; rows = rows_in t; places = places_in y } in
    let h : unsound S (decode t) ≡ false = of_sane S (decode t) (record {
      table = table_says (line_by b) (rows_in t) (decode t) (table_lines (line_by b) (rows_in t) (decode t) s.sound k.lines);
      books = sound_books_lem marks b k.books;
      retries = le-leb most 7 l.retries;
      places = le-leb 64 (places_in y) l.places;
    }) in
    subst (λ (x : List ℕ). SameBytes p b most y ns es x) (sym s.is)
    (same_bytes p b most y (rows_in t) k.listed k.books ns es (decode t) h l.formed
    (demand3 S ns (map fields_in es) (decode t)
    (record {
      sound = h;
      free = subst (λ (n : ℕ). length (decode t) + n ≤ rows_in t) (sym (length-map es))
          (subst (λ (n : ℕ). n + length es ≤ rows_in t) (sym s.count) l.free);
      formed = formed_fields es l.formed;
    })
    (may_map fields_in (Exchangeable (line_by b)) ns es may)))
