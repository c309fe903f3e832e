-- The layout both ways: a version with room in its bits is read back, and words with no spare bit set are written back.
-- Assumes nothing.
use mathlib.Core.Path.{◌≡◌, refl, sym, ap, ◌∙◌}
use mathlib.Core.Bool.{Bool, true, false}
use mathlib.Core.List.{List, [], ◌∷◌}
use Prim.Native.Nat.{ℕ, zero, suc, ◌/◌, ◌%◌, ◌^◌, ◌<◌}
use native.Mathlib.Nat.{mod-eq_of_lt, mod-lt}
use native.Mathlib.Omega.{arith}
use borrow.Author.Tests.{lt-ltb, eqb-true}
use lib.Dec.{eqb, ltb, lit<}
use lib.ListN.{get_or}
use Rattle.octets.specs.Fields.{cut, join, fit}
use Rattle.octets.proofs.Fields.{join_lt, join-cut, cut-join}
use Rattle.model.specs.declared.Version.{Version}
use Rattle.words.specs.declared.Words.{Words}
use Rattle.row.specs.Layout.{head_widths, term_widths, pair_widths, flag, marked, field, version_of, spareless, head_fields, term_fields}
use Rattle.row.specs.Layout.{due_fields, time_fields, words_of, Room}
use Rattle.model.proofs.Lists.{and_l, and_r}
use Rattle.words.proofs.Spelling.{Fit64}

marked-flag : (b : Bool) → marked (flag b) ≡ b
marked-flag true = refl
marked-flag false = refl

flag-marked : (n : ℕ) → n < 2 → flag (marked n) ≡ n
flag-marked zero h = refl
flag-marked (suc zero) h = refl
flag-marked (suc (suc n)) h = absurd (omega arith)

flag_lt : (b : Bool) → ltb (flag b) 2 ≡ true
flag_lt true = refl
flag_lt false = refl

-- ---- the fields fit

module _ (v : Version) (r : Room v) where
  pub head_fits : fit head_widths (head_fields v) ≡ true
  head_fits =
      simp (
        lt-ltb v.id.tn.0 17179869184 r.small.tn,
        lt-ltb v.id.number 65536 r.number,
        lt-ltb v.status 16
            r.small.status,
        flag_lt v.live,
        flag_lt v.new.created,
        flag_lt v.old.created,
        flag_lt v.window,
        flag_lt v.within,
      )

  pub terms_fit : fit term_widths (term_fields v) ≡ true
  terms_fit =
      simp (
        lt-ltb v.new.lrn.0 17179869184 r.small.lrn,
        lt-ltb v.new.provider 64 r.small.new,
        lt-ltb v.old.provider 64
            r.small.old,
        lt-ltb v.old.authorization 4 r.small.authorization,
        lt-ltb v.old.cause 128 r.small.cause,
        lt-ltb v.canceller 4 r.small.canceller,
        lt-ltb v.cast.purpose 4 r.small.purpose,
      )

  dues_fit : fit pair_widths (due_fields v) ≡ true
  dues_fit = simp (lt-ltb v.new.due 4294967296 r.new_due, lt-ltb v.old.due 4294967296 r.old_due)

  times_fit_lem : fit pair_widths (time_fields v) ≡ true
  times_fit_lem = simp (lt-ltb v.stamp 4294967296 r.stamp, lt-ltb v.cast.start 4294967296 r.start)

  pub room_fits : Fit64 (words_of v)
  unfolding words_of
  room_fits = record {
    head = join_lt head_widths (head_fields v) head_fits;
    terms = join_lt term_widths (term_fields v) terms_fit;
    dues = join_lt pair_widths (due_fields v) dues_fit;
    times = join_lt pair_widths (time_fields v) times_fit_lem;
    confirmed = r.confirmed;
    waiting = r.waiting;
    failed = r.failed;
    low = r.low;
    mid = r.mid;
    high = r.high;
  }

  -- write, then read
  pub version-words : version_of (words_of v) ≡ v
  unfolding version_of words_of
  version-words =
      let h : (i : ℕ) → field head_widths i (join head_widths (head_fields v)) ≡ get_or (head_fields v) i 0
      = λ i. ap (λ (l : List ℕ). get_or l i 0) (cut-join head_widths (head_fields v) head_fits) in
      let t : (i : ℕ) → field term_widths i (join term_widths (term_fields v)) ≡ get_or (term_fields v) i 0
      = λ i. ap (λ (l : List ℕ). get_or l i 0) (cut-join term_widths (term_fields v) terms_fit) in
      let d : (i : ℕ) → field pair_widths i (join pair_widths (due_fields v)) ≡ get_or (due_fields v) i 0
      = λ i. ap (λ (l : List ℕ). get_or l i 0) (cut-join pair_widths (due_fields v) dues_fit) in
      let s : (i : ℕ) → field pair_widths i (join pair_widths (time_fields v)) ≡ get_or (time_fields v) i 0
      = λ i. ap (λ (l : List ℕ). get_or l i 0) (cut-join pair_widths (time_fields v) times_fit_lem) in
      let m : (i : ℕ) (b : Bool) → get_or (head_fields v) i 0 ≡ flag b → marked (field head_widths i (join head_widths (head_fields v))) ≡ b
      = λ i b e. ap marked (h i ∙ e) ∙ marked-flag b in
      λ i. record {
        id = record { tn = record { 0 = h 0 i }; number = h 1 i };
        status = h 2 i;
        stamp = s 0 i;
        live = m 3 v.live refl i;
        new = record { provider = t 1 i; created = m 4 v.new.created refl i; lrn = record { 0 = t 0 i }; due = d 0 i };
        old = record { provider = t 2 i; created = m 5 v.old.created refl i; authorization = t 3 i; cause = t 4 i; due = d 1 i };
        canceller = t 5 i;
        window = m 6 v.window refl i;
        within = m 7 v.within refl i;
        cast = record {
          purpose = t 6 i;
          start = s 1 i;
          confirmed = v.cast.confirmed;
          waiting = v.cast.waiting;
          failed = v.cast.failed;
          retries = v.cast.retries;
        };
      }

-- ---- read, then write

module _ (w : Words) (f : Fit64 w) (s : spareless w ≡ true) where
  head_fields_lem : head_fields (version_of w) ≡ cut head_widths w.head
  unfolding version_of spareless
  head_fields_lem =
      let z : field head_widths 8 w.head ≡ 0 =
      eqb-true _ _ (and_l (eqb (field head_widths 8 w.head) 0) (eqb (field term_widths 7 w.terms) 0) s) in
      let b : (k : ℕ) → flag (marked (k % 2)) ≡ k % 2 = λ k. flag-marked (k % 2) (mod-lt k (lit< tt)) in
      λ i.
      w.head / 2 ^ 30 % 2 ^ 34 ∷ w.head / 2 ^ 14 % 2 ^ 16 ∷ w.head / 2 ^ 10 % 2 ^ 4 ∷ b (w.head / 2 ^ 9) i ∷ b (w.head / 2 ^ 8) i
      ∷ b (w.head / 2 ^ 7) i ∷ b (w.head / 2 ^ 6) i ∷ b (w.head / 2 ^ 5) i ∷ sym z i ∷ []

  term_fields_lem : term_fields (version_of w) ≡ cut term_widths w.terms
  unfolding version_of spareless
  term_fields_lem =
      let z : field term_widths 7 w.terms ≡ 0 =
      eqb-true _ _ (and_r (eqb (field head_widths 8 w.head) 0) (eqb (field term_widths 7 w.terms) 0) s) in
      λ i.
      w.terms / 2 ^ 30 % 2 ^ 34 ∷ w.terms / 2 ^ 24 % 2 ^ 6 ∷ w.terms / 2 ^ 18 % 2 ^ 6 ∷ w.terms / 2 ^ 16 % 2 ^ 2
      ∷ w.terms / 2 ^ 9 % 2 ^ 7
      ∷ w.terms / 2 ^ 7 % 2 ^ 2 ∷ w.terms / 2 ^ 5 % 2 ^ 2 ∷ sym z i ∷ []

  pub words-version : words_of (version_of w) ≡ w
  unfolding version_of words_of
  words-version = λ i. record {
    head = (ap (join head_widths) head_fields_lem ∙ join-cut head_widths w.head ∙ mod-eq_of_lt f.head) i;
    terms = (ap (join term_widths) term_fields_lem ∙ join-cut term_widths w.terms ∙ mod-eq_of_lt f.terms) i;
    dues = (join-cut pair_widths w.dues ∙ mod-eq_of_lt f.dues) i;
    times = (join-cut pair_widths w.times ∙ mod-eq_of_lt f.times) i;
    confirmed = w.confirmed;
    waiting = w.waiting;
    failed = w.failed;
    low = w.low;
    mid = w.mid;
    high = w.high;
  }
