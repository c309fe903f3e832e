-- `selection::one_pass` meets its contract: each goal is answered by the law of its turn (proofs/Turns).
-- Assumes nothing.
use borrow.Author.Rules.{rules}
use Prim.Native.Nat.{ℕ, ◌+◌, ◌^◌, ◌≤◌, ◌<◌}
use mathlib.Core.Path.{◌≡◌, sym, ap, ◌∙◌}
use mathlib.Core.Bool.{false, not}
use native.Mathlib.Omega.{arith}
use lib.Dec.{eqb}
use Rattle.systems.specs.Set.{mask_of}
use Rattle.model.specs.Basics.{among}
use Rattle.model.specs.Selection.{selects}
use Rattle.books.specs.Packed.{decode_books}
use Rattle.books.proofs.Given.{sound_length}
use Rattle.selection.proofs.Places.{places_from, come_looks, come_end}
use Rattle.selection.specs.Pass.{larger_of}
use Rattle.selection.proofs.Selects.{smaller-le, all_run, mask_room}
use Rattle.selection.proofs.Turns.{serve_start, serve_looks, serve_none, seek_start, seek_next, seek_last}
use Rattle.selection.proofs.Turns.{seek_found, seek_past, serve_skipped, serve_selected}
use Rattle.selection.proofs.one_pass.Goals as goal
use Rattle.selection.proofs.one_pass.Goals.{else-filters-test, then-filters-test+else-before+then-seen-wanted}

-- whether the code stands in a pair, as the partner that was found says
pairs : (q : ℕ) {partner : ℕ} → q ≡ partner → not (eqb q 0) ≡ not (eqb partner 0)
pairs q h = ap (λ (k : ℕ). not (eqb k 0)) h

pub partner-partner-requires : goal.partner-partner-requires
partner-partner-requires c = sound_length c.args.marks c.args.books.now c.requires

pub returns-then-last-ge-CODES : goal.returns-then-last-ge-CODES
returns-then-last-ge-CODES c =
    let q = c.partner-partner in
    record {
      selected =
          all_run c.args.marks c.args.books.now c.args.code q.result c.requires (q.ensures c.args.marks)
          (omega (arith, c.if-last-ge-CODES.true, c.larger-last.ensures));
      paired = pairs q.result (q.ensures c.args.marks);
      once = omega arith;
    }

pub providers-init : goal.providers-init
providers-init c = (omega arith, serve_start c.args.marks c.args.books.now c.args.code c.requires)

pub providers-preserved-then-not-has : goal.providers-preserved-then-not-has
providers-preserved-then-not-has c =
    let s = c.providers.invariant in (
      omega (arith, s.0),
      serve_none s.1 c.providers-test.true (sym c.has.ensures ∙ c.if-not-has.true),
    )

pub overflow_add-wanted : goal.overflow_add-wanted
overflow_add-wanted c =
    let small : larger_of c.args.code c.partner-partner.result < 2 ^ 20 = omega (arith, c.if-last-ge-CODES.false, c.larger-last.ensures) in
    let l = smaller-le c.args.code c.partner-partner.result in
    record { fits = omega (arith, small, l, c.smaller-first.ensures) }

pub filters-init : goal.filters-init
filters-init c =
    let s = c.providers.invariant in
    let q = c.partner-partner in
    let small : larger_of c.args.code q.result < 2 ^ 20 = omega (arith, c.if-last-ge-CODES.false, c.larger-last.ensures) in (
      omega (arith, s.0),
      rw (c.smaller-first.ensures, c.larger-last.ensures)
          (seek_start s.1 c.providers-test.true q.result (q.ensures c.args.marks) small),
    )

pub look_at-seen-requires : goal.look_at-seen-requires
look_at-seen-requires c =
    let f = c.filters in (
      sound_length c.args.marks c.args.books.now c.requires,
      c.filters-test.true,
      come_looks f.invariant.1.come f.invariant.0 (search rules),
    )

pub filters-preserved-then-before : goal.filters-preserved-then-before
filters-preserved-then-before c =
    let s = c.filters.invariant in
    let x = c.look_at-seen.ensures in (
      omega (arith, s.0, x.1),
      seek_next c.filters-test.true x.0 s.1 _ c.before-in-filters.ensures c.if-before.true,
    )

pub providers-preserved-then-wanted-until : goal.providers-preserved-then-wanted-until
providers-preserved-then-wanted-until c =
    let s = c.filters.invariant in
    let x = c.look_at-seen.ensures in (
      omega (arith, s.0, x.1),
      serve_skipped c.providers.invariant.1 c.providers-test.true (omega (arith, c.if-last-ge-CODES.false)) s.1
          (seek_found c.filters-test.true x.0 s.1 c.if-seen-wanted.false c.if-wanted-until.true),
    )

pub filters-preserved : goal.filters-preserved
filters-preserved c =
    let s = c.filters.invariant in
    let x = c.look_at-seen.ensures in (
      omega (arith, s.0, x.1),
      seek_last c.filters-test.true x.0 s.1 c.if-seen-wanted.false c.if-wanted-until.false,
    )

pub overflow_add-selected : goal.overflow_add-selected
overflow_add-selected c =
    let l = c.providers in
    record { fits = rw (c.bit-selected.ensures, l.invariant.1.chosen) (mask_room _ l.provider (search rules)) }

pub providers-preserved : goal.providers-preserved
providers-preserved c =
    let f = c.filters in
    let t = c.filters-test in
    let ended : (t.looks ≤ f.looks + 1) × (among f.wanted (places_from c.args.books.now 0) ≡ false)
    = elim t.branch [
      | else-filters-test w ↦ (omega (arith, w.looks-is), come_end w.filters-test.false f.invariant.1.come)
      | then-filters-test+else-before+then-seen-wanted w ↦ (
        omega (arith, w.looks-is, w.look_at-seen.ensures.1),
        seek_past w.filters-test.true w.look_at-seen.ensures.0 f.invariant.1 _
            w.before-in-filters.ensures w.if-before.false w.if-seen-wanted.true,
      )
    ] in (
      omega (arith, f.invariant.0, ended.0),
      serve_selected c.providers.invariant.1 c.providers-test.true (omega (arith, c.if-last-ge-CODES.false)) f.invariant.1
          c.requires (sym c.has.ensures ∙ c.if-not-has.false) ended.1 _ c.bit-selected.ensures,
    )

pub returns : goal.returns
returns c =
    let l = c.providers in
    let a = c.args in
    let e : l.provider ≡ 63 = (let m : l.provider ≤ 63 = l.invariant.1.most in omega (arith, c.providers-test.false)) in
    record {
      selected = l.invariant.1.chosen ∙ ap (mask_of (selects (decode_books a.marks a.books.now) a.code)) e;
      paired = pairs c.partner-partner.result (c.partner-partner.ensures a.marks);
      once = serve_looks l.invariant.0 l.invariant.1;
    }
