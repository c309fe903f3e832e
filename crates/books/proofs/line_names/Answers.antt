-- `line_names` meets its contract: s is the start, d the partner of the TN's code. Assumes nothing.
use mathlib.Core.Path.{refl}
use native.Mathlib.Omega.{arith}
use Rattle.books.proofs.Naming.{partner_split, twin_small, named-alone, named_low, named_high}
use Rattle.books.proofs.line_names.Goals as goal

pub returns-then-other-eq0 : goal.returns-then-other-eq0
returns-then-other-eq0 c =
    named-alone _ c.requires.books_value.0 c.args.tn c.requires.books_value.1 _
    (partner_split c.args.books.now c.args.tn _ _ c.code_of-code.ensures c.partner-other.ensures)
    c.if-other-eq0.true

pub overflow_mul-twin : goal.overflow_mul-twin
overflow_mul-twin c =
    omega (
      arith,
      twin_small _ c.requires.books_value.0 c.args.tn c.requires.books_value.1 _
          (partner_split c.args.books.now c.args.tn _ _ c.code_of-code.ensures c.partner-other.ensures),
    )

pub overflow_add-twin : goal.overflow_add-twin
overflow_add-twin c =
    omega (
      arith,
      twin_small _ c.requires.books_value.0 c.args.tn c.requires.books_value.1 _
          (partner_split c.args.books.now c.args.tn _ _ c.code_of-code.ensures
          c.partner-other.ensures),
    )

pub returns-then-twin-tn : goal.returns-then-twin-tn
returns-then-twin-tn c =
    named_low _ c.requires.books_value.0 c.args.tn c.requires.books_value.1 _
    (partner_split c.args.books.now c.args.tn _ _ c.code_of-code.ensures c.partner-other.ensures)
    c.if-other-eq0.false _ refl c.if-twin-tn.true

pub returns : goal.returns
returns c =
    named_high _ c.requires.books_value.0 c.args.tn c.requires.books_value.1 _
    (partner_split c.args.books.now c.args.tn _ _ c.code_of-code.ensures c.partner-other.ensures)
    c.if-other-eq0.false _ refl c.if-twin-tn.false
