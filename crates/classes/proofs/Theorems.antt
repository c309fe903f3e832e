-- What is proved of the classes as bytes. Each statement is whole here.
-- Assumes nothing.
use Prim.Native.Nat.{ℕ, suc, ◌<◌}
use mathlib.Core.Path.{◌≡◌, sym, ap, ◌∙◌}
use mathlib.Core.Bool.{cond}
use mathlib.Core.List.{List}
use native.Mathlib.Omega.{arith}
use borrow.Author.Tests.{ne_eqb}
use lib.Dec.{eqb}
use lib.ListN.{length, get_or}
use Rattle.model.specs.Numbers.{code_of}
use Rattle.model.specs.Selection.{class_of, class_number}
use Rattle.classes.specs.Classes.{books_of, classes_for, Classified}
use Rattle.classes.proofs.Writing.{number_at, length_numbers}

-- what is left in the places, by the answer
abbrev written : List ℕ → List ℕ → ℕ → List ℕ → ℕ → List ℕ
written p b tn xs n = cond (eqb n 0) (classes_for p b tn) xs

-- The promise allows one result. [H2]
pub classified_one : (p b xs ys zs : List ℕ) (tn r s : ℕ) → Classified p b tn xs ys r → Classified p b tn xs zs s → (ys ≡ zs) × (r ≡ s)
classified_one p b xs ys zs tn r s x y = (x.wrote ∙ sym y.wrote, x.said ∙ sym y.said)

-- Where the answer is not 0, nothing was written.
pub refused_keeps : (p b xs ys : List ℕ) (tn r : ℕ) → Classified p b tn xs ys (suc r) → ys ≡ xs
refused_keeps p b xs ys tn r x = x.wrote ∙ ap (written p b tn xs) (sym x.said) ∙ rw (ne_eqb (suc r) 0 (λ q. omega arith))

-- Where it is 0, there are 63 places, and provider n's number stands at place n - 1. [A8.1]
pub done_tells : (p b xs ys : List ℕ) (tn : ℕ) → Classified p b tn xs ys 0
    → (length ys ≡ 63) × ((i : ℕ) → i < 63 → get_or ys i 0 ≡ class_number (class_of (books_of p b) (code_of (record { 0 = tn })) (suc i)))
done_tells p b xs ys tn x =
    let all : ys ≡ classes_for p b tn = x.wrote ∙ ap (written p b tn xs) (sym x.said) in
    (ap length all ∙ length_numbers _ 63, λ i h. ap (λ (zs : List ℕ). get_or zs i 0) all ∙ number_at _ 63 i h)
