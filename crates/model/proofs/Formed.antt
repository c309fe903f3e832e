-- What is known of the fields of a well-formed event, kind by kind.
-- Assumes nothing.
use mathlib.Core.Path.{◌≡◌, refl, subst}
use Prim.Native.Nat.{ℕ, ◌^◌, ◌≤◌, ◌<◌}
use mathlib.Core.Bool.{Bool, true, false, cond}
use mathlib.Core.List.{List, [], ◌∷◌}
use lib.Dec.{eqb, ltb}
use lib.ListN.{get_or}
use borrow.Author.Tests.{eqb-true, ltb-true}
use Rattle.model.specs.Numbers.{ten_digits}
use Rattle.model.specs.Record.{is_plain, is_answer, named, unused, results, plainly, new_creates, old_creates, new_modifies, old_modifies}
use Rattle.model.specs.Record.{modifies_active, replies, silent, type_fits, kind_fits, fits_bits, well_formed}
use Rattle.model.specs.Answers.{answering}
use Rattle.model.proofs.Lists.{clash, conj_at}
use Rattle.model.specs.declared.Event.{Event}

pub record Fields (e : Event) : Type 0 where
  pub sender : e.sender < 64
  pub other : e.other < 64
  pub cause : e.cause < 256
  pub tn : e.tn.0 < 2 ^ 34
  pub time : e.time < 2 ^ 32
  pub due : e.due < 2 ^ 32
  pub timed : 0 < e.time
  pub number : ten_digits e.tn.0 ≡ true
  pub type : type_fits e ≡ true
  pub kind : kind_fits e ≡ true

-- what kind k asks
abbrev fits_at : ℕ → Event → Bool
fits_at k e =
    cond (is_plain k) (plainly e)
    (cond (eqb k 1) (new_creates e)
    (cond (eqb k 2) (old_creates e)
    (cond (eqb k 3) (new_modifies e)
    (cond (eqb k 4) (old_modifies e)
    (cond (eqb k 9) (modifies_active e)
    (cond (eqb k 11) (replies e)
    (cond (eqb k 12) (silent e) false)))))))

module _ (e : Event) (h : well_formed e ≡ true) where
  pub fields : Fields e
  unfolding well_formed fits_bits
  fields =
      let all : List Bool = fits_bits e ∷ ten_digits e.tn.0 ∷ named e.time ∷ type_fits e ∷ kind_fits e ∷ [] in
      let bits : List Bool =
      ltb e.kind (2 ^ 8) ∷ ltb e.sender (2 ^ 6) ∷ ltb e.other (2 ^ 6) ∷ ltb e.mark (2 ^ 2) ∷ ltb e.cause (2 ^ 8)
      ∷ ltb e.tn.0 (2 ^ 34) ∷ ltb e.lrn.0 (2 ^ 34) ∷ ltb e.version (2 ^ 16) ∷ ltb e.time (2 ^ 32)
      ∷ ltb e.due (2 ^ 32) ∷ ltb e.within (2 ^ 1) ∷ [] in
      let of : (i : ℕ) → get_or all i true ≡ true = conj_at all h in
      let bit : (i : ℕ) → get_or bits i true ≡ true = conj_at bits (of 0) in
      record {
        sender = ltb-true e.sender (2 ^ 6) (bit 1);
        other = ltb-true e.other (2 ^ 6) (bit 2);
        cause = ltb-true e.cause (2 ^ 8) (bit 4);
        tn = ltb-true e.tn.0 (2 ^ 34) (bit 5);
        time = ltb-true e.time (2 ^ 32) (bit 8);
        due = ltb-true e.due (2 ^ 32) (bit 9);
        timed = ltb-true 0 e.time (of 2);
        number = of 1;
        type = of 3;
        kind = of 4;
      }

  pub at_kind : (k : ℕ) → e.kind ≡ k → fits_at k e ≡ true
  unfolding kind_fits
  at_kind k q = subst (λ (n : ℕ). fits_at n e ≡ true) q fields.kind

  -- the Local SMS of a reply or a silence is a provider
  pub answering-named : is_answer e.kind ≡ true → (1 ≤ answering e) × (answering e < 64)
  answering-named a = go (eqb e.kind 11) refl (eqb e.kind 12) refl
    where
      go : (x : Bool) → eqb e.kind 11 ≡ x → (y : Bool) → eqb e.kind 12 ≡ y → (1 ≤ answering e) × (answering e < 64)
      go true p y q =
          let r : replies e ≡ true = at_kind 11 (eqb-true e.kind 11 p) in
          rw p (
            ltb-true 0 e.sender
                (conj_at (named e.sender ∷ unused e.other ∷ results e.mark ∷ unused e.cause ∷ unused e.lrn.0
                ∷ named e.version ∷ unused e.due ∷ []) r 0),
            fields.sender,
          )
      go false p true q =
          let r : silent e ≡ true = at_kind 12 (eqb-true e.kind 12 q) in
          rw p (
            ltb-true 0 e.other
                (conj_at (unused e.sender ∷ named e.other ∷ unused e.mark ∷ unused e.cause ∷ unused e.lrn.0
                ∷ named e.version ∷ unused e.due ∷ []) r 1),
            fields.other,
          )
      go false p false q = clash (rw (p, q) at a)
