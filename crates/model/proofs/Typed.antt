-- What a create says, by its kind; what its type says of the providers that it names; and that no create concurs within one provider.
-- Assumes nothing.
use mathlib.Core.Path.{◌≡◌, refl, sym, ap₂, ◌∙◌, subst}
use Prim.Native.Nat.{ℕ, ◌<◌}
use mathlib.Core.Bool.{Bool, true, false, cond, not, ◌&&◌, ◌||◌}
use mathlib.Core.List.{List, [], ◌∷◌}
use lib.Dec.{eqb, leb}
use lib.ListN.{get_or}
use native.Mathlib.Omega.{arith}
use borrow.Author.Tests.{eqb-true, eqb-false, ltb-true, le-leb, ne_eqb, not-true}
use Rattle.model.specs.Basics.{iff}
use Rattle.model.specs.Numbers.{ten_digits, is_provider}
use Rattle.model.specs.Sound.{cancel_pending}
use Rattle.model.specs.Record.{is_create, named, unused, two_sides, authorizes, is_within, sides_named, well_formed}
use Rattle.model.specs.Creates.{by_new, new_in, old_in, fits}
use Rattle.model.proofs.Lists.{clash, and_l, and_r, both_true, or_but, conj_at, at_equal}
use Rattle.model.proofs.Formed.{Fields, fields, at_kind}
use Rattle.model.proofs.SoundRows.{Row}
use Rattle.model.specs.declared.Event.{Event}
use Rattle.model.specs.declared.Version.{Version}

-- what a create says
abbrev new_says : Event → List Bool
new_says e = sides_named e ∷ unused e.mark ∷ unused e.cause ∷ ten_digits e.lrn.0 ∷ unused e.version
    ∷ named e.due ∷ []

abbrev old_says : Event → List Bool
old_says e = two_sides e.sender e.other ∷ authorizes e.mark e.cause ∷ unused e.lrn.0 ∷ unused e.version
    ∷ named e.due ∷ []

pub new_fields : (e : Event) → well_formed e ≡ true → eqb e.kind 1 ≡ true → (i : ℕ) → get_or (new_says e) i true ≡ true
new_fields e formed k = conj_at (new_says e) (at_kind e formed 1 (eqb-true e.kind 1 k))

pub old_fields : (e : Event) → well_formed e ≡ true → eqb e.kind 2 ≡ true → (i : ℕ) → get_or (old_says e) i true ≡ true
old_fields e formed k = conj_at (old_says e) (at_kind e formed 2 (eqb-true e.kind 2 k))

-- ---- the providers that a create names

provider_is : (p : ℕ) → named p ≡ true → p < 64 → is_provider p ≡ true
provider_is p h l = both_true (leb 1 p) (leb p 63) (le-leb 1 p (ltb-true 0 p h)) (le-leb p 63 (omega arith))

module _ (e : Event) (formed : well_formed e ≡ true) where
  f : Fields e
  f = fields e formed

  -- two providers
  two : two_sides e.sender e.other ≡ true → (is_provider e.sender ≡ true) × (is_provider e.other ≡ true)
      × (eqb e.sender e.other ≡ false)
  two h =
      let of = conj_at (named e.sender ∷ named e.other ∷ not (eqb e.sender e.other) ∷ []) h in
      (provider_is e.sender (of 0) f.sender, provider_is e.other (of 1) f.other, not-true (eqb e.sender e.other) (of 2))

  -- the providers of a create by the new side, by its type
  named_sides : sides_named e ≡ true → (is_provider e.sender ≡ true) × (is_provider e.other ≡ true)
      × (iff (is_within e) (eqb e.sender e.other) ≡ true)
  named_sides h = go (is_within e) refl h
    where
      go : (w : Bool) → is_within e ≡ w
          → cond w (named e.sender && eqb e.sender e.other) (two_sides e.sender e.other) ≡ true
          → (is_provider e.sender ≡ true) × (is_provider e.other ≡ true) × (iff w (eqb e.sender e.other) ≡ true)
      go true q k =
          let one : is_provider e.sender ≡ true = provider_is e.sender (and_l (named e.sender) _ k) f.sender in
          let same : eqb e.sender e.other ≡ true = and_r (named e.sender) _ k in
          (one, at_equal e.sender e.other (λ (p : ℕ). is_provider p ≡ true) same one, same)
      go false q k = let d = two k in (d.0, d.1, rw d.2)

  -- a create by the old side is of no type
  pub untyped : eqb e.kind 1 ≡ false → is_within e ≡ false
  untyped p = none (eqb-true e.within 0 (or_false (unused e.within) (rw p at f.type)))
    where
      or_false : (b : Bool) → (b || false) ≡ true → b ≡ true
      or_false true h = refl
      or_false false h = h

      none : e.within ≡ 0 → is_within e ≡ false
      none q = rw q

  turned : (a b : ℕ) → eqb a b ≡ false → eqb b a ≡ false
  turned a b h = ne_eqb b a (λ q. eqb-false a b h (sym q))

  -- they are equal exactly in the type
  pub create_sides : is_create e.kind ≡ true → (is_provider (new_in e) ≡ true) × (is_provider (old_in e) ≡ true)
      × (iff (is_within e) (eqb (new_in e) (old_in e)) ≡ true)
  create_sides k = go (eqb e.kind 1) refl (eqb e.kind 2) refl
    where
      go : (a : Bool) → eqb e.kind 1 ≡ a → (b : Bool) → eqb e.kind 2 ≡ b
          → (is_provider (cond a e.sender e.other) ≡ true) × (is_provider (cond a e.other e.sender) ≡ true)
          × (iff (is_within e) (eqb (cond a e.sender e.other) (cond a e.other e.sender)) ≡ true)
      go true p b q = named_sides (new_fields e formed p 0)
      go false p true q =
          let d = two (old_fields e formed q 0) in
          (d.1, d.0, rw (untyped p, turned e.sender e.other d.2))
      go false p false q = clash (rw (p, q) at k)

-- ---- concurrence

-- what a create that fits finds
abbrev fitting : Event → Version → List Bool
fitting e v = not (eqb v.status cancel_pending) ∷ eqb v.new.provider (new_in e) ∷ eqb v.old.provider (old_in e)
    ∷ not (cond (by_new e) v.new.created v.old.created) ∷ []

pub fitted : (e : Event) (v : Version) → fits e v ≡ true → (i : ℕ) → get_or (fitting e v) i true ≡ true
unfolding fits
fitted e v h = conj_at (fitting e v) h

module _ (e : Event) (formed : well_formed e ≡ true) (k : is_create e.kind ≡ true) (v : Version) (row : Row v) (h : fits e v ≡ true) where
  -- both have the same providers, so both are of one type
  pub same_type : v.within ≡ is_within e
  same_type = go v.within (is_within e) (eqb (new_in e) (old_in e))
      (subst (λ (b : Bool). iff v.within b ≡ true) names row.providers) (create_sides e formed k).2
    where
      names : eqb v.new.provider v.old.provider ≡ eqb (new_in e) (old_in e)
      names = ap₂ eqb (eqb-true v.new.provider (new_in e) (fitted e v h 1)) (eqb-true v.old.provider (old_in e) (fitted e v h 2))

      go : (a b x : Bool) → iff a x ≡ true → iff b x ≡ true → a ≡ b
      go true true x p q = refl
      go true false true p q = clash q
      go true false false p q = clash p
      go false true true p q = clash p
      go false true false p q = clash q
      go false false x p q = refl

  -- and within one provider the new side, which alone may create, has created already: there are two providers
  pub between : v.within ≡ false
  between = go v.within refl (eqb e.kind 1) refl
    where
      go : (w : Bool) → v.within ≡ w → (a : Bool) → eqb e.kind 1 ≡ a → v.within ≡ false
      go false q a p = q
      go true q false p = clash (sym (untyped e formed p) ∙ sym same_type ∙ q)
      go true q true p =
          let none : v.old.created ≡ false = not-true v.old.created (and_l (not v.old.created) _ (rw q at row.within)) in
          let made : v.new.created ≡ true = or_but v.new.created v.old.created row.one none in
          clash (rw (p, made) at (fitted e v h 3))
