-- From two neighbours to any number of exchanges, for any state, entries and messages: nothing here knows what a rule or a table is.
-- An entry that may not be exchanged is one that nothing is moved past. Events on a table are an instance.
-- Assumes nothing.
use mathlib.Core.Path.{◌≡◌, refl, sym, ap, ap₂, ◌∙◌, subst}
use Prim.Native.Nat.{ℕ, zero, suc}
use mathlib.Core.Bool.{Bool}
use mathlib.Core.List.{List, [], ◌∷◌, ◌++◌, append_assoc}
use lib.ListN.{length}
use Rattle.model.specs.Basics.{keep}
use Rattle.model.specs.Step.{Step, after}
use Rattle.model.specs.Exchange.{Same, swap_at, reorder, MayAt, May, is_for}
use Rattle.model.specs.declared.Version.{Version}
use Rattle.model.specs.declared.Event.{Event}
use Rattle.model.specs.declared.Message.{Message}
use Rattle.model.specs.declared.Outcome.{Outcome}
use Rattle.model.proofs.Lists.{keep_append}

pub length-swap_at : {A : Type 0} (n : ℕ) (l : List A) → length (swap_at n l) ≡ length l
length-swap_at zero [] = refl
length-swap_at zero (a ∷ []) = refl
length-swap_at zero (a ∷ b ∷ l) = refl
length-swap_at (suc n) [] = refl
length-swap_at (suc n) (a ∷ l) = ap suc (length-swap_at n l)

-- what an entry makes of a state, what it gets, and what is sent
pub record Stepping (State Entry Gets Sent : Type 0) : Type 0 where
  pub next : Entry → State → State
  pub gets : Entry → State → Gets
  pub sends : Entry → State → List Sent

-- `reads r`: what the reader r is sent
module _ {State Entry Gets Sent Reader : Type 0} (does : Stepping State Entry Gets Sent) (reads : Reader → Sent → Bool) where
  -- ---- a list of entries, one after the other
  abbrev pub last : List Entry → State → State
  last [] t = t
  last (e ∷ es) t = last es (does.next e t)

  abbrev pub all_get : List Entry → State → List Gets
  all_get [] t = []
  all_get (e ∷ es) t = does.gets e t ∷ all_get es (does.next e t)

  abbrev pub all_sent : List Entry → State → List Sent
  all_sent [] t = []
  all_sent (e ∷ es) t = does.sends e t ++ all_sent es (does.next e t)

  -- the same last state, the same for each entry, and the same for each reader in the same order
  pub record Alike (ns : List ℕ) (es : List Entry) (t : State) : Type 0 where
    pub states : last (reorder ns es) t ≡ last es t
    pub outs : all_get (reorder ns es) t ≡ reorder ns (all_get es t)
    pub mail : (r : Reader) → keep (reads r) (all_sent (reorder ns es) t) ≡ keep (reads r) (all_sent es t)

  -- the two entries can come in either order at t
  pub record Commute (e f : Entry) (t : State) : Type 0 where
    pub states : does.next f (does.next e t) ≡ does.next e (does.next f t)
    pub first : does.gets e (does.next f t) ≡ does.gets e t
    pub second : does.gets f (does.next e t) ≡ does.gets f t
    pub mail : (r : Reader) → keep (reads r) (does.sends e t ++ does.sends f (does.next e t))
        ≡ keep (reads r) (does.sends f t ++ does.sends e (does.next f t))

  pub turned : {e f : Entry} {t : State} → Commute e f t → Commute f e t
  turned c = record { states = sym c.states; first = c.second; second = c.first; mail = λ r. sym (c.mail r) }

  -- `Good n t`: the state is sound and has room for n more entries
  module _ (Good : ℕ → State → Type 0) (stays : (n : ℕ) (e : Entry) (t : State) → Good (suc n) t → Good n (does.next e t))
      (may : Entry → Entry → Type 0) (commute : (n : ℕ) (e f : Entry) (t : State) → may e f → Good (suc (suc n)) t → Commute e f t) where
    one : (k : ℕ) (es : List Entry) (t : State) → MayAt may k es → Good (length es) t → Alike (k ∷ []) es t
    one zero [] t m g = absurd m
    one zero (e ∷ []) t m g = absurd m
    one zero (e ∷ f ∷ es) t m g =
        let c : Commute e f t = commute (length es) e f t m g in
        let R : State → List Sent = all_sent es in
        let A : State → State = does.next e in
        let B : State → State = does.next f in
        let a : State → List Sent = does.sends e in
        let b : State → List Sent = does.sends f in
        record {
          states = ap (last es) (sym c.states);
          outs = λ i. sym c.second i ∷ c.first i ∷ all_get es (sym c.states i);
          mail = λ r. ap (keep (reads r)) (sym (append_assoc (b t) (a (B t)) (R (A (B t)))))
              ∙ keep_append (reads r) (b t ++ a (B t)) (R (A (B t)))
              ∙ ap₂ (λ (l m : List Sent). l ++ m) (sym (c.mail r)) (ap (λ (u : State). keep (reads r) (R u)) (sym c.states))
              ∙ sym (keep_append (reads r) (a t ++ b (A t)) (R (B (A t))))
              ∙ ap (keep (reads r)) (append_assoc (a t) (b (A t)) (R (B (A t))));
        }
    one (suc k) [] t m g = absurd m
    one (suc k) (e ∷ es) t m g =
        let u : State = does.next e t in
        let a : List Sent = does.sends e t in
        let ih : Alike (k ∷ []) es u = one k es u m (stays (length es) e t g) in
        record {
          states = ih.states;
          outs = ap (λ (os : List Gets). does.gets e t ∷ os) ih.outs;
          mail = λ r. keep_append (reads r) a (all_sent (swap_at k es) u) ∙ ap (λ (l : List Sent). keep (reads r) a ++ l) (ih.mail r)
              ∙ sym (keep_append (reads r) a (all_sent es u));
        }

    pub all : (ns : List ℕ) (es : List Entry) (t : State) → May may ns es → Good (length es) t → Alike ns es t
    all [] es t m g = record { states = refl; outs = refl; mail = λ r. refl }
    all (n ∷ ns) es t m g =
        let o : Alike (n ∷ []) es t = one n es t m.0 g in
        let ih : Alike ns (swap_at n es) t = all ns (swap_at n es) t m.1 (subst (λ (k : ℕ). Good k t) (sym (length-swap_at n es)) g) in
        record { states = ih.states ∙ o.states; outs = ih.outs ∙ ap (reorder ns) o.outs; mail = λ r. ih.mail r ∙ o.mail r }

-- ---- events on a table

abbrev pub stepping : Step → Stepping (List Version) Event Outcome Message
stepping step = record { next = after step; gets = λ e t. (step e t).out; sends = λ e t. (step e t).sent }

-- a system, and a line that it is told about
pub record Reader : Type 0 where
  pub local : Bool
  pub provider : ℕ
  pub line : ℕ

module _ (line : ℕ → ℕ) where
  abbrev pub reads : Reader → Message → Bool
  reads r m = is_for line r.local r.provider r.line m

  abbrev pub Commutes : Step → Event → Event → List Version → Type 0
  Commutes step e f t = Commute (stepping step) reads e f t

  pub same_events : (step : Step) (ns : List ℕ) (es : List Event) (t : List Version) → Alike (stepping step) reads ns es t
      → Same line step ns es t
  same_events step ns es t a =
      record { tables = a.states; outs = a.outs; mail = λ x p l. a.mail (record { local = x; provider = p; line = l }) }
