-- Demand 3 as a statement: which neighbours may be exchanged, and what stays the same.
-- Assumes nothing.
use Rattle.std.specs.Prelude.{◌≡◌, ℕ, zero, suc, ◌+◌, ◌≤◌, Bool, true, false, ◌&&◌, List, [], ◌∷◌, eqb, length}
use Rattle.model.specs.Basics.{keep, iff, All}
use Rattle.model.specs.Record.{is_answer, well_formed}
use Rattle.model.specs.Answers.{answering}
use Rattle.model.specs.Step.{Step, Setting, step_of, line, unsound, final, outcomes, messages}
use Rattle.model.specs.declared.Version.{Version}
use Rattle.model.specs.declared.Event.{Event}
use Rattle.model.specs.declared.Message.{Message}

-- ---- exchanges of neighbours, by their places

-- the members at places n and n + 1 are exchanged
abbrev pub swap_at : {A : Type 0} → ℕ → List A → List A
swap_at zero [] = []
swap_at zero (a ∷ []) = a ∷ []
swap_at zero (a ∷ b ∷ l) = b ∷ a ∷ l
swap_at (suc n) [] = []
swap_at (suc n) (a ∷ l) = a ∷ swap_at n l

-- the same exchanges in any list, of events or of what belongs to them
abbrev pub reorder : {A : Type 0} → List ℕ → List A → List A
reorder [] l = l
reorder (n ∷ ns) l = reorder ns (swap_at n l)

-- there are two neighbours at n and n + 1, and they may be exchanged
abbrev pub MayAt : {A : Type 0} → (A → A → Type 0) → ℕ → List A → Type 0
MayAt may zero [] = ⊥
MayAt may zero (a ∷ []) = ⊥
MayAt may zero (a ∷ b ∷ l) = may a b
MayAt may (suc n) [] = ⊥
MayAt may (suc n) (a ∷ l) = MayAt may n l

-- each exchange may be made when its turn comes
abbrev pub May : {A : Type 0} → (A → A → Type 0) → List ℕ → List A → Type 0
May may [] l = Unit {0}
May may (n ∷ ns) l = MayAt may n l × May may ns (swap_at n l)

-- ---- which events may be exchanged

-- replies or silences for one version, by line and number, from different Local SMSs
pub record Answers (line : ℕ → ℕ) (e f : Event) : Type 0 where
  pub first : is_answer e.kind ≡ true
  pub second : is_answer f.kind ≡ true
  pub lines : line e.tn.0 ≡ line f.tn.0
  pub versions : e.version ≡ f.version
  pub systems : answering e ≡ answering f → ⊥

-- events that name different lines, or such answers
pub data Exchangeable (line : ℕ → ℕ) (e f : Event) : Type 0 where
  lines : (line e.tn.0 ≡ line f.tn.0 → ⊥) → Exchangeable line e f
  answers : Answers line e f → Exchangeable line e f

-- ---- what stays

-- what one system is sent about one line [A3.6]
abbrev pub is_for : (ℕ → ℕ) → Bool → ℕ → ℕ → Message → Bool
is_for line local provider l m = iff m.local local && eqb m.provider provider && eqb (line m.id.tn.0) l

abbrev pub mail_of : (ℕ → ℕ) → Bool → ℕ → ℕ → List Message → List Message
mail_of line local provider l ms = keep (is_for line local provider l) ms

-- the same final table, the same outcome for each event, and for each system and line the same messages in the same order
pub record Same (line : ℕ → ℕ) (does : Step) (ns : List ℕ) (es : List Event) (t : List Version) : Type 0 where
  pub tables : final does (reorder ns es) t ≡ final does es t
  pub outs : outcomes does (reorder ns es) t ≡ reorder ns (outcomes does es t)
  pub mail : (local : Bool) (p l : ℕ)
      → mail_of line local p l (messages does (reorder ns es) t) ≡ mail_of line local p l (messages does es t)

-- A sound table with as many free rows as events, well-formed events, fixed sound books, a tray of 64, R of 0 to 7.
pub record Premises (s : Setting) (es : List Event) (t : List Version) : Type 0 where
  pub sound : unsound s t ≡ false
  pub free : length t + length es ≤ s.rows
  pub formed : All (λ (e : Event). well_formed e ≡ true) es

abbrev pub Demand3 : Type 0
Demand3 =
    (s : Setting) (ns : List ℕ) (es : List Event) (t : List Version) → Premises s es t → May (Exchangeable (line s)) ns es
    → Same (line s) (step_of s) ns es t
