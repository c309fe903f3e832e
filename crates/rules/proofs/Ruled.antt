-- The verdicts of accepted events are the model's results.
-- Assumes nothing.
use mathlib.Core.Path.{◌≡◌, refl, sym, ap, ap₂, ◌∙◌, subst}
use Prim.Native.Nat.{ℕ, suc, ◌+◌, ◌≤◌}
use mathlib.Core.Bool.{Bool, true, false, cond}
use mathlib.Core.Option.{none}
use mathlib.Core.List.{List, [], ◌∷◌, ◌++◌, map, append-nil}
use Rattle.std.specs.Prelude.{Option, Some, None}
use lib.Dec.{eqb}
use native.Mathlib.Omega.{arith}
use borrow.Author.Tests.{eqb-true, not-false, ne_eqb}
use Rattle.model.specs.Basics.{keep}
use Rattle.model.specs.Books.{Books}
use Rattle.model.specs.Table.{Change, put, add, find}
use Rattle.model.specs.Sound.{live}
use Rattle.model.specs.Record.{is_modify, is_broadcast}
use Rattle.model.specs.Given.{Result, accept, newest}
use Rattle.model.specs.Tray.{no_lrn, to_soas, sides_told, members, downloads, download_to, restated_told, window_told, created_told}
use Rattle.model.specs.Changes.{modified, turns, cancelled, acknowledged, resolved, awaits_old, window_marked, window_turned, window_runs}
use Rattle.model.specs.Closing.{open?, closed, closing_told, retired, retires, retiring, takes_over, settled, settles, settling_told}
use Rattle.model.specs.Broadcast.{opened, broadcast_of, broadcasts}
use Rattle.model.specs.Answers.{answering, again, heard, asked_again, answers}
use Rattle.model.specs.Creates.{creates, create_on, fresh_numbered, fresh_version, concurred}
use Rattle.model.specs.Step.{manages}
use Rattle.model.proofs.Effects.{no_members}
use Rattle.model.proofs.Lists.{clash}
use Rattle.model.proofs.Replies.{settled_id}
use Rattle.model.proofs.Stays.{concurred_stays, modified_stays, cancelled_stays, acknowledged_stays, resolved_stays, window_marked_stays}
use Rattle.model.proofs.Stays.{window_turned_stays, opened_stays, heard_stays}
use Rattle.table.specs.Survey.{the_one, list_of, Stands}
use Rattle.table.specs.declared.survey.Placed.{Placed}
use Rattle.verdict.specs.Verdict.{run_of, messages_of}
use Rattle.verdict.proofs.Laws.{downloads_are}
use Rattle.verdict.specs.declared.Rows.{Rows}
use Rattle.verdict.specs.declared.Rows.TheVariants.{Put, PutTwo, Strike}
use Rattle.verdict.specs.declared.To.TheVariants.{Locals}
use Rattle.verdict.specs.declared.Run.{Run}
use Rattle.verdict.specs.declared.Mail.{Mail}
use Rattle.verdict.specs.declared.Mail.TheVariants as mail
use Rattle.verdict.specs.declared.Verdict.{Verdict}
use Rattle.rules.specs.Rules.{Holds, Says, Puts, Settles, Adds, replaced_by, Settled, Manages, Creates}
use Rattle.model.specs.declared.Id.{Id}
use Rattle.model.specs.declared.Event.{Event}
use Rattle.model.specs.declared.Version.{Version}
use Rattle.model.specs.declared.Message.{Message}
use Rattle.model.specs.declared.Outcome.TheVariants.{Done}

-- ---- mail

pub one_told : {ms : List Message} {cs : List Change} (r : Run) → run_of r ≡ ms
    → record { out = Done; sent = messages_of (mail.One r); does = cs } ≡ accept ms cs
one_told {ms} {cs} r e = ap (λ (x : List Message). accept x cs) e

pub two_told : {ms ns : List Message} {cs : List Change} (a b : Run) → run_of a ≡ ms → run_of b ≡ ns
    → record { out = Done; sent = messages_of (mail.Two a b); does = cs } ≡ accept (ms ++ ns) cs
two_told {ms} {ns} {cs} a b e f = ap₂ (λ (x y : List Message). accept (x ++ y) cs) e f

-- ---- a close

module _ (w v : Version) (r : Run) (e : v ≡ closed w) where
  pub close_sides : eqb w.cast.purpose 1 ≡ true → run_of r ≡ to_soas v 2 w.cast.failed no_lrn (sides_told v) → run_of r ≡ closing_told w
  unfolding closing_told closed
  close_sides p q = rw p (q ∙ ap (λ (x : Version). to_soas x 2 w.cast.failed no_lrn (sides_told x)) e)

  pub close_side : eqb w.cast.purpose 1 ≡ false → run_of r ≡ to_soas v 2 w.cast.failed no_lrn (v.new.provider ∷ [])
      → run_of r ≡ closing_told w
  unfolding closing_told closed
  close_side p q = rw p (q ∙ ap (λ (x : Version). to_soas x 2 w.cast.failed no_lrn (x.new.provider ∷ [])) e)

-- ---- one row

-- a result of one row is the one of the same version, under the name that it keeps
pub puts_as : {x y : Result} {i : ℕ} {k l : Id} {r : Verdict} → x ≡ y → k ≡ l → Puts x i k r → Puts y i l r
puts_as {x} {y} {i} {k} {l} {r} e n p t free h =
    subst (λ (z : Result). Says z t free r) e (p t free (h.0, h.1 ∙ sym n))

module _ (e : Event) (v w : Version) (i : ℕ) (r : Verdict) where
  pub window_marks_lem : awaits_old v ≡ true → w ≡ window_marked e v → Puts (accept (window_told w) (put w ∷ [])) i w.id r
      → Puts (window_runs e v) i v.id r
  unfolding window_runs
  window_marks_lem m q =
      rw m (puts_as (ap (λ (x : Version). accept (window_told x) (put x ∷ [])) q)
      (ap (λ (x : Version). x.id) q ∙ (window_marked_stays e v).name))

  pub window_turns : awaits_old v ≡ false → w ≡ window_turned e v → Puts (turns w) i w.id r → Puts (window_runs e v) i v.id r
  unfolding window_runs
  window_turns m q = rw m (puts_as (ap turns q) (ap (λ (x : Version). x.id) q ∙ (window_turned_stays e v).name))

-- ---- a broadcast that settles
module _ (w : Version) (lives : Option Placed) where
  settles_replaced : (rest : List Version) → keep live rest ≡ list_of (the_one lives)
      → settles w rest ≡ map (retiring w) (list_of (the_one (replaced_by w lives)))
  unfolding settles retires
  settles_replaced rest only = go (open? w) refl (takes_over w) refl
    where
      go : (a : Bool) → open? w ≡ a → (b : Bool) → takes_over w ≡ b
          → settles w rest ≡ map (retiring w) (list_of (the_one (replaced_by w lives)))
      go true p b q = rw p
      go false p true q = rw (p, q) (ap (map (retiring w)) only)
      go false p false q = rw (p, q)

  replaced_stands : (t : List Version) → Stands t lives → Stands t (replaced_by w lives)
  replaced_stands t h = go (open? w) (takes_over w)
    where
      go : (a b : Bool) → Stands t (cond a None (cond b lives None))
      go true b = tt
      go false true = h
      go false false = tt

  module _ (i : ℕ) (s : Version) (es : s ≡ settled w) where
    own : (t : List Version) → Holds t i w.id → Holds t i s.id
    own t h = (h.0, h.1 ∙ sym (ap (λ (x : Version). x.id) es ∙ settled_id w))

    pub settled-alone : replaced_by w lives ≡ None → Settled i w lives (Put s i)
    settled-alone e t rest free h l = (
      ap₂ (λ (x : Version) (cs : List Change). put x ∷ cs) es
          (sym (settles_replaced rest l.only ∙ ap (λ (x : Option Placed). map (retiring w) (list_of (the_one x))) e)),
      own t h,
    )

    pub settled_over : (p : Placed) (old : Version) → old ≡ retired w.stamp p.version → replaced_by w lives ≡ Some p
        → Settled i w lives (PutTwo s i old p.at)
    unfolding retired
    settled_over p old eo e t rest free h l =
        let b = subst (Stands t) e (replaced_stands t l.stands) in (
          ap₂ (λ (y : Version) (cs : List Change). put y ∷ cs) es
              (ap (λ (y : Version). put y ∷ []) eo ∙ sym (settles_replaced rest l.only ∙ ap
              (λ (y : Option Placed). map (retiring w) (list_of (the_one y))) e)),
          (own t h, (b.0, ap (λ (y : Version). y.id) b.1 ∙ sym (ap (λ (y : Version). y.id) eo))),
        )

module _ (i : ℕ) (w : Version) (lives : Option Placed) (rows : Rows) (s : Settled i w lives rows) where
  -- so many are asked
  pub cast_asks : (run : Run) → open? w ≡ true → run ≡ record { say = download_to w 0; to = Locals w.cast.waiting }
      → Settles (broadcast_of w) i w.id lives (record { out = Done; rows = rows; mail = mail.One run })
  unfolding settling_told
  cast_asks run o e t rest free h l =
      let g = s t rest free h l in
      record { is = rw o (ap₂ accept (ap run_of e ∙ downloads_are w 0 ∙ sym (append-nil (downloads w))) g.0); sits = g.1 }

  -- nobody is asked, and it closes at once
  pub cast_closes : (run : Run) → open? w ≡ false → run_of run ≡ closing_told w
      → Settles (broadcast_of w) i w.id lives (record { out = Done; rows = rows; mail = mail.One run })
  unfolding settling_told
  cast_closes run o e t rest free h l =
      let g = s t rest free h l in
      let z : w.cast.waiting ≡ 0 = eqb-true w.cast.waiting 0 (not-false (eqb w.cast.waiting 0) o) in
      let none : downloads w ≡ [] = ap (λ (x : ℕ). map (download_to w) (members x)) z ∙ ap (map (download_to w)) no_members in
      record { is = rw o (ap₂ accept (e ∙ ap (λ (ms : List Message). ms ++ closing_told w) (sym none)) g.0); sits = g.1 }

-- ---- kinds 3 to 10 and 13 to 15, by their way

-- a kind that begins a broadcast has no other
cast_way : (bk : Books) (e : Event) (v : Version) (rest : List Version) → is_broadcast e.kind ≡ true
    → manages bk e v rest ≡ broadcasts bk e v rest
unfolding manages
cast_way bk e v rest h = go (eqb e.kind 5) refl (eqb e.kind 9) refl (eqb e.kind 10) refl (eqb e.kind 14) refl
  where
    at : (n : ℕ) → eqb e.kind n ≡ true → e.kind ≡ n
    at n q = eqb-true e.kind n q

    go : (a : Bool) → eqb e.kind 5 ≡ a → (b : Bool) → eqb e.kind 9 ≡ b → (c : Bool) → eqb e.kind 10 ≡ c → (d : Bool)
        → eqb e.kind 14 ≡ d
        → manages bk e v rest ≡ broadcasts bk e v rest
    go true p b q c u d w = rw (at 5 p)
    go false p true q c u d w = rw (at 9 q)
    go false p false q true u d w = rw (at 10 u)
    go false p false q false u true w = rw (at 14 w)
    go false p false q false u false w = clash (rw (p, q, u, w) at h)

module _ (s i : ℕ) (e : Event) (v w : Version) (lives : Option Placed) (r : Verdict) where
  -- a way that changes one row
  by_row : (f : Version → Result) (x : Version) → ((bk : Books) (rest : List Version) → manages bk e v rest ≡ f x) → x.id ≡ v.id → w ≡ x
      → Puts (f w) i w.id r
      → Manages s i e v lives r
  by_row f x way n q p bk pick t rest free h l =
      puts_as (ap f q ∙ sym (way bk rest)) (ap (λ (y : Version). y.id) q ∙ n) p t free h

  pub managed_modify : is_modify e.kind ≡ true → w ≡ modified e v → Puts (accept (restated_told v w) (put w ∷ [])) i w.id r
      → Manages s i e v lives r
  unfolding manages
  managed_modify k =
      by_row (λ (x : Version). accept (restated_told v x) (put x ∷ [])) (modified e v) (λ bk rest. rw k) (modified_stays e v).name

  pub managed_cancel : e.kind ≡ 6 → w ≡ cancelled e v → Puts (turns w) i w.id r → Manages s i e v lives r
  unfolding manages
  managed_cancel k = by_row turns (cancelled e v) (λ bk rest. rw k) (cancelled_stays e v).name

  pub managed_acknowledge : e.kind ≡ 7 → w ≡ acknowledged e v → Puts (turns w) i w.id r → Manages s i e v lives r
  unfolding manages
  managed_acknowledge k = by_row turns (acknowledged e v) (λ bk rest. rw k) (acknowledged_stays e v).name

  pub managed_resolve : e.kind ≡ 8 → w ≡ resolved e v → Puts (turns w) i w.id r → Manages s i e v lives r
  unfolding manages
  managed_resolve k = by_row turns (resolved e v) (λ bk rest. rw k) (resolved_stays e v).name

  pub managed_cast : is_broadcast e.kind ≡ true → w ≡ opened s e v → Settles (broadcast_of w) i w.id lives r → Manages s i e v lives r
  unfolding broadcasts
  managed_cast k q p bk pick t rest free h l =
      let n : w.id ≡ v.id = ap (λ (x : Version). x.id) q ∙ (opened_stays s e v).name in
      subst (λ (z : Result). Says z t free r)
      (ap (λ (x : Version). broadcast_of x rest) (q ∙ ap (λ (m : ℕ). opened m e v) (pick k)) ∙ sym (cast_way bk e v rest k))
      (p t rest free (h.0, h.1 ∙ sym n) l)

pub managed_window : (s i : ℕ) (e : Event) (v : Version) (lives : Option Placed) (r : Verdict) → e.kind ≡ 13
    → Puts (window_runs e v) i v.id r
    → Manages s i e v lives r
unfolding manages
managed_window s i e v lives r k p bk pick t rest free h l = puts_as {y = manages bk e v rest} (rw k) refl p t free h

pub managed_purge : (s i : ℕ) (e : Event) (v : Version) (lives : Option Placed) → is_broadcast e.kind ≡ false → is_modify e.kind ≡ false
    → (e.kind ≡ 6 → ⊥) → (e.kind ≡ 7 → ⊥)
    → (e.kind ≡ 8 → ⊥) → (e.kind ≡ 13 → ⊥) → Manages s i e v lives (record { out = Done; rows = Strike i v.id; mail = mail.Silence })
unfolding manages
managed_purge s i e v lives b m p q u w bk pick t rest free h l =
    record { is = rw (m, ne_eqb _ 6 p, ne_eqb _ 7 q, ne_eqb _ 8 u, ne_eqb _ 13 w, b); sits = h }

-- ---- an answer

pub answered_says : (most i : ℕ) (e : Event) (v w : Version) (lives : Option Placed) (rows : Rows) (mail : Mail) (again' : Bool) (p : ℕ)
    → again' ≡ again most e v.cast → p ≡ answering e
    → w ≡ heard most e v → Settled i w lives rows → messages_of mail ≡ cond again' (download_to v p ∷ []) [] ++ settling_told w
    → Settles (answers most e v) i v.id lives (record { out = Done; rows = rows; mail = mail })
unfolding answers asked_again
answered_says most i e v w lives rows mail a p ea ep ew s m t rest free h l =
    let g = s t rest free (h.0, h.1 ∙ sym (ap (λ (x : Version). x.id) ew ∙ (heard_stays most e v).name)) l in
    record {
      is = ap₂ accept (m ∙ ap₂ (λ (x y : List Message). x ++ y) (ap₂ (λ (b : Bool) (n : ℕ). cond b (download_to v n ∷ []) []) ea ep)
          (ap settling_told ew))
          (g.0 ∙ ap (λ (x : Version). put (settled x) ∷ settles x rest) ew);
      sits = g.1;
    }

-- ---- a create
module _ (e : Event) (last : ℕ) (worked : Option Placed) (w : Version) (r : Verdict) where
  pub created_fresh : worked ≡ None → w ≡ fresh_numbered e (last + 1) → Adds (accept (created_told w) (add w ∷ [])) w.id r
      → Creates e last worked r
  unfolding creates fresh_version
  created_fresh q ew a t rows free n o st fr =
      let f = fr (ap the_one q) in
      let k : last + 1 ≡ suc (newest rows) = omega (arith, n) in
      subst (λ (x : Result). Says x t free r)
      (ap (λ (x : Version). accept (created_told x) (add x ∷ [])) (ew ∙ ap (fresh_numbered e) k) ∙ ap (create_on e rows)
      (sym (ap the_one q) ∙ o))
      (a t free f.0 (subst (λ (x : Version). find x.id t ≡ none) (sym ew) f.1))

  pub created_joins : (p : Placed) → worked ≡ Some p → w ≡ concurred e p.version
      → Puts (accept (restated_told p.version w) (put w ∷ [])) p.at w.id r → Creates e last worked r
  unfolding creates
  created_joins s q ew p t rows free n o st fr =
      let b = subst (Stands t) q st in
      puts_as (ap (λ (x : Version). accept (restated_told s.version x) (put x ∷ [])) ew ∙ ap (create_on e rows) (sym (ap the_one q) ∙ o))
      (ap (λ (x : Version). x.id) ew ∙ (concurred_stays e s.version).name) p t free
      (b.0, ap (λ (x : Version). x.id) b.1)

-- ---- the purpose of what is opened

cond-le : (b : Bool) (x y n : ℕ) → x ≤ n → y ≤ n → cond b x y ≤ n
cond-le true x y n p q = p
cond-le false x y n p q = q

pub opened_few : (s : ℕ) (e : Event) (v w : Version) → w ≡ opened s e v → v.cast.purpose ≤ 3 → w.cast.purpose ≤ 3
unfolding opened
opened_few s e v w q h =
    subst (λ (x : Version). x.cast.purpose ≤ 3) (sym q)
    (cond-le (eqb e.kind 14) v.cast.purpose (cond (eqb e.kind 5) 1 (cond (eqb e.kind 9) 2 3)) 3 h
    (cond-le (eqb e.kind 5) 1 (cond (eqb e.kind 9) 2 3) 3 (omega arith)
    (cond-le (eqb e.kind 9) 2 3 3 (omega arith) (omega arith))))
