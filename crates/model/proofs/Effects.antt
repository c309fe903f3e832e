-- What a step does and sends: a refusal nothing, an accepted event at most 63 messages, each about the event's number.
-- Assumes nothing.
use mathlib.Core.Path.{◌≡◌, refl, sym, ap, ◌∙◌}
use Prim.Native.Nat.{ℕ, zero, suc, ◌+◌, ◌≤◌}
use mathlib.Core.Bool.{Bool, true, false, cond}
use mathlib.Core.List.{List, [], ◌∷◌, ◌++◌, map}
use lib.Dec.{eqb}
use lib.ListN.{length, length-append, length-map}
use native.Mathlib.Omega.{arith}
use borrow.Author.Tests.{eqb-true, not-false}
use Rattle.systems.specs.Set.{member}
use Rattle.model.specs.Basics.{none}
use Rattle.model.specs.Books.{Books}
use Rattle.model.specs.Table.{Change, rows_of}
use Rattle.model.specs.Record.{well_formed}
use Rattle.model.specs.Outcomes.{is_done}
use Rattle.model.specs.Selection.{selected_for}
use Rattle.model.specs.Given.{Given, Result, refuse, accept, rest}
use Rattle.model.specs.Tray.{members_to, members, sides_told, to_soas, downloads, download_to, status_told, attributes_told, restated_told}
use Rattle.model.specs.Tray.{creation, status, attributes, no_lrn}
use Rattle.model.specs.Creates.{creates, fresh_version, concurred}
use Rattle.model.specs.Changes.{modified, turns, cancelled, acknowledged, resolved, window_turned}
use Rattle.model.specs.Closing.{open?, closed, closing_told, settling_told}
use Rattle.model.specs.Broadcast.{opened, broadcasts}
use Rattle.model.specs.Answers.{answers, heard, asked_again, again, answering}
use Rattle.model.specs.Step.{manages, accepted, judged, rule, Setting, line, unsound, given, step, step_of, after}
use Rattle.model.proofs.Lists.{clash, either}
use Rattle.model.proofs.Ways.{by_test, by_way, by_worked, by_kind, by_order}
use Rattle.model.proofs.Arrivals.{member_none}
use Rattle.model.proofs.Apart.{step_by, Fine, fine, rows_out}
use Rattle.model.proofs.Locality.{rule_in, local}
use Rattle.model.specs.declared.Lrn.{Lrn}
use Rattle.model.specs.declared.Version.{Version}
use Rattle.model.specs.declared.Event.{Event}
use Rattle.model.specs.declared.Message.{Message}
use Rattle.model.specs.declared.Outcome.{Outcome}
use Rattle.model.specs.declared.Outcome.TheVariants.{Unsound, Malformed, Unknown}

-- what every answer is: at most 63 messages, and none and no change with a refusal
pub record Modest (a : Result) : Type 0 where
  pub few : length a.sent ≤ 63
  pub nothing_sent : is_done a.out ≡ false → a.sent ≡ []
  pub nothing_done : is_done a.out ≡ false → a.does ≡ []

modest_refuse : (o : Outcome) → Modest (refuse o)
modest_refuse o = record { few = omega arith; nothing_sent = λ q. refl; nothing_done = λ q. refl }

modest_accept : (ms : List Message) (cs : List Change) → length ms ≤ 63 → Modest (accept ms cs)
modest_accept ms cs h = record { few = h; nothing_sent = λ q. clash (sym q); nothing_done = λ q. clash (sym q) }

-- ---- how many

-- the sides of v, told of w
sides_few : (v w : Version) (sort failed : ℕ) (lrn : Lrn) → length (to_soas w sort failed lrn (sides_told v)) ≤ 2
sides_few v w sort failed lrn =
    either (λ (ps : List ℕ). length (to_soas w sort failed lrn ps) ≤ 2) v.within (omega arith) (omega arith)

told_status : (w : Version) → length (status_told w) ≤ 2
told_status w = sides_few w w status 0 no_lrn

told_restated : (v w : Version) → length (restated_told v w) ≤ 4
told_restated v w = go (eqb v.status w.status)
  where
    few : length (attributes_told w) ≤ 2
    few = sides_few w w attributes 0 w.new.lrn

    go : (b : Bool) → length (cond b [] (status_told w) ++ attributes_told w) ≤ 4
    go true = omega (arith, few)
    go false = omega (arith, length-append (status_told w) (attributes_told w), told_status w, few)

length-members : (s n : ℕ) (l : List ℕ) → length (members_to s n l) ≤ n + length l
length-members s zero l = omega arith
length-members s (suc n) l = go (member s (suc n)) (length-members s n (suc n ∷ l)) (length-members s n l)
  where
    go : (b : Bool) → length (members_to s n (suc n ∷ l)) ≤ n + length (suc n ∷ l) → length (members_to s n l) ≤ n + length l
        → length (members_to s n (cond b (suc n ∷ l) l)) ≤ suc n + length l
    go true h k = omega arith
    go false h k = omega arith

pub members_few : (s : ℕ) → length (members s) ≤ 63
unfolding members
members_few s = length-members s 63 []

pub no_members : members 0 ≡ []
unfolding members
no_members = go 63 []
  where
    go : (n : ℕ) (l : List ℕ) → members_to 0 n l ≡ l
    go zero l = refl
    go (suc n) l = rw (member_none (suc n)) (go n l)

pub closing_two : (v : Version) → length (settling_told v) ≤ 2
unfolding settling_told closing_told
closing_two v = go (open? v) (eqb v.cast.purpose 1)
  where
    go : (a b : Bool) → length
        (cond a [] (to_soas (closed v) 2 v.cast.failed (record { 0 = 0 }) (cond b (sides_told v) (v.new.provider ∷ [])))) ≤ 2
    go true b = omega arith
    go false true = sides_few v (closed v) 2 v.cast.failed (record { 0 = 0 })
    go false false = omega arith

-- downloads, or else the closing's messages
broadcast_few : (w : Version) → length (downloads w ++ settling_told w) ≤ 63
unfolding settling_told
broadcast_few w = go (open? w) refl
  where
    go : (b : Bool) → open? w ≡ b → length (downloads w ++ settling_told w) ≤ 63
    go true q = rw q (omega (
      arith,
      length-append (downloads w) [],
      length-map (members w.cast.waiting) (download_to w),
      members_few w.cast.waiting,
    ))
    go false q =
        let z : w.cast.waiting ≡ 0 = eqb-true w.cast.waiting 0 (not-false (eqb w.cast.waiting 0) q) in
        let none : downloads w ≡ [] = ap (λ (s : ℕ). map (download_to w) (members s)) z ∙ ap (map (download_to w)) no_members in
        rw none (omega (arith, closing_two w))

modest_answers : (most : ℕ) (e : Event) (v : Version) (others : List Version) → Modest (answers most e v others)
unfolding answers asked_again
modest_answers most e v others =
    modest_accept _ _
    (omega (
      arith,
      length-append (asked_again most e v) (settling_told (heard most e v)),
      closing_two (heard most e v),
      one (again most e v.cast),
    ))
  where
    one : (b : Bool) → length (cond b (download_to v (answering e) ∷ []) []) ≤ 1
    one true = omega arith
    one false = omega arith

modest_creates : (e : Event) (r : List Version) → Modest (creates e r)
modest_creates e r =
    by_worked Modest e r (λ _. modest_accept _ _ (omega (arith, sides_few (fresh_version e r) (fresh_version e r) creation 0 no_lrn)))
    (λ v _. modest_accept _ _ (omega (arith, told_restated v (concurred e v))))

modest_turns : (w : Version) → Modest (turns w)
modest_turns w = modest_accept _ _ (omega (arith, told_status w))

modest_manages : (bk : Books) (e : Event) (v : Version) (others : List Version) → Modest (manages bk e v others)
unfolding broadcasts
modest_manages bk e v others = by_way Modest bk e v others (record {
  modify = λ _. modest_accept _ _ (omega (arith, told_restated v (modified e v)));
  cancel = λ _. modest_turns (cancelled e v);
  acknowledge = λ _. modest_turns (acknowledged e v);
  resolve = λ _. modest_turns (resolved e v);
  mark = λ _ _. modest_accept _ _ (omega arith);
  turn = λ _ _. modest_turns (window_turned e v);
  broadcast = λ _. modest_accept _ _ (broadcast_few (opened (selected_for bk v.id.tn) e v));
  purge = modest_accept _ _ (omega arith);
})

modest_accepted : (g : Given) → Modest (accepted g)
modest_accepted g = by_kind Modest g (record {
  create = λ _. modest_creates g.event g.rows;
  answer = λ _ _ v _. modest_answers g.most g.event v (rest g);
  manage = λ _ _ v _. modest_manages g.books g.event v (rest g);
  unknown = modest_refuse Unknown;
})

pub modest_rule : (g : Given) → Modest (rule g)
modest_rule g = by_order Modest g (λ _. modest_accepted g) (λ _. modest_refuse (judged g))

pub modest_step : (s : Setting) (e : Event) (t : List Version) → Modest (step_of s e t)
unfolding step
modest_step s e t =
    by_test Modest (unsound s t) (λ _. modest_refuse Unsound)
    (λ _. by_test Modest (well_formed e) (λ _. modest_rule (given s e t)) (λ _. modest_refuse Malformed))

-- ---- the event's own number

pub fine-step : (s : Setting) (e : Event) (t : List Version) → Fine (line s) (line s e.tn.0) (step_of s e t)
unfolding step
fine-step s e t = go (unsound s t)
  where
    go : (b : Bool) → Fine (line s) (line s e.tn.0) (cond b (refuse Unsound) (step_by (line s) (rule_in s) s.rows e t))
    go true = record { near = none; about = none; grows = omega arith }
    go false = fine (line s) (rule_in s) (local (line s) s) s.rows e t

-- the rows of every other number stay
pub other_rows : (s : Setting) (e : Event) (t : List Version) (l : ℕ) → (line s e.tn.0 ≡ l → ⊥)
    → rows_of (line s) l (after (step_of s) e t) ≡ rows_of (line s) l t
other_rows s e t l n = rows_out (line s) (line s e.tn.0) l (step_of s e t).does t (fine-step s e t).near n
