-- What is judged over the survey is refused or accepted as the model's rule says.
-- Assumes nothing.
use mathlib.Core.Path.{◌≡◌, refl, sym, ap, ◌∙◌, subst}
use Prim.Native.Nat.{ℕ, ◌+◌, ◌^◌, ◌<◌, ◌≤◌}
use native.Mathlib.Omega.{arith}
use mathlib.Core.Bool.{Bool, true, false, cond, not, ◌&&◌, ◌||◌}
use mathlib.Core.Option.{none}
use mathlib.Core.List.{List, [], ◌∷◌}
use lib.Dec.{eqb, ltb, leb}
use lib.ListN.{get_or}
use borrow.Author.Tests.{eqb-true, leb-true, leb-false, le-leb, ltb-true, not-false}
use Rattle.std.specs.Prelude.{Option, Some, None, Result, Ok, Err}
use Rattle.systems.specs.Set.{member}
use Rattle.model.specs.Books.{Books}
use Rattle.model.specs.Kinds as kind
use Rattle.model.specs.Record.{is_plain, is_create, is_answer, well_formed, kind_fits}
use Rattle.model.specs.Sound.{apart, sets_apart, retries_in_range, last_status}
use Rattle.model.specs.Standing.{is_grid_kind}
use Rattle.model.specs.Outcomes.{is_done, judge, order_of, create_order, answer_order}
use Rattle.model.specs.Given.{with_number, besides, found}
use Rattle.model.specs.Answers.{answering, awaited, answers}
use Rattle.model.specs.Refusals.{refuses, before_start}
use Rattle.model.specs.Step.{accepted, rule}
use Rattle.model.proofs.Lists.{clash, conj_at, and_l, and_r}
use Rattle.model.proofs.Formed.{fields, answering-named}
use Rattle.model.proofs.SoundSets.{apart_says, apart-turned}
use Rattle.model.proofs.SoundRows.{Row, cast_ranges}
use Rattle.answers.specs.Waits.{Waits}
use Rattle.table.specs.Survey.{Found, Stands, the_one}
use Rattle.table.proofs.Surveys.{worked_of, asked_of}
use Rattle.table.specs.declared.survey.Facts.{Facts}
use Rattle.table.specs.declared.survey.Placed.{Placed}
use Rattle.judge.specs.Judged.{go_on, test_of, create_tests, create_for, unknown_by, answer_for, other_for}
use Rattle.model.proofs.Outcomes.{refusal_passed}
use Rattle.judge.proofs.Judging.{create_judged, unknown_judged, answer_judged, other_judged}
use Rattle.verdict.specs.declared.Verdict.{Verdict}
use Rattle.rules.specs.Rules.{Holds, Says, Settles, Manages, Creates, given_by, Facing, Decides, refused_by}
use Rattle.rules.specs.declared.Known.{Known}
use Rattle.model.specs.declared.Event.{Event}
use Rattle.model.specs.declared.Version.{Version}
use Rattle.model.specs.declared.Outcome.{Outcome}
use Rattle.model.specs.declared.Outcome.TheVariants.{Unawaited, Full, Exhausted}

-- ---- refused, or accepted

-- an outcome went on, or refused with itself
abbrev goes_on : Result Unit Outcome → Bool
goes_on (Ok u) = true
goes_on (Err x) = false

abbrev refusal : Outcome → Result Unit Outcome → Outcome
refusal o (Ok u) = o
refusal o (Err x) = x

pub done_by : (o : Outcome) (r : Result Unit Outcome) (u : Unit) → r ≡ go_on o → r ≡ Ok u → is_done o ≡ true
done_by o r u q z = go (is_done o) (ap goes_on (sym z ∙ q))
  where
    go : (b : Bool) → true ≡ goes_on (cond b (Ok tt) (Err o)) → b ≡ true
    go true p = refl
    go false p = sym p

stopped : (o : Outcome) (r : Result Unit Outcome) (x : Outcome) → r ≡ go_on o → r ≡ Err x → (is_done o ≡ false) × (x ≡ o)
stopped o r x q z = (by_done (is_done o) (ap goes_on (sym z ∙ q)), ap (refusal o) (sym z ∙ q) ∙ same (is_done o))
  where
    by_done : (b : Bool) → false ≡ goes_on (cond b (Ok tt) (Err o)) → b ≡ false
    by_done true p = sym p
    by_done false p = refl

    same : (b : Bool) → refusal o (cond b (Ok tt) (Err o)) ≡ o
    same true = refl
    same false = refl

-- o is what the model judges, whatever books and rows the values are of
abbrev Judges : Event → Known → Facts → Outcome → Type 0
Judges e k f o = (bk : Books) (r t : List Version) → Facing bk r t e k f → o ≡ judge (refuses (given_by bk k e r)) (order_of e.kind)

module _ (e : Event) (k : Known) (f : Facts) (o : Outcome) (v : Verdict) (j : Judges e k f o) where
  refused_says : is_done o ≡ false → v ≡ refused_by o → Decides e k f v
  unfolding rule
  refused_says off q bk r t fc = rw q (record { is = rw (← j bk r t fc, off); sits = tt })

  pub refused_by_lem : (r : Result Unit Outcome) (x : Outcome) → r ≡ go_on o → r ≡ Err x → v ≡ refused_by x → Decides e k f v
  refused_by_lem r x q z p = let s = stopped o r x q z in refused_says s.0 (p ∙ ap refused_by s.1)

  accepted_says : is_done o ≡ true
      → ((bk : Books) (r t : List Version) → Facing bk r t e k f → Says (accepted (given_by bk k e r)) t k.free v) → Decides e k f v
  unfolding rule
  accepted_says on s bk r t fc = rw (← j bk r t fc, on) (s bk r t fc)

-- ---- creates
module _ (e : Event) (k : Known) (f : Facts) (c : is_create e.kind ≡ true) where
  pub create_judges : Judges e k f (create_for e k.absent k.owner f k.free)
  create_judges bk r t fc = rw (fc.absent, fc.owner c) (create_judged t (given_by bk k e r) f fc.survey c)

  module _ (d : is_done (create_for e k.absent k.owner f k.free) ≡ true) where
    pub create_room : the_one f.worked ≡ none → f.newest < 65535
    unfolding create_for
    create_room w =
        leb-false 65535 f.newest (rw w at (refusal_passed (test_of create_order (create_tests e k.absent k.owner f k.free))
        create_order Exhausted refl refl d))

    create_free : the_one f.worked ≡ none → k.free ≡ true
    unfolding create_for
    create_free w =
        not-false k.free (rw w at (refusal_passed (test_of create_order (create_tests e k.absent k.owner f k.free)) create_order
        Full refl refl d))

    pub create_says : (v : Verdict) → Creates e f.newest f.worked v → Decides e k f v
    unfolding accepted
    create_says v s =
        accepted_says e k f _ v create_judges d (λ bk r t fc. rw c (s t r k.free fc.survey.newest
        (worked_of t r e.version _ f fc.survey c).is
        (worked_of t r e.version _ f fc.survey c).stands (λ w.
        (create_free w, fc.fresh (f.newest + 1) (let h = fc.survey.newest in omega arith)))))

-- ---- a version that is named
module _ (e : Event) (k : Known) (f : Facts) (c : is_create e.kind ≡ false) (bk : Books) (r t : List Version) (fc : Facing bk r t e k f)
  where
    asked : Found t f.asked (with_number e.version r)
    asked = asked_of t r e.version _ f fc.survey c

    is_found : (s : Option Placed) → f.asked ≡ s → found (given_by bk k e r) ≡ the_one s
    is_found s q = sym asked.is ∙ ap the_one q

    module _ (p : Placed) (q : f.asked ≡ Some p) where
      is_held : Holds t p.at p.version.id
      is_held = let s = subst (Stands t) q asked.stands in (s.0, ap (λ (x : Version). x.id) s.1)

-- 11 and 12 are no creates
answer_create : (k : ℕ) → is_answer k ≡ true → is_create k ≡ false
answer_create k h = go (eqb k 11) refl (eqb k 12) refl
  where
    at : (n : ℕ) → eqb k n ≡ true → is_create n ≡ false → is_create k ≡ false
    at n e p = subst (λ (j : ℕ). is_create j ≡ false) (sym (eqb-true k n e)) p

    go : (a : Bool) → eqb k 11 ≡ a → (b : Bool) → eqb k 12 ≡ b → is_create k ≡ false
    go true p b q = at 11 p refl
    go false p true q = at 12 q refl
    go false p false q = clash (rw (p, q) at h)

-- nobody of that name
pub unknown_says : (e : Event) (k : Known) (f : Facts) (o : Outcome) (v : Verdict) → is_create e.kind ≡ false → f.asked ≡ None
    → o ≡ unknown_by k.absent → v ≡ refused_by o
    → Decides e k f v
unknown_says e k f o v c q p =
    refused_says e k f o v (λ bk r t fc. p ∙ rw fc.absent (unknown_judged t (given_by bk k e r) f fc.survey c
    (is_found e k f c bk r t fc None q))) (subst (λ (x : Outcome). is_done x ≡ false) (sym p) (off k.absent))
  where
    off : (b : Bool) → is_done (unknown_by b) ≡ false
    off true = refl
    off false = refl

-- ---- answers
module _ (e : Event) (k : Known) (f : Facts) (p : Placed) (q : f.asked ≡ Some p) where
  module _ (a : is_answer e.kind ≡ true) where
    pub answer_judges : Judges e k f (answer_for e k.absent p.version)
    answer_judges bk r t fc =
        rw fc.absent (answer_judged t (given_by bk k e r) f fc.survey p.version (answer_create e.kind a) a
        (is_found e k f (answer_create e.kind a) bk r t fc (Some p) q))

    pub answer_says : is_done (answer_for e k.absent p.version) ≡ true → (w : Verdict)
        → Settles (answers k.most e p.version) p.at p.version.id f.former w → Decides e k f w
    unfolding accepted
    answer_says d w s =
        accepted_says e k f _ w answer_judges d (λ bk r t fc.
        rw (answer_create e.kind a, a, is_found e k f (answer_create e.kind a) bk r t fc (Some p) q)
        (s t (besides e.version r) k.free (is_held e k f (answer_create e.kind a) bk r t fc p q)
        (fc.lives (answer_create e.kind a))))

  -- ---- all others
  module _ (c : is_create e.kind ≡ false) (a : is_answer e.kind ≡ false) where
    pub other_judges : Judges e k f (other_for e k.absent f p.version)
    other_judges bk r t fc =
        rw fc.absent (other_judged t (given_by bk k e r) f fc.survey p.version c a (is_found e k f c bk r t fc (Some p) q))

    pub other_says : is_done (other_for e k.absent f p.version) ≡ true → (w : Verdict)
        → Manages k.selected p.at e p.version f.former w → Decides e k f w
    unfolding accepted
    other_says d w s =
        accepted_says e k f _ w other_judges d (λ bk r t fc.
        rw (c, a, is_found e k f c bk r t fc (Some p) q)
        (s bk (λ b. fc.selected b p.version (is_found e k f c bk r t fc (Some p) q)) t (besides e.version r) k.free
        (is_held e k f c bk r t fc p q) (fc.lives c)))

-- ---- what the functions ask of a sound version

pub row_purpose : (v : Version) → Row v → v.cast.purpose ≤ 3
row_purpose v r = leb-true v.cast.purpose 3 (cast_ranges v.cast r.ranges.cast).purpose

-- one of the waiting is in no other set
waits_of : (v : Version) (p : ℕ) → Row v → 1 ≤ p → p < 64 → member v.cast.waiting p ≡ true → Waits v.cast p
unfolding sets_apart retries_in_range
waits_of v p r l m h =
    let sets : List Bool =
    apart v.cast.confirmed v.cast.waiting ∷ apart v.cast.confirmed v.cast.failed ∷ apart v.cast.waiting
    v.cast.failed ∷ [] in
    let set : (i : ℕ) → get_or sets i true ≡ true = conj_at sets r.apart in
    let words : List Bool =
    ltb v.cast.retries.low (2 ^ 63) ∷ ltb v.cast.retries.mid (2 ^ 63) ∷ ltb v.cast.retries.high (2 ^ 63) ∷ [] in
    let word : (i : ℕ) → get_or words i true ≡ true = conj_at words (cast_ranges v.cast r.ranges.cast).retries in
    let few : p ≤ 63 = omega arith in
    record {
      named = l;
      few = few;
      waiting = h;
      unconfirmed = apart-turned v.cast.confirmed v.cast.waiting p (apart_says _ _ (set 0)) l few h;
      unfailed = (apart_says v.cast.waiting v.cast.failed (set 2)).out p l few h;
      words = record {
        low = ltb-true v.cast.retries.low (2 ^ 63) (word 0);
        mid = ltb-true v.cast.retries.mid (2 ^ 63) (word 1);
        high = ltb-true v.cast.retries.high (2 ^ 63) (word 2);
      };
    }

-- an answer that is not refused is awaited
pub answer_waits : (e : Event) (absent : Bool) (v : Version) → well_formed e ≡ true → is_answer e.kind ≡ true → Row v
    → is_done (answer_for e absent v) ≡ true → Waits v.cast (answering e)
answer_waits e absent v h a r d =
    let p = answering-named e h a in
    waits_of v (answering e) r p.0 p.1 (not-false (awaited e v) (refusal_passed (test_of answer_order
    (absent ∷ false ∷ not (awaited e v) ∷ before_start e v ∷ [])) answer_order Unawaited refl refl d))

-- ---- the grid has a place for the kind

or_true : (b : Bool) → (b || true) ≡ true
or_true true = refl
or_true false = refl

plain_grid : (k : ℕ) → is_plain k ≡ true → is_grid_kind k ≡ true
plain_grid k h = go (leb 5 k && leb k 8) refl (eqb k 10) refl
  where
    low : (leb 5 k && leb k 8) ≡ true → is_grid_kind k ≡ true
    low p =
        let a : 5 ≤ k = leb-true 5 k (and_l (leb 5 k) (leb k 8) p) in
        let b : k ≤ 8 = leb-true k 8 (and_r (leb 5 k) (leb k 8) p) in
        rw (le-leb 3 k (omega arith), le-leb k 10 (omega arith))

    go : (a : Bool) → (leb 5 k && leb k 8) ≡ a → (b : Bool) → eqb k 10 ≡ b → is_grid_kind k ≡ true
    go true p b q = low p
    go false p true q = subst (λ (j : ℕ). is_grid_kind j ≡ true) (sym (eqb-true k 10 q)) refl
    go false p false q =
        let r : (leb kind.window_ran_out k && leb k kind.last) ≡ true = rw (p, q) at h in
        ap (λ (z : Bool). (leb 3 k && leb k 10) || z) r ∙ or_true (leb 3 k && leb k 10)

grid_formed : (e : Event) → well_formed e ≡ true → is_create e.kind ≡ false → is_answer e.kind ≡ false → is_grid_kind e.kind ≡ true
unfolding kind_fits
grid_formed e h c a =
    go (is_plain e.kind) refl (eqb e.kind 1) refl (eqb e.kind 2) refl (eqb e.kind 3) refl (eqb e.kind 4) refl
    (eqb e.kind 9) refl
    (eqb e.kind 11) refl (eqb e.kind 12) refl
  where
    at : (n : ℕ) → eqb e.kind n ≡ true → is_grid_kind n ≡ true → is_grid_kind e.kind ≡ true
    at n q p = subst (λ (k : ℕ). is_grid_kind k ≡ true) (sym (eqb-true e.kind n q)) p

    go : (x : Bool) → is_plain e.kind ≡ x → (k1 : Bool) → eqb e.kind 1 ≡ k1 → (k2 : Bool) → eqb e.kind 2 ≡ k2 → (k3 : Bool)
        → eqb e.kind 3 ≡ k3
        → (k4 : Bool) → eqb e.kind 4 ≡ k4 → (k9 : Bool) → eqb e.kind 9 ≡ k9 → (r : Bool) → eqb e.kind 11 ≡ r → (s : Bool)
        → eqb e.kind 12 ≡ s
        → is_grid_kind e.kind ≡ true
    go true p _ _ _ _ _ _ _ _ _ _ _ _ _ _ =
        plain_grid e.kind p
    go false p true q _ _ _ _ _ _ _ _ _ _ _ _ = clash (sym (rw q at c))
    go false p false q true u _ _ _ _ _ _ _ _ _ _ = clash (sym (rw (q, u) at c))
    go false p false q false u true w _ _ _ _ _ _ _ _ = at 3 w refl
    go false p false q false u false w true x _ _ _ _ _ _ = at 4 x refl
    go false p false q false u false w false x true y _ _ _ _ = at 9 y refl
    go false p false q false u false w false x false y true z _ _ = clash (sym (rw z at a))
    go false p false q false u false w false x false y false z true o = clash (sym (rw (z, o) at a))
    go false p false q false u false w false x false y false z false o = clash (rw (p, q, u, w, x, y, z, o) at (fields e h).kind)

pub grid_asks : (e : Event) (v : Version) → well_formed e ≡ true → is_create e.kind ≡ false → is_answer e.kind ≡ false → Row v
    → (v.status ≤ last_status) × (is_grid_kind e.kind ≡ true)
grid_asks e v h c a r = (leb-true v.status last_status r.ranges.status, grid_formed e h c a)
