-- Every step keeps a sound table sound.
-- Assumes nothing.
use mathlib.Core.Path.{◌≡◌, refl, sym}
use Prim.Native.Nat.{ℕ, ◌≤◌, ◌<◌}
use mathlib.Core.Bool.{Bool, true, false, cond}
use mathlib.Core.List.{List}
use mathlib.Core.Option.{some}
use lib.Dec.{eqb}
use borrow.Author.Tests.{leb-true, leb-false, not-false}
use Rattle.model.specs.Basics.{is_none}
use Rattle.model.specs.Books.{sound_retries}
use Rattle.model.specs.Record.{is_create, is_answer, well_formed}
use Rattle.model.specs.Outcomes.{is_done, judge, create_order, answer_order, other_order}
use Rattle.model.specs.Standing.{standing_of, stands_for, status_for, grid_rule, unready, lacks_standing, wrong_status}
use Rattle.model.specs.Given.{Given, besides, found, rest, newest, worked_one}
use Rattle.model.specs.Creates.{fits, creates}
use Rattle.model.specs.Answers.{awaited, answers}
use Rattle.model.specs.Refusals.{busy, unawaited, unfit, exhausted, refuses}
use Rattle.model.specs.Step.{manages, accepted, judged, Setting}
use Rattle.model.proofs.Lists.{clash, or_off}
use Rattle.model.proofs.Ways.{by_test, by_kind, by_order}
use Rattle.model.proofs.Outcomes.{StandsIn, refusal_passed}
use Rattle.model.proofs.TableLaws.{others}
use Rattle.model.proofs.Locality.{rule_in}
use Rattle.model.proofs.SoundOpened.{Allowed}
use Rattle.model.proofs.SoundLines.{with_named, besides_others}
use Rattle.model.proofs.SoundLaws.{Keeps, Ground, keeps_refuse}
use Rattle.model.proofs.SoundKinds.{keeps_manages, keeps_creates, keeps_answers}
use Rattle.model.specs.declared.Event.{Event}
use Rattle.model.specs.declared.Version.{Version}
use Rattle.model.specs.declared.Outcome.{Outcome}
use Rattle.model.specs.declared.Outcome.TheVariants.{Malformed, Unknown, Standless, Misplaced, Unfit, Busy, Unawaited, Exhausted}

-- the grid lets it pass
allowed : (e : Event) (v : Version) → lacks_standing e v ≡ false → wrong_status e v ≡ false → Allowed e v
unfolding grid_rule
allowed e v a b =
    let passed = or_off (eqb (grid_rule v.status e.kind (standing_of e v)) 7) (unready e v) b in
    let r = go (stands_for e.kind (standing_of e v)) (status_for e.kind v.status) a passed.0 in
    record { stands = r.0; allowed = r.1; ready = passed.1 }
  where
    go : (x y : Bool) → eqb (cond x (cond y 0 7) 6) 6 ≡ false → eqb (cond x (cond y 0 7) 6) 7 ≡ false → (x ≡ true) × (y ≡ true)
    go true true p q = (refl, refl)
    go true false p q = clash (sym q)
    go false y p q = clash (sym p)

-- ---- the rules keep the rows of a number sound
module _ (line_of : ℕ → ℕ) (s : Setting) (small : sound_retries s.most ≡ true) (free : Bool) (e : Event) (formed : well_formed e ≡ true)
    (r : List Version)
    (ground : Ground line_of (line_of e.tn.0) r) where
  abbrev G : Given
  G = record { books = s.books; most = s.most; free = free; event = e; rows = r }

  few : s.most ≤ 7
  few = leb-true s.most 7 small

  when_create : is_done (judge (refuses G) create_order) ≡ true → is_create e.kind ≡ true → Keeps r (creates e r)
  unfolding unfit exhausted
  when_create d k = keeps_creates line_of e formed r ground k room fit
    where
      room : is_none (worked_one r) ≡ true → newest r < 65535
      room q = leb-false 65535 (newest r) (rw q at (refusal_passed (refuses G) create_order Exhausted refl refl d))

      fit : (v : Version) → worked_one r ≡ some v → fits e v ≡ true
      fit v q = not-false (fits e v) (rw q at (refusal_passed (refuses G) create_order Unfit refl refl d))

  when_answer : is_done (judge (refuses G) answer_order) ≡ true → is_answer e.kind ≡ true → (v : Version) → found G ≡ some v
      → Keeps r (answers s.most e v (rest G))
  unfolding unawaited
  when_answer d a v q =
      rw (besides_others e.version r v ground.rising (ground.numbers.once e.version) q)
      (keeps_answers line_of e formed r ground s.most few v (with_named e.version r v ground.rising q) a waits)
    where
      waits : awaited e v ≡ true
      waits = not-false (awaited e v) (rw (a, q) at (refusal_passed (refuses G) answer_order Unawaited refl refl d))

  when_other : is_done (judge (refuses G) other_order) ≡ true → is_create e.kind ≡ false → (v : Version) → found G ≡ some v
      → Keeps r (manages s.books e v (rest G))
  unfolding busy
  when_other d c v q =
      rw same
      (keeps_manages line_of e formed r ground v (with_named e.version r v ground.rising q)
      (allowed e v (rw q at (past Standless refl)) (rw q at (past Misplaced refl))) s.books (rw same at (rw (c, q) at (past Busy refl))))
    where
      same : besides e.version r ≡ others v.id r
      same = besides_others e.version r v ground.rising (ground.numbers.once e.version) q

      past : (o : Outcome) → StandsIn o other_order → refuses G o ≡ false
      past o i = refusal_passed (refuses G) other_order o refl i d

  keeps_accepted : is_done (judged G) ≡ true → Keeps r (accepted G)
  keeps_accepted d = by_kind (Keeps r) G (record {
    create = λ c. when_create (rw c at d) c;
    answer = λ c a v q. when_answer (rw (c, a) at d) a v q;
    manage = λ c a v q. when_other (rw (c, a) at d) c v q;
    unknown = keeps_refuse Unknown r ground.line;
  })

pub keeps_rule : (line_of : ℕ → ℕ) (s : Setting) → sound_retries s.most ≡ true → (free : Bool) (e : Event) (r : List Version)
    → Ground line_of (line_of e.tn.0) r
    → Keeps r (rule_in s free e r)
keeps_rule line_of s small free e r g =
    by_test (Keeps r) (well_formed e)
    (λ formed. by_order (Keeps r) _ (λ d. keeps_accepted line_of s small free e formed r g d) (λ _. keeps_refuse _ r g.line))
    (λ _. keeps_refuse Malformed r g.line)
