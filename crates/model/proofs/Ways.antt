-- The way by kind: what holds of the answer of each way holds of what an event gets. A walk of the rules cites this and tests no kind.
-- Assumes nothing.
use mathlib.Core.Path.{◌≡◌, refl}
use mathlib.Core.Bool.{Bool, true, false, cond}
use mathlib.Core.Option.{Option, none as nothing, some}
use mathlib.Core.List.{List}
use lib.Dec.{eqb}
use Rattle.model.specs.Books.{Books}
use Rattle.model.specs.Table.{Change}
use Rattle.model.specs.Record.{is_create, is_modify, is_answer, is_broadcast}
use Rattle.model.specs.Outcomes.{is_done}
use Rattle.model.specs.Given.{Given, Result, refuse, accept, found, rest, worked_one}
use Rattle.model.specs.Creates.{creates, create_on}
use Rattle.model.specs.Changes.{modifies, turns, cancelled, acknowledged, resolved, awaits_old, window_marks, window_turned, window_runs}
use Rattle.model.specs.Broadcast.{broadcasts}
use Rattle.model.specs.Answers.{answers}
use Rattle.model.specs.Step.{purges, manages, when_found, accepted, judged, rule}
use Rattle.model.specs.declared.Event.{Event}
use Rattle.model.specs.declared.Version.{Version}
use Rattle.model.specs.declared.Message.{Message}
use Rattle.model.specs.declared.Outcome.TheVariants.{Unknown}

module _ (P : Result → Type 0) where
  pub by_test : (b : Bool) {x y : Result} → (b ≡ true → P x) → (b ≡ false → P y) → P (cond b x y)
  by_test true h k = h refl
  by_test false h k = k refl

  by_found : (o : Option Version) (f : Version → Result) → P (refuse Unknown) → ((v : Version) → o ≡ some v → P (f v)) → P (when_found o f)
  by_found nothing f h k = h
  by_found (some v) f h k = k v refl

  -- ---- kinds 3 to 10 and 13 to 15
  pub record Ways (bk : Books) (e : Event) (v : Version) (others : List Version) : Type 0 where
    pub modify : is_modify e.kind ≡ true → P (modifies e v)
    pub cancel : eqb e.kind 6 ≡ true → P (turns (cancelled e v))
    pub acknowledge : eqb e.kind 7 ≡ true → P (turns (acknowledged e v))
    pub resolve : eqb e.kind 8 ≡ true → P (turns (resolved e v))
    pub mark : eqb e.kind 13 ≡ true → awaits_old v ≡ true → P (window_marks e v)
    pub turn : eqb e.kind 13 ≡ true → awaits_old v ≡ false → P (turns (window_turned e v))
    pub broadcast : is_broadcast e.kind ≡ true → P (broadcasts bk e v others)
    pub purge : P (purges v)

  pub by_way : (bk : Books) (e : Event) (v : Version) (others : List Version) → Ways bk e v others → P (manages bk e v others)
  unfolding manages window_runs
  by_way bk e v others w =
      by_test (is_modify e.kind) w.modify
      (λ _. by_test (eqb e.kind 6) w.cancel
      (λ _. by_test (eqb e.kind 7) w.acknowledge
      (λ _. by_test (eqb e.kind 8) w.resolve
      (λ _. by_test (eqb e.kind 13) (λ q. by_test (awaits_old v) (w.mark q) (w.turn q))
      (λ _. by_test (is_broadcast e.kind) w.broadcast (λ _. w.purge))))))

  -- ---- creates
  pub by_worked : (e : Event) (r : List Version) → (worked_one r ≡ nothing → P (create_on e r nothing))
      → ((v : Version) → worked_one r ≡ some v → P (create_on e r (some v))) → P (creates e r)
  unfolding creates
  by_worked e r h k = go (worked_one r) h k
    where
      go : (o : Option Version) → (o ≡ nothing → P (create_on e r nothing))
          → ((v : Version) → o ≡ some v → P (create_on e r (some v))) → P (create_on e r o)
      go nothing h k = h refl
      go (some v) h k = k v refl

  -- ---- all kinds
  pub record Kinds (g : Given) : Type 0 where
    pub create : is_create g.event.kind ≡ true → P (creates g.event g.rows)
    pub answer : is_create g.event.kind ≡ false → is_answer g.event.kind ≡ true → (v : Version) → found g ≡ some v
        → P (answers g.most g.event v (rest g))
    pub manage : is_create g.event.kind ≡ false → is_answer g.event.kind ≡ false → (v : Version) → found g ≡ some v
        → P (manages g.books g.event v (rest g))
    pub unknown : P (refuse Unknown)

  pub by_kind : (g : Given) → Kinds g → P (accepted g)
  unfolding accepted
  by_kind g k =
      by_test (is_create g.event.kind) k.create
      (λ c. by_test (is_answer g.event.kind) (λ a. by_found (found g) _ k.unknown (k.answer c a))
      (λ a. by_found (found g) _ k.unknown (k.manage c a)))

  -- whatever is accepted and whatever is refused
  pub by_answer : ((ms : List Message) (cs : List Change) → P (accept ms cs)) → P (refuse Unknown) → (g : Given) → P (accepted g)
  unfolding broadcasts answers
  by_answer h k g = by_kind g (record {
    create = λ _. by_worked g.event g.rows (λ _. h _ _) (λ v _. h _ _);
    answer = λ _ _ v _. h _ _;
    manage = λ _ _ v _. by_way g.books g.event v (rest g) (record {
      modify = λ _. h _ _;
      cancel = λ _. h _ _;
      acknowledge = λ _. h _ _;
      resolve = λ _. h _ _;
      mark = λ _ _. h _ _;
      turn = λ _ _. h _ _;
      broadcast = λ _. h _ _;
      purge = h _ _;
    });
    unknown = k;
  })

  -- ---- refused, or accepted
  pub by_order : (g : Given) → (is_done (judged g) ≡ true → P (accepted g))
      → (is_done (judged g) ≡ false → P (refuse (judged g))) → P (rule g)
  unfolding rule
  by_order g h k = by_test (is_done (judged g)) h k
