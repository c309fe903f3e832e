-- The rules are local: each answer keeps to the event's number. The proof has the shape of the rules.
-- Assumes nothing.
use mathlib.Core.Path.{◌≡◌, refl}
use Prim.Native.Nat.{ℕ}
use mathlib.Core.Bool.{Bool, true, false, cond, ◌&&◌}
use mathlib.Core.Option.{some}
use mathlib.Core.List.{List, [], ◌∷◌, ◌++◌, map}
use lib.Dec.{eqb}
use native.Mathlib.Omega.{arith}
use Rattle.model.specs.Basics.{keep, none, with}
use Rattle.model.specs.Books.{Books}
use Rattle.model.specs.Table.{put, add, strike}
use Rattle.model.specs.Sound.{numbered, live, worked}
use Rattle.model.specs.Record.{well_formed}
use Rattle.model.specs.Selection.{selected_for}
use Rattle.model.specs.Given.{Given, refuse, accept, other_than, found, rest}
use Rattle.model.specs.Tray.{to_soas, message, sides_told, members, downloads, download_to, restated_told, told_at_close}
use Rattle.model.specs.Creates.{creates, fresh_version, concurred}
use Rattle.model.specs.Changes.{modifies, modified, new_modified, old_modified, turns, cancelled, acknowledged, resolved, window_marked}
use Rattle.model.specs.Changes.{window_marks, window_turned}
use Rattle.model.specs.Closing.{open?, closed, retired, retiring, retires, takes_over, closing_told, settled, settles, settling_told}
use Rattle.model.specs.Broadcast.{opened, broadcasts}
use Rattle.model.specs.Answers.{answers, heard, asked_again, again}
use Rattle.model.specs.Step.{manages, accepted, judged, rule, Setting}
use Rattle.model.proofs.Lists.{either, all-cond, all_append, all_map, all_any, all_keep, all_first}
use Rattle.model.proofs.Ways.{by_test, by_way, by_worked, by_kind, by_order}
use Rattle.model.proofs.TableLaws.{adds}
use Rattle.model.proofs.Apart.{Rule, Near, About, Rows, Fine, Local}
use Rattle.model.specs.declared.Id.{Id}
use Rattle.model.specs.declared.Lrn.{Lrn}
use Rattle.model.specs.declared.Version.{Version}
use Rattle.model.specs.declared.Event.{Event}
use Rattle.model.specs.declared.Message.{Message}
use Rattle.model.specs.declared.Outcome.{Outcome}
use Rattle.model.specs.declared.Outcome.TheVariants.{Unknown, Malformed}

-- the rules of a setting; fields that are malformed are refused
abbrev pub rule_in : Setting → Rule
rule_in s free e r =
    cond (well_formed e) (rule (record { books = s.books; most = s.most; free = free; event = e; rows = r })) (refuse Malformed)

adds_puts : (f : Version → Version) (l : List Version) → adds (map (λ (w : Version). put (f w)) l) ≡ 0
adds_puts f [] = refl
adds_puts f (a ∷ l) = rw (adds_puts f l)

module _ (line_of : ℕ → ℕ) (l : ℕ) where
  fine-refuse : (o : Outcome) → Fine line_of l (refuse o)
  fine-refuse o = record { near = none; about = none; grows = omega arith }

  abbrev In : Version → Type 0
  In v = line_of v.id.tn.0 ≡ l

  abbrev Mail : List Message → Type 0
  Mail ms = About line_of l ms

  fine-put : {w : Version} {ms : List Message} → In w → Mail ms → Fine line_of l (accept ms (put w ∷ []))
  fine-put h k = record { near = with h none; about = k; grows = omega arith }

  fine_add : {w : Version} {ms : List Message} → In w → Mail ms → Fine line_of l (accept ms (add w ∷ []))
  fine_add h k = record { near = with h none; about = k; grows = omega arith }

  fine_strike : {k : Id} → line_of k.tn.0 ≡ l → Fine line_of l (accept [] (strike k ∷ []))
  fine_strike h = record { near = with h none; about = none; grows = omega arith }

  -- ---- what is told of a version is about its number
  mail_soas : (v : Version) (sort failed : ℕ) (lrn : Lrn) (ps : List ℕ) → In v → Mail (to_soas v sort failed lrn ps)
  mail_soas v sort failed lrn ps h = all_map (λ (p : ℕ). Unit {0}) (λ (p : ℕ). message v false sort failed p lrn) (all_any ps) (λ p u. h)

  mail_restated : (v w : Version) → In w → Mail (restated_told v w)
  mail_restated v w h =
      all_append (all-cond (eqb v.status w.status) none (mail_soas w _ _ _ (sides_told w) h)) (mail_soas w _ _ _ (sides_told w) h)

  fine-turns : (w : Version) → In w → Fine line_of l (turns w)
  fine-turns w h = fine-put h (mail_soas w _ _ _ (sides_told w) h)

  -- ---- what settles
  mail_settling : (v : Version) → In v → Mail (settling_told v)
  unfolding settling_told closing_told closed
  mail_settling v h = all-cond (open? v) none (mail_soas (closed v) _ _ _ (told_at_close v) h)

  in_settled : (v : Version) → In v → In (settled v)
  unfolding settled closed
  in_settled v h = either In (open? v) h h

  near_settles : (v : Version) (others : List Version) → Rows line_of l others → Near line_of l (settles v others)
  unfolding settles retires retired
  near_settles v others h =
      all-cond (open? v) none (all-cond (takes_over v) (all_map In (retiring v) (all_keep live h) (λ a q. q)) none)

  pub adds_settles : (v : Version) (others : List Version) → adds (settles v others) ≡ 0
  unfolding settles retires
  adds_settles v others = go (open? v) (takes_over v)
    where
      go : (b c : Bool) → adds (cond b [] (cond c (map (retiring v) (keep live others)) [])) ≡ 0
      go true c = refl
      go false true = adds_puts (retired v.stamp) (keep live others)
      go false false = refl

  fine-settles : (v : Version) (others : List Version) (ms : List Message) → In v → Rows line_of l others → Mail ms
      → Fine line_of l (accept (ms ++ settling_told v) (put (settled v) ∷ settles v others))
  fine-settles v others ms h k m = record {
    near = with (in_settled v h) (near_settles v others k);
    about = all_append m (mail_settling v h);
    grows = omega (arith, adds_settles v others);
  }

-- ---- kind by kind
module _ (line_of : ℕ → ℕ) (e : Event) where
  abbrev L : ℕ
  L = line_of e.tn.0

  abbrev Own : Version → Type 0
  Own v = line_of v.id.tn.0 ≡ L

  fine-answers : (most : ℕ) (v : Version) (others : List Version) → Own v → Rows line_of L others → Fine line_of L (answers most e v others)
  unfolding answers heard asked_again
  fine-answers most v others h k =
      fine-settles line_of L (heard most e v) others (asked_again most e v) h k (all-cond (again most e v.cast) (with h none) none)

  fine-creates : (r : List Version) → Rows line_of L r → Fine line_of L (creates e r)
  unfolding fresh_version concurred
  fine-creates r h =
      by_worked (Fine line_of L) e r
      (λ _. fine_add line_of L refl (mail_soas line_of L (fresh_version e r) _ _ _ (sides_told (fresh_version e r)) refl))
      (λ v q. let own : Own v = all_first worked v h q in fine-put line_of L own (mail_restated line_of L v (concurred e v) own))

  fine-modifies : (v : Version) → Own v → Fine line_of L (modifies e v)
  unfolding new_modified old_modified
  fine-modifies v h =
      let own : Own (modified e v) = either Own (eqb e.kind 3) h h in
      fine-put line_of L own (mail_restated line_of L v (modified e v) own)

  fine-cancelled : (v : Version) → Own v → Fine line_of L (turns (cancelled e v))
  unfolding cancelled
  fine-cancelled v h = fine-turns line_of L (cancelled e v) (either Own (v.new.created && v.old.created) h h)

  fine-acknowledged : (v : Version) → Own v → Fine line_of L (turns (acknowledged e v))
  unfolding acknowledged
  fine-acknowledged v h = fine-turns line_of L (acknowledged e v) h

  fine-resolved : (v : Version) → Own v → Fine line_of L (turns (resolved e v))
  unfolding resolved
  fine-resolved v h = fine-turns line_of L (resolved e v) h

  fine-marked : (v : Version) → Own v → Fine line_of L (window_marks e v)
  unfolding window_marked
  fine-marked v h = fine-put line_of L h (mail_soas line_of L (window_marked e v) _ _ _ (v.old.provider ∷ []) h)

  fine-turned : (v : Version) → Own v → Fine line_of L (turns (window_turned e v))
  unfolding window_turned
  fine-turned v h = fine-turns line_of L (window_turned e v) (either Own (eqb v.status 2) h h)

  fine-broadcasts : (bk : Books) (v : Version) (others : List Version) → Own v → Rows line_of L others
      → Fine line_of L (broadcasts bk e v others)
  unfolding broadcasts opened
  fine-broadcasts bk v others h k =
      let w : Version = opened (selected_for bk v.id.tn) e v in
      fine-settles line_of L w others (downloads w) h k
      (all_map (λ (p : ℕ). Unit {0}) (download_to w) (all_any (members w.cast.waiting)) (λ a q. h))

  fine-manages : (bk : Books) (v : Version) (others : List Version) → Own v → Rows line_of L others → Fine line_of L (manages bk e v others)
  fine-manages bk v others h k = by_way (Fine line_of L) bk e v others (record {
    modify = λ _. fine-modifies v h;
    cancel = λ _. fine-cancelled v h;
    acknowledge = λ _. fine-acknowledged v h;
    resolve = λ _. fine-resolved v h;
    mark = λ _ _. fine-marked v h;
    turn = λ _ _. fine-turned v h;
    broadcast = λ _. fine-broadcasts bk v others h k;
    purge = fine_strike line_of L h;
  })

fine-accepted : (line_of : ℕ → ℕ) (g : Given) → Rows line_of (line_of g.event.tn.0) g.rows
    → Fine line_of (line_of g.event.tn.0) (accepted g)
fine-accepted line_of g h =
    let e : Event = g.event in
    let l : ℕ = line_of e.tn.0 in
    let others-in : Rows line_of l (rest g) = all_keep (λ (w : Version). other_than e.version w.id) h in
    let own : (v : Version) → found g ≡ some v → line_of v.id.tn.0 ≡ l = λ v q. all_first (numbered e.version) v h q in
    by_kind (Fine line_of l) g (record {
      create = λ _. fine-creates line_of e g.rows h;
      answer = λ _ _ v q. fine-answers line_of e g.most v (rest g) (own v q) others-in;
      manage = λ _ _ v q. fine-manages line_of e g.books v (rest g) (own v q) others-in;
      unknown = fine-refuse line_of l Unknown;
    })

pub local : (line_of : ℕ → ℕ) (s : Setting) → Local line_of (rule_in s)
local line_of s free e r h =
    let g : Given = record { books = s.books; most = s.most; free = free; event = e; rows = r } in
    let l : ℕ = line_of e.tn.0 in
    by_test (Fine line_of l) (well_formed e)
    (λ _. by_order (Fine line_of l) g (λ _. fine-accepted line_of g h) (λ _. fine-refuse line_of l (judged g)))
    (λ _. fine-refuse line_of l Malformed)
