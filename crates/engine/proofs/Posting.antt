-- What the rules send fits the places of a tray, where what they bring fits its rows.
-- Assumes nothing.
use mathlib.Core.Path.{◌≡◌, refl, sym, ap, ◌∙◌, subst}
use Prim.Native.Nat.{ℕ, zero, suc, ◌+◌, ◌^◌, ◌<◌}
use native.Mathlib.Omega.{arith}
use mathlib.Core.Bool.{Bool, true, false, cond}
use mathlib.Core.List.{List, [], ◌∷◌, ◌++◌, map}
use lib.Dec.{eqb}
use borrow.Author.Tests.{eqb-true, not-false}
use Rattle.systems.specs.Set.{member}
use Rattle.model.specs.Basics.{All, none, with}
use Rattle.model.specs.Books.{Books}
use Rattle.model.specs.Table.{put}
use Rattle.model.specs.Record.{well_formed}
use Rattle.model.specs.Given.{Given, Result, accept, rest}
use Rattle.model.specs.Selection.{selected_for}
use Rattle.model.specs.Creates.{creates, fresh_version, concurred}
use Rattle.model.specs.Changes.{modified, turns, cancelled, acknowledged, resolved, window_turned, window_marked, window_marks}
use Rattle.model.specs.Broadcast.{opened, broadcasts}
use Rattle.model.specs.Answers.{answering, again, heard, asked_again, answers}
use Rattle.model.specs.Closing.{open?, closed, closing_told, settled, settling_told}
use Rattle.model.specs.Tray.{members_to, members, message, no_lrn, to_soas, sides_told, restated_told, status_told, attributes_told}
use Rattle.model.specs.Tray.{download_to}
use Rattle.model.specs.Tray.{downloads}
use Rattle.model.specs.Step.{manages, accepted, rule}
use Rattle.model.proofs.Lists.{head_of, all_first}
use Rattle.model.proofs.Ways.{by_way, by_worked, by_kind, by_order}
use Rattle.model.proofs.Formed.{answering-named}
use Rattle.model.proofs.Effects.{no_members}
use Rattle.model.specs.Sound.{numbered}
use Rattle.model.proofs.SoundLaws.{Brings}
use Rattle.model.proofs.SoundRows.{Row, of_row}
use Rattle.tray.specs.Tray.{Fits}
use Rattle.model.specs.declared.Lrn.{Lrn}
use Rattle.model.specs.declared.Event.{Event}
use Rattle.model.specs.declared.Version.{Version}
use Rattle.row.specs.Layout.{Room}
use Rattle.row.proofs.Rooms.{sound_room}

-- ---- messages about a version that fits its row

all_append : {A : Type 0} {P : A → Type 0} {xs ys : List A} → All P xs → All P ys → All P (xs ++ ys)
all_append none k = k
all_append (with h hs) k = with h (all_append hs k)

row_room : (w : Version) → Row w → Room w
row_room w r = sound_room w (of_row w r)

soa_fits : (w : Version) → Room w → (sort failed p : ℕ) (lrn : Lrn) → sort < 16 → failed < 2 ^ 64 → p < 64 → lrn.0 < 2 ^ 34
    → Fits (message w false sort failed p lrn)
soa_fits w s sort failed p lrn a b c d = record {
  small = record { tn = s.small.tn; status = s.small.status; provider = c; sort = a; lrn = d };
  number = s.number;
  failed = b;
}

sides_fit : (w : Version) → Room w → (sort failed : ℕ) (lrn : Lrn) → sort < 16 → failed < 2 ^ 64 → lrn.0 < 2 ^ 34
    → All Fits (to_soas w sort failed lrn (sides_told w))
sides_fit w s sort failed lrn a b d = go w.within
  where
    new : Fits (message w false sort failed w.new.provider lrn)
    new = soa_fits w s sort failed w.new.provider lrn a b s.small.new d

    go : (x : Bool) → All Fits (to_soas w sort failed lrn (cond x (w.new.provider ∷ []) (w.old.provider ∷ w.new.provider ∷ [])))
    go true = with new none
    go false = with (soa_fits w s sort failed w.old.provider lrn a b s.small.old d) (with new none)

restated-fit : (v w : Version) → Room w → All Fits (restated_told v w)
restated-fit v w s = go (eqb v.status w.status)
  where
    attributes : All Fits (attributes_told w)
    attributes = sides_fit w s 3 0 w.new.lrn (omega arith) (omega arith) s.small.lrn

    go : (b : Bool) → All Fits (cond b [] (status_told w) ++ attributes_told w)
    go true = attributes
    go false = all_append (sides_fit w s 2 0 no_lrn (omega arith) (omega arith) (omega arith)) attributes

download-fits : (w : Version) → Room w → (p : ℕ) → p < 64 → Fits (download_to w p)
download-fits w s p h = record {
  small = record {
    tn = s.small.tn;
    status = s.small.status;
    provider = h;
    sort = let k : w.cast.purpose < 4 = s.small.purpose in omega arith;
    lrn = s.small.lrn;
  };
  number = s.number;
  failed = omega arith;
}

members-fit : (w : Version) → Room w → (set n : ℕ) (l : List ℕ) → n < 64 → All Fits (map (download_to w) l)
    → All Fits (map (download_to w) (members_to set n l))
members-fit w s set zero l h k = k
members-fit w s set (suc n) l h k =
    go (member set (suc n)) (members-fit w s set n (suc n ∷ l) (omega arith)) (members-fit w s set n l (omega arith))
  where
    go : (b : Bool) → (All Fits (map (download_to w) (suc n ∷ l)) → All Fits (map (download_to w) (members_to set n (suc n ∷ l))))
        → (All Fits (map (download_to w) l) → All Fits (map (download_to w) (members_to set n l)))
        → All Fits (map (download_to w) (members_to set n (cond b (suc n ∷ l) l)))
    go true f g = f (with (download-fits w s (suc n) h) k)
    go false f g = g k

downloads-fit : (w : Version) → Room w → All Fits (downloads w)
unfolding members
downloads-fit w s = members-fit w s w.cast.waiting 63 [] (omega arith) none

closing_fits : (w : Version) → Room (closed w) → All Fits (closing_told w)
unfolding closing_told closed
closing_fits w s = go (eqb w.cast.purpose 1)
  where
    go : (b : Bool) → All Fits (to_soas (closed w) 2 w.cast.failed no_lrn (cond b (sides_told w) (w.new.provider ∷ [])))
    go true = sides_fit (closed w) s 2 w.cast.failed no_lrn (omega arith) s.failed (omega arith)
    go false = with (soa_fits (closed w) s 2 w.cast.failed w.new.provider no_lrn (omega arith) s.failed s.small.new
        (omega arith)) none

-- what a version tells that stays open or closes
settling_fits : (w : Version) → Row (settled w) → All Fits (settling_told w)
unfolding settled settling_told
settling_fits w r = go (open? w) refl
  where
    go : (b : Bool) → open? w ≡ b → All Fits (settling_told w)
    go true q = rw q none
    go false q = rw q (closing_fits w (row_room (closed w) (rw q at r)))

broadcast_fits : (w : Version) → Row (settled w) → All Fits (downloads w ++ settling_told w)
unfolding settled
broadcast_fits w r = all_append (go (open? w) refl) (settling_fits w r)
  where
    go : (b : Bool) → open? w ≡ b → All Fits (downloads w)
    go true q = downloads-fit w (row_room w (rw q at r))
    go false q =
        let z : w.cast.waiting ≡ 0 = eqb-true w.cast.waiting 0 (not-false (eqb w.cast.waiting 0) q) in
        subst (All Fits) (sym (ap (λ (x : ℕ). map (download_to w) (members x)) z ∙ ap (map (download_to w)) no_members)) none

-- ---- what is accepted, where what it brings fits its rows

record Mails (x : Result) : Type 0 where
  fit : All (Brings Row) x.does → All Fits x.sent

turns_mail : (w : Version) → Mails (turns w)
turns_mail w = record { fit = λ h. sides_fit w (row_room w (head_of h)) 2 0 no_lrn (omega arith) (omega arith) (omega arith) }

restates_mail : (v w : Version) → Mails (accept (restated_told v w) (put w ∷ []))
restates_mail v w = record { fit = λ h. restated-fit v w (row_room w (head_of h)) }

marks_mail : (e : Event) (v : Version) → Mails (window_marks e v)
marks_mail e v = record {
  fit = λ h.
      let s = row_room (window_marked e v) (head_of h) in
      with (soa_fits (window_marked e v) s 7 0 (window_marked e v).old.provider no_lrn (omega arith) (omega arith) s.small.old
      (omega arith)) none;
}

manages_mail : (bk : Books) (e : Event) (v : Version) (others : List Version) → Mails (manages bk e v others)
unfolding broadcasts
manages_mail bk e v others = by_way Mails bk e v others (record {
  modify = λ _. restates_mail v (modified e v);
  cancel = λ _. turns_mail (cancelled e v);
  acknowledge = λ _. turns_mail (acknowledged e v);
  resolve = λ _. turns_mail (resolved e v);
  mark = λ _ _. marks_mail e v;
  turn = λ _ _. turns_mail (window_turned e v);
  broadcast = λ _. record { fit = λ h. broadcast_fits (opened (selected_for bk v.id.tn) e v) (head_of h) };
  purge = record { fit = λ h. none };
})

creates_mail : (e : Event) (r : List Version) → Mails (creates e r)
creates_mail e r =
    by_worked Mails e r
    (λ _. record {
      fit = λ h. sides_fit (fresh_version e r) (row_room (fresh_version e r) (head_of h)) 1 0 no_lrn (omega arith) (omega arith)
          (omega arith);
    })
    (λ v _. restates_mail v (concurred e v))

answers_mail : (most : ℕ) (e : Event) (v : Version) (others : List Version) → Row v → answering e < 64 → Mails (answers most e v others)
unfolding answers asked_again
answers_mail most e v others r p =
    record { fit = λ h. all_append (go (again most e v.cast)) (settling_fits (heard most e v) (head_of h)) }
  where
    go : (b : Bool) → All Fits (cond b (download_to v (answering e) ∷ []) [])
    go true = with (download-fits v (row_room v r) (answering e) p) none
    go false = none

-- Where the changes of the rules fit their rows, their messages fit their places.
pub rule_mail : (g : Given) → All Row g.rows → well_formed g.event ≡ true → All (Brings Row) (rule g).does → All Fits (rule g).sent
rule_mail g rows formed = (by_order Mails g (λ _. accepted_mail) (λ _. record { fit = λ h. none })).fit
  where
    accepted_mail : Mails (accepted g)
    accepted_mail = by_kind Mails g (record {
      create = λ _. creates_mail g.event g.rows;
      answer = λ _ a v q.
          answers_mail g.most g.event v (rest g) (all_first (numbered g.event.version) v rows q)
          (answering-named g.event formed a).1;
      manage = λ _ _ v _. manages_mail g.books g.event v (rest g);
      unknown = record { fit = λ h. none };
    })
