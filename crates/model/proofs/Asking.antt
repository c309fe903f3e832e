-- Say why a system was skipped, request A8: whom a broadcast asks, by the classes; and the five classes shown.
-- Assumes nothing.
use Prim.Native.Nat.{ℕ, zero, suc, ◌+◌, ◌^◌, ◌≤◌, ◌<◌}
use mathlib.Core.Path.{◌≡◌, refl, sym, ap, ap₂, ◌∙◌}
use mathlib.Core.Bool.{Bool, true, false, cond, not, ◌&&◌, ◌||◌, and-true, and_comm, or-false, or_assoc}
use mathlib.Core.List.{List, [], ◌∷◌, ◌++◌, map}
use native.Mathlib.Omega.{arith}
use borrow.Author.Tests.{le-leb, lt-leb, leb-true, leb-false, eqb-true, eqb-false}
use lib.Dec.{eqb, leb}
use Rattle.systems.specs.Set.{member, mask_of, meet}
use Rattle.systems.proofs.Laws.{mask_member}
use Rattle.model.specs.Basics.{any}
use Rattle.model.specs.Numbers.{code_of}
use Rattle.model.specs.Books.{Books, partner_of, filters}
use Rattle.model.specs.Selection.{skipped, class_of, class_number, is_selected, selects, selected_for}
use Rattle.model.specs.Broadcast.{resends, asked_for, opened, broadcasts}
use Rattle.model.specs.Closing.{open?, closed, closing_told, settling_told}
use Rattle.model.specs.Tray.{status, no_lrn, to_soas, told_at_close, members_to, members, download_to, downloads}
use Rattle.model.specs.declared.Message.{Message}
use Rattle.model.specs.declared.Lrn.{Lrn}
use Rattle.model.specs.declared.Event.{Event}
use Rattle.model.specs.declared.Version.{Version}

-- ---- whom a broadcast asks

pub asked : (bk : Books) (e : Event) (v : Version) (p : ℕ) → 1 ≤ p → p ≤ 63
    → member (opened (selected_for bk v.id.tn) e v).cast.waiting p
    ≡ (is_selected (class_of bk (code_of v.id.tn) p) && (not (resends e) || member v.cast.failed p))
unfolding opened asked_for selected_for meet
asked bk e v p l m = go (resends e)
  where
    f : ℕ → Bool
    f = selects bk (code_of v.id.tn)

    failed : ℕ
    failed = v.cast.failed

    chosen : member (mask_of f 63) p ≡ f p
    chosen = mask_member f 63 p l m

    go : (b : Bool) → member (cond b (meet failed (mask_of f 63)) (mask_of f 63)) p ≡ (f p && (not b || member failed p))
    go true =
        mask_member (λ (q : ℕ). member failed q && member (mask_of f 63) q) 63 p l m
        ∙ ap (λ (b : Bool). member failed p && b) chosen ∙ and_comm (member failed p) (f p)
    go false = chosen ∙ sym (and-true (f p))

-- whether p is one of those of 1 to n that are in the set, or of the rest
module _ (s p : ℕ) (low : 1 ≤ p) where
  abbrev has : List ℕ → Bool
  has l = any (λ (q : ℕ). eqb q p) l

  has_to : (n : ℕ) (l : List ℕ) → has (members_to s n l) ≡ ((leb p n && member s p) || has l)
  has_to zero l = ap (λ (b : Bool). (b && member s p) || has l) (sym (lt-leb p 0 low))
  has_to (suc n) l = has_to n (cond (member s (suc n)) (suc n ∷ l) l) ∙ go (eqb (suc n) p) refl (member s (suc n)) refl
    where
      go : (a : Bool) → eqb (suc n) p ≡ a → (b : Bool) → member s (suc n) ≡ b
          → ((leb p n && member s p) || has (cond b (suc n ∷ l) l)) ≡ ((leb p (suc n) && member s p) || has l)
      go true e b m =
          let q : suc n ≡ p = eqb-true (suc n) p e in
          let at : member s p ≡ b = ap (member s) (sym q) ∙ m in
          rw (lt-leb p n (omega arith), le-leb p (suc n) (omega arith), at) (here b)
        where
          here : (b : Bool) → has (cond b (suc n ∷ l) l) ≡ (b || has l)
          here true = ap (λ (x : Bool). x || has l) e
          here false = refl
      go false e b m = ap₂ (λ (x y : Bool). (x && member s p) || y) (beside (leb p n) refl) (there b)
        where
          beside : (x : Bool) → leb p n ≡ x → x ≡ leb p (suc n)
          beside true f = let k : p ≤ n = leb-true p n f in sym (le-leb p (suc n) (omega arith))
          beside false f =
              let k : n < p = leb-false p n f in
              sym (lt-leb p (suc n) (let d : suc n ≡ p → ⊥ = eqb-false (suc n) p e in omega arith))

          there : (b : Bool) → has (cond b (suc n ∷ l) l) ≡ has l
          there true = ap (λ (x : Bool). x || has l) e
          there false = refl

-- ---- who is told

-- a message to p's Local SMS
abbrev pub to_local_sms : ℕ → Message → Bool
to_local_sms p m = m.local && eqb m.provider p

-- a download goes to whom the version waits for
downloads_to_lem : (w : Version) (p : ℕ) → 1 ≤ p → p ≤ 63 → any (to_local_sms p) (downloads w) ≡ member w.cast.waiting p
unfolding members
downloads_to_lem w p l m =
    each (members set) ∙ has_to set p l 63 [] ∙ ap (λ (b : Bool). (b && member set p) || false) (le-leb p 63 m) ∙ or-false (member set p)
  where
    set : ℕ
    set = w.cast.waiting

    each : (ps : List ℕ) → any (to_local_sms p) (map (download_to w) ps) ≡ has set p l ps
    each [] = refl
    each (q ∷ qs) = ap (λ (b : Bool). eqb q p || b) (each qs)

-- nothing else goes to a Local SMS
soas_none : (p : ℕ) (v : Version) (sort failed : ℕ) (lrn : Lrn) (ps : List ℕ) → any (to_local_sms p) (to_soas v sort failed lrn ps) ≡ false
soas_none p v sort failed lrn [] = refl
soas_none p v sort failed lrn (q ∷ qs) = soas_none p v sort failed lrn qs

closing_none : (w : Version) (p : ℕ) → any (to_local_sms p) (closing_told w) ≡ false
unfolding closing_told
closing_none w p = soas_none p (closed w) status w.cast.failed no_lrn (told_at_close w)

settling_none : (w : Version) (p : ℕ) → any (to_local_sms p) (settling_told w) ≡ false
unfolding settling_told
settling_none w p = go (open? w)
  where
    go : (b : Bool) → any (to_local_sms p) (cond b [] (closing_told w)) ≡ false
    go true = refl
    go false = closing_none w p

any_or : (f : Message → Bool) (xs ys : List Message) → any f (xs ++ ys) ≡ (any f xs || any f ys)
any_or f [] ys = refl
any_or f (x ∷ xs) ys = ap (λ (b : Bool). f x || b) (any_or f xs ys) ∙ sym (or_assoc (f x) (any f xs) (any f ys))

pub told : (bk : Books) (e : Event) (v : Version) (others : List Version) (p : ℕ) → 1 ≤ p → p ≤ 63
    → any (to_local_sms p) (broadcasts bk e v others).sent
    ≡ (is_selected (class_of bk (code_of v.id.tn) p) && (not (resends e) || member v.cast.failed p))
unfolding broadcasts
told bk e v others p l m =
    let w : Version = opened (selected_for bk v.id.tn) e v in
    any_or (to_local_sms p) (downloads w) (settling_told w)
    ∙ ap (λ (b : Bool). any (to_local_sms p) (downloads w) || b) (settling_none w p)
    ∙ or-false (any (to_local_sms p) (downloads w))
    ∙ downloads_to_lem w p l m ∙ asked bk e v p l m

-- ---- the five classes, shown

-- 303555 and 303556 are a pair, 720123 stands in none. 1 to 4 are present, 1 to 3 run a Local SMS. 2 filters one code of the pair and the
-- single one, 3 both codes of the pair, 4 all three; 5 is absent.
abbrev shown_books : Books
shown_books = record {
  marks = record { present = 2 ^ 1 + 2 ^ 2 + 2 ^ 3 + 2 ^ 4; local = 2 ^ 1 + 2 ^ 2 + 2 ^ 3 };
  codes = [];
  filters =
      record { provider = 2; code = 303556 } ∷ record { provider = 2; code = 720123 }
      ∷ record { provider = 3; code = 303555 } ∷ record { provider = 3; code = 303556 }
      ∷ record { provider = 4; code = 303555 } ∷ record { provider = 4; code = 303556 } ∷ record { provider = 4; code = 720123 }
      ∷ [];
  splits = record { one = 303556; other = 303555 } ∷ [];
}

-- the numbers of the classes of providers 1 to 5
abbrev pub shown : ℕ → List ℕ
shown code = map (λ (p : ℕ). class_number (class_of shown_books code p)) (1 ∷ 2 ∷ 3 ∷ 4 ∷ 5 ∷ [])

pub classes : (shown 303555 ≡ 0 ∷ 0 ∷ 4 ∷ 2 ∷ 1 ∷ []) × (shown 303556 ≡ 0 ∷ 0 ∷ 4 ∷ 2 ∷ 1 ∷ [])
    × (shown 720123 ≡ 0 ∷ 3 ∷ 0 ∷ 2 ∷ 1 ∷ [])
unfolding member skipped class_of partner_of filters
classes = (refl, refl, refl)
