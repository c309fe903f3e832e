-- Two answers (replies, silences) of different systems for one version commute.
-- Assumes nothing.
use mathlib.Core.Path.{◌≡◌, refl, sym, ap, ap₂, ◌∙◌, subst}
use Prim.Native.Nat.{ℕ, ◌≤◌}
use mathlib.Core.Bool.{Bool, true, false, cond, not}
use mathlib.Core.Option.{Option, none as nothing, some}
use mathlib.Core.List.{List, [], ◌∷◌, ◌++◌, map, append-nil, append_assoc}
use lib.Dec.{eqb}
use borrow.Author.Tests.{eqb-true, eqb-false, ne_eqb, not-true}
use Rattle.model.specs.Basics.{keep, All, none, with}
use Rattle.model.specs.Table.{Change, put, change, changes, in_line, rows_of}
use Rattle.model.specs.Sound.{numbered, live}
use Rattle.model.specs.Record.{is_create, is_answer, well_formed}
use Rattle.model.specs.Outcomes.{is_done}
use Rattle.model.specs.Given.{Result, refuse, accept, unless, with_number, other_than, besides}
use Rattle.model.specs.Tray.{download_to}
use Rattle.model.specs.Closing.{open?, closed, retired, retiring, retires, takes_over, settled, settles, settling_told}
use Rattle.model.specs.Answers.{answering, awaited, again, heard, asked_again, answers}
use Rattle.model.specs.Refusals.{absent, early, unawaited, before_start}
use Rattle.model.specs.Step.{Setting, accepted, rule, after}
use Rattle.model.specs.Exchange.{mail_of}
use Rattle.model.proofs.Lists.{either, keep_append, all_keep, passed, clash, first_true}
use Rattle.model.proofs.TableLaws.{Rising, put_cover, part_out, rising_part}
use Rattle.model.proofs.Numbered.{with_put, with_other}
use Rattle.model.proofs.Exchanges.{Commutes, turned, stepping, reads}
use Rattle.model.proofs.Apart.{Near, step_by, rows_in_lem, fine}
use Rattle.model.proofs.Locality.{rule_in, local}
use Rattle.model.proofs.Stays.{heard_stays}
use Rattle.model.proofs.Formed.{answering-named}
use Rattle.model.proofs.Arrivals.{unheard, heard_comm, unheard_other, unheard_settled, asked_other, open_waits}
use Rattle.model.specs.declared.Version.{Version}
use Rattle.model.specs.declared.Event.{Event}
use Rattle.model.specs.declared.Message.{Message}
use Rattle.model.specs.declared.Outcome.{Outcome}
use Rattle.model.specs.declared.Outcome.TheVariants.{Done, Malformed, Absent, Unknown, Early, Unawaited}

-- ---- the version of a number

-- what retires is not what closes
with_retired : (n : ℕ) (v : Version) (l t : List Version) → All (λ (w : Version). other_than n w.id ≡ true) l
    → with_number n (changes (map (retiring v) l) t) ≡ with_number n t
unfolding retired
with_retired n v [] t none = refl
with_retired n v (x ∷ xs) t (with h hs) =
    with_retired n v xs (change (retiring v x) t) hs ∙ with_other n t (retired v.stamp x) (not-true (numbered n x) h)

with_settles : (n : ℕ) (w : Version) (r t : List Version) → with_number n (changes (settles w (besides n r)) t) ≡ with_number n t
unfolding settles retires
with_settles n w r t = go (open? w) (takes_over w)
  where
    go : (b c : Bool) → with_number n (changes (cond b [] (cond c (map (retiring w) (keep live (besides n r))) [])) t) ≡ with_number n t
    go true c = refl
    go false true = with_retired n w (keep live (besides n r)) t (all_keep live (passed (λ (v : Version). other_than n v.id) r))
    go false false = refl

pub settled_id : (w : Version) → (settled w).id ≡ w.id
unfolding settled closed
settled_id w = either (λ (x : Version). x.id ≡ w.id) (open? w) refl refl

pub heard_id : (most : ℕ) (g : Event) (v : Version) → (heard most g v).id ≡ v.id
heard_id most g v = (heard_stays most g v).name

-- an answer for the version is heard
abbrev Hears : Event → Version → Type 0
Hears e v = is_done (unheard e v) ≡ true

-- ---- one answer that is heard, where somebody else still waits
answers_open : (most : ℕ) (g : Event) (v : Version) (others : List Version) → open? (heard most g v) ≡ true
    → answers most g v others ≡ accept (asked_again most g v) (put (heard most g v) ∷ [])
unfolding answers settled settles settling_told
answers_open most g v others h = rw h (λ i. accept (append-nil (asked_again most g v) i) (put (heard most g v) ∷ []))

-- ---- the mail of two systems
module _ (line : ℕ → ℕ) where
  abbrev mail : Bool → ℕ → ℕ → List Message → List Message
  mail x s l ms = mail_of line x s l ms

  asked_else : (most : ℕ) (e : Event) (v : Version) (x : Bool) (s l : ℕ) → (answering e ≡ s → ⊥) → mail x s l (asked_again most e v) ≡ []
  unfolding asked_again
  asked_else most e v x s l h = go (again most e v.cast) x
    where
      go : (b x : Bool) → mail x s l (cond b (download_to v (answering e) ∷ []) []) ≡ []
      go true true = rw (ne_eqb (answering e) s h)
      go true false = refl
      go false x = refl

  asked_swap : (most : ℕ) (e f : Event) (v : Version) (x : Bool) (s l : ℕ) → (answering e ≡ answering f → ⊥)
      → mail x s l (asked_again most e v) ++ mail x s l (asked_again most f v) ≡ mail x s l (asked_again most f v)
      ++ mail x s l (asked_again most e v)
  asked_swap most e f v x s l d = go (eqb (answering e) s) refl
    where
      go : (b : Bool) → eqb (answering e) s ≡ b
          → mail x s l (asked_again most e v) ++ mail x s l (asked_again most f v) ≡ mail x s l (asked_again most f v)
          ++ mail x s l (asked_again most e v)
      go true q = rw (asked_else most f v x s l (λ y. d (eqb-true (answering e) s q ∙ sym y)))
          (append-nil (mail x s l (asked_again most e v)))
      go false q = rw (asked_else most e v x s l (eqb-false (answering e) s q)) (sym (append-nil (mail x s l (asked_again most f v))))

-- kinds 11 and 12 are no creates
pub answer_create : (k : ℕ) → is_answer k ≡ true → is_create k ≡ false
answer_create k h = go (eqb k 11) refl (eqb k 12) refl
  where
    at : (n : ℕ) → k ≡ n → is_create n ≡ false → is_create k ≡ false
    at n e q = subst (λ (m : ℕ). is_create m ≡ false) (sym e) q

    go : (a : Bool) → eqb k 11 ≡ a → (b : Bool) → eqb k 12 ≡ b → is_create k ≡ false
    go true p b q = at 11 (eqb-true k 11 p) refl
    go false p true q = at 12 (eqb-true k 12 q) refl
    go false p false q = clash (rw (p, q) at h)

module _ (line : ℕ → ℕ) (s : Setting) where
  abbrev S : Event → List Version → Result
  S e t = step_by line (rule_in s) s.rows e t

  abbrev A : Event → List Version → List Version
  A e t = after (step_by line (rule_in s) s.rows) e t

  abbrev Both : Event → Event → List Version → Type 0
  Both e f t = Commutes line (step_by line (rule_in s) s.rows) e f t

  -- what is refused whatever the table holds
  abbrev barred : Event → Outcome
  barred e = cond (well_formed e) (cond (absent s.books e) Absent Done) Malformed

  -- one of the two is refused, before the other and after it
  quiet : (e f : Event) (t : List Version) (o : Outcome) → S e t ≡ refuse o → S e (A f t) ≡ refuse o → Both e f t
  quiet e f t o p q =
      let stay : A e t ≡ t = ap (λ (x : Result). changes x.does t) p in
      record {
        states = ap (A f) stay ∙ sym (ap (λ (x : Result). changes x.does (A f t)) q);
        first = ap (λ (x : Result). x.out) q ∙ sym (ap (λ (x : Result). x.out) p);
        second = ap (λ (u : List Version). (S f u).out) stay;
        mail = λ r. ap₂ (λ (x : Result) (u : List Version). keep (reads line r) (x.sent ++ (S f u).sent)) p stay
            ∙ ap (keep (reads line r)) (sym (append-nil (S f t).sent))
            ∙ ap (λ (x : Result). keep (reads line r) ((S f t).sent ++ x.sent)) (sym q);
      }

  -- both are heard: the first puts x (or y), the second z over it
  both : (e f : Event) (t : List Version) (a b m : List Message) (x y z : Version) (cs : List Change)
      → S e t ≡ accept a (put x ∷ []) → S f t ≡ accept b (put y ∷ [])
      → S f (A e t) ≡ accept (b ++ m) (put z ∷ cs) → S e (A f t) ≡ accept (a ++ m) (put z ∷ cs) → x.id ≡ z.id → y.id ≡ z.id
      → ((w : Bool) (i n : ℕ) → mail line w i n a ++ mail line w i n b ≡ mail line w i n b ++ mail line w i n a) → Both e f t
  both e f t a b m x y z cs p q p' q' hx hy sw = record {
    states = ap₂ (λ (u w : Result). changes w.does (changes u.does t)) p p'
        ∙ ap (changes cs) (put_cover z x t hx ∙ sym (put_cover z y t hy))
        ∙ sym (ap₂ (λ (u w : Result). changes w.does (changes u.does t)) q q');
    first = ap (λ (u : Result). u.out) q' ∙ sym (ap (λ (u : Result). u.out) p);
    second = ap (λ (u : Result). u.out) p' ∙ sym (ap (λ (u : Result). u.out) q);
    mail = λ r. ap₂ (λ (u v : Result). keep (reads line r) (u.sent ++ v.sent)) p p' ∙ parts r.local r.provider r.line a b
        ∙ ap (λ (l : List Message). l ++ keep (reads line r) m) (sw r.local r.provider r.line)
        ∙ sym (parts r.local r.provider r.line b a)
        ∙ sym (ap₂ (λ (u v : Result). keep (reads line r) (u.sent ++ v.sent)) q q');
  }
    where
      parts : (w : Bool) (i n : ℕ) (a b : List Message) → mail line w i n (a ++ (b ++ m)) ≡ mail line w i n a ++ mail line w i n b
          ++ mail line w i n m
      parts w i n a b = simp (keep_append, append_assoc)

  -- ---- what an answer gets
  module _ (g : Event) (is_a : is_answer g.kind ≡ true) (k : ℕ) (name : g.version ≡ k) (l : ℕ) (own : line g.tn.0 ≡ l) where
    if_barred : (t : List Version) → is_done (barred g) ≡ false → S g t ≡ refuse (barred g)
    unfolding rule
    if_barred t h = go (well_formed g) refl (absent s.books g) refl
      where
        go : (a : Bool) → well_formed g ≡ a → (b : Bool) → absent s.books g ≡ b → S g t ≡ refuse (barred g)
        go false p b q = rw p
        go true p true q = rw (p, answer_create g.kind is_a, is_a, q)
        go true p false q = clash (sym (rw (p, q) at h))

    -- it is not barred, and the version is not there, or it is v
    module _ (free : is_done (barred g) ≡ true) where
      formed : well_formed g ≡ true
      formed = go (well_formed g) refl free
        where
          go : (a : Bool) → well_formed g ≡ a → is_done (cond a (cond (absent s.books g) Absent Done) Malformed) ≡ true
              → well_formed g ≡ true
          go true p h = p
          go false p h = clash h

      present : absent s.books g ≡ false
      present = go (absent s.books g) refl (rw formed at free)
        where
          go : (a : Bool) → absent s.books g ≡ a → is_done (cond a Absent Done) ≡ true → absent s.books g ≡ false
          go true p h = clash h
          go false p h = p

      lost_is : (r : List Version) (b : Bool) → with_number g.version r ≡ nothing → rule_in s b g r ≡ refuse Unknown
      unfolding rule
      lost_is r b h = rw (formed, answer_create g.kind is_a, is_a, present, h)

      found_is : (r : List Version) (b : Bool) (v : Version) → with_number g.version r ≡ some v
          → rule_in s b g r ≡ unless (unheard g v) (answers s.most g v (besides g.version r))
      unfolding rule accepted unawaited early
      found_is r b v h = rw (formed, answer_create g.kind is_a, is_a, present, h, is_a)

      if_lost : (t : List Version) → with_number k (rows_of line l t) ≡ nothing → S g t ≡ refuse Unknown
      if_lost t h =
          subst (λ (m : ℕ). with_number k (rows_of line m t) ≡ nothing → S g t ≡ refuse Unknown) own
          (subst (λ (j : ℕ). with_number j (rows_of line (line g.tn.0) t) ≡ nothing → S g t ≡ refuse Unknown) name (lost_is _ _)) h

      if_found : (t : List Version) (v : Version) → with_number k (rows_of line l t) ≡ some v
          → S g t ≡ unless (unheard g v) (answers s.most g v (besides k (rows_of line l t)))
      if_found t v h =
          subst
          (λ (m : ℕ). with_number k (rows_of line m t) ≡ some v
          → S g t ≡ unless (unheard g v) (answers s.most g v (besides k (rows_of line m t)))) own
          (subst
          (λ (j : ℕ). with_number j (rows_of line (line g.tn.0) t) ≡ some v
          → S g t ≡ unless (unheard g v) (answers s.most g v (besides j (rows_of line (line g.tn.0) t)))) name (found_is _ _ v)) h

      if_deaf : (t : List Version) (v : Version) → with_number k (rows_of line l t) ≡ some v → is_done (unheard g v) ≡ false
          → S g t ≡ refuse (unheard g v)
      if_deaf t v h u = if_found t v h ∙ rw u

      if_heard : (t : List Version) (v : Version) → with_number k (rows_of line l t) ≡ some v → Hears g v
          → S g t ≡ answers s.most g v (besides k (rows_of line l t))
      if_heard t v h u = if_found t v h ∙ rw u

      -- the rows after it
      rows_after : (t : List Version) → Rising t → rows_of line l (A g t) ≡ changes (S g t).does (rows_of line l t)
      rows_after t r =
          rows_in_lem line l (S g t).does t
          (subst (λ (m : ℕ). Near line m (S g t).does) own (fine line (rule_in s) (local line s) s.rows g t).near) r

      -- the version after one that is heard
      found_after : (t : List Version) (v : Version) → Rising t → with_number k (rows_of line l t) ≡ some v → Hears g v
          → with_number k (rows_of line l (A g t)) ≡ some (settled (heard s.most g v))
      unfolding answers heard
      found_after t v r h u =
          ap (with_number k) (rows_after t r ∙ ap (λ (x : Result). changes x.does (rows_of line l t)) (if_heard t v h u))
          ∙ with_settles k (heard s.most g v) (rows_of line l t) (change (put (settled (heard s.most g v))) (rows_of line l t))
          ∙ with_put k (rows_of line l t) v (settled (heard s.most g v)) (rising_part (in_line line l) t r) h
          (settled_id (heard s.most g v))

      -- the same where somebody else waits: the version is the one it put, and the other rows are as before
      open_step : (t : List Version) (v : Version) → with_number k (rows_of line l t) ≡ some v → Hears g v
          → open? (heard s.most g v) ≡ true
          → S g t ≡ accept (asked_again s.most g v) (put (heard s.most g v) ∷ [])
      open_step t v h u o = if_heard t v h u ∙ answers_open s.most g v (besides k (rows_of line l t)) o

      open_rows : (t : List Version) (v : Version) → Rising t → with_number k (rows_of line l t) ≡ some v → Hears g v
          → open? (heard s.most g v) ≡ true → rows_of line l (A g t) ≡ change (put (heard s.most g v)) (rows_of line l t)
      open_rows t v r h u o = rows_after t r ∙ ap (λ (x : Result). changes x.does (rows_of line l t)) (open_step t v h u o)

  -- ---- the theorem

  -- an answer for the version numbered k of the line l, that is not barred
  record Ready (g : Event) (k l : ℕ) : Type 0 where
    is_a : is_answer g.kind ≡ true
    name : g.version ≡ k
    own : line g.tn.0 ≡ l
    free : is_done (barred g) ≡ true
    system : 1 ≤ answering g

  awaits : (g : Event) (v : Version) → Hears g v → awaited g v ≡ true
  awaits g v h = go (awaited g v) refl h
    where
      go : (b : Bool) → awaited g v ≡ b → is_done (cond (not b) Unawaited (cond (before_start g v) Early Done)) ≡ true → awaited g v ≡ true
      go true e q = e
      go false e q = clash q

  module _ (small : s.most ≤ 7) (k l : ℕ) (t : List Version) (r : Rising t) where
    abbrev R : List Version
    R = rows_of line l t

    -- refused as things are: refused after the other too
    deaf : (e f : Event) (v : Version) → Ready e k l → Ready f k l → (answering e ≡ answering f → ⊥)
        → with_number k R ≡ some v → is_done (unheard e v) ≡ false → Both e f t
    deaf e f v ye yf d h ue = quiet e f t (unheard e v) p (go (is_done (unheard f v)) refl)
      where
        p : S e t ≡ refuse (unheard e v)
        p = if_deaf e ye.is_a k ye.name l ye.own ye.free t v h ue

        go : (b : Bool) → is_done (unheard f v) ≡ b → S e (A f t) ≡ refuse (unheard e v)
        go true q =
            let w : Version = settled (heard s.most f v) in
            let same : unheard e w ≡ unheard e v =
            unheard_settled e (heard s.most f v)
            ∙ unheard_other s.most small f e v yf.system ye.system (λ x. d (sym x)) (awaits f v q) in
            if_deaf e ye.is_a k ye.name l ye.own ye.free (A f t) w
            (found_after f yf.is_a k yf.name l yf.own yf.free t v r h q)
            (ap is_done same ∙ ue)
            ∙ ap refuse same
        go false q = ap (S e) (ap (λ (x : Result). changes x.does t) (if_deaf f yf.is_a k yf.name l yf.own yf.free t v h q))
            ∙ p

    lost : (e f : Event) → Ready e k l → Ready f k l → with_number k R ≡ nothing → Both e f t
    lost e f ye yf h =
        let p : S e t ≡ refuse Unknown = if_lost e ye.is_a k ye.name l ye.own ye.free t h in
        quiet e f t Unknown p
        (ap (S e) (ap (λ (x : Result). changes x.does t) (if_lost f yf.is_a k yf.name l yf.own yf.free t h)) ∙ p)

    module _ (v : Version) (h : with_number k R ≡ some v) where
      -- what the other gets after the first is what it gets as things are
      unmoved : (e f : Event) → Ready e k l → Ready f k l → (answering e ≡ answering f → ⊥) → Hears e v
          → unheard f (heard s.most e v) ≡ unheard f v
      unmoved e f ye yf d ue = unheard_other s.most small e f v ye.system yf.system d (awaits e v ue)

      -- the first of two that are heard leaves the broadcast open
      still_open : (e f : Event) → Ready e k l → Ready f k l → (answering e ≡ answering f → ⊥) → Hears e v → Hears f v
          → open? (heard s.most e v) ≡ true
      still_open e f ye yf d ue uf =
          open_waits f (heard s.most e v) (awaits f (heard s.most e v) (ap is_done (unmoved e f ye yf d ue) ∙ uf))

      -- and the second finds what the first has put
      second-step : (e f : Event) → Ready e k l → Ready f k l → (answering e ≡ answering f → ⊥) → Hears e v → Hears f v
          → S f (A e t) ≡ answers s.most f (heard s.most e v) (besides k R)
      unfolding heard
      second-step e f ye yf d ue uf =
          let w : Version = heard s.most e v in
          let n : eqb v.id.number k ≡ true = first_true (numbered k) R v h in
          let er : rows_of line l (A e t) ≡ change (put w) R =
          open_rows e ye.is_a k ye.name l ye.own ye.free t v r h ue (still_open e f ye yf d ue uf) in
          if_heard f yf.is_a k yf.name l yf.own yf.free (A e t) w
          (ap (with_number k) er ∙ with_put k R v w (rising_part (in_line line l) t r) h refl)
          (ap is_done (unmoved e f ye yf d ue) ∙ uf)
          ∙ ap (answers s.most f w) (ap (besides k) er ∙ part_out (other_than k) (put w) R (ap not n))

      both-heard : (e f : Event) → Ready e k l → Ready f k l → (answering e ≡ answering f → ⊥) → Hears e v → Hears f v → Both e f t
      unfolding answers
      both-heard e f ye yf d ue uf =
          let m : ℕ = s.most in
          let d' : answering f ≡ answering e → ⊥ = λ x. d (sym x) in
          let w : Version = heard m f (heard m e v) in
          let c : w ≡ heard m e (heard m f v) = heard_comm m small e f v ye.system yf.system d in
          both e f t (asked_again m e v) (asked_again m f v) (settling_told w) (heard m e v) (heard m f v) (settled w)
          (settles w (besides k R))
          (open_step e ye.is_a k ye.name l ye.own ye.free t v h ue (still_open e f ye yf d ue uf))
          (open_step f yf.is_a k yf.name l yf.own yf.free t v h uf (still_open f e yf ye d' uf ue))
          (second-step e f ye yf d ue uf
          ∙ ap (λ (a : List Message). accept (a ++ settling_told w) (put (settled w) ∷ settles w (besides k R)))
          (asked_other m small e f v ye.system yf.system d))
          (second-step f e yf ye d' uf ue
          ∙ ap₂ (λ (a : List Message) (x : Version). accept (a ++ settling_told x) (put (settled x) ∷ settles x (besides k R)))
          (asked_other m small f e v yf.system ye.system d') (sym c))
          (sym (settled_id w ∙ heard_id m f (heard m e v)))
          (heard_id m f v ∙ sym (settled_id w ∙ heard_id m f (heard m e v) ∙ heard_id m e v))
          (λ x i n. asked_swap line m e f v x i n d)

    by_found : (e f : Event) → Ready e k l → Ready f k l → (answering e ≡ answering f → ⊥) → Both e f t
    by_found e f ye yf d = go (with_number k R) refl
      where
        at : (v : Version) → with_number k R ≡ some v → (a : Bool) → is_done (unheard e v) ≡ a → (b : Bool)
            → is_done (unheard f v) ≡ b → Both e f t
        at v h false p b q = deaf e f v ye yf d h p
        at v h true p false q = turned (stepping (step_by line (rule_in s) s.rows)) (reads line) (deaf f e v yf ye (λ x. d (sym x)) h q)
        at v h true p true q = both-heard v h e f ye yf d p q

        go : (o : Option Version) → with_number k R ≡ o → Both e f t
        go nothing h = lost e f ye yf h
        go (some v) h = at v h (is_done (unheard e v)) refl (is_done (unheard f v)) refl

    pub replies_commute : (e f : Event) → is_answer e.kind ≡ true → is_answer f.kind ≡ true → e.version ≡ k → f.version ≡ k
        → line e.tn.0 ≡ l
        → line f.tn.0 ≡ l → (answering e ≡ answering f → ⊥) → Both e f t
    replies_commute e f ae af ne nf oe of d = go (is_done (barred e)) refl (is_done (barred f)) refl
      where
        formed_of : (g : Event) → is_done (barred g) ≡ true → well_formed g ≡ true
        formed_of g h = by (well_formed g) refl h
          where
            by : (a : Bool) → well_formed g ≡ a → is_done (cond a (cond (absent s.books g) Absent Done) Malformed) ≡ true
                → well_formed g ≡ true
            by true p q = p
            by false p q = clash q

        go : (a : Bool) → is_done (barred e) ≡ a → (b : Bool) → is_done (barred f) ≡ b → Both e f t
        go false p b q = quiet e f t (barred e) (if_barred e ae k ne l oe t p) (if_barred e ae k ne l oe (A f t) p)
        go true p false q =
            turned (stepping (step_by line (rule_in s) s.rows)) (reads line)
            (quiet f e t (barred f) (if_barred f af k nf l of t q) (if_barred f af k nf l of (A e t) q))
        go true p true q =
            by_found e f
            (record { is_a = ae; name = ne; own = oe; free = p; system = (answering-named e (formed_of e p) ae).0 })
            (record { is_a = af; name = nf; own = of; free = q; system = (answering-named f (formed_of f q) af).0 }) d
