-- The rules over the bytes: the facts that they are told, and that their verdict can be carried out and is what the model says.
-- Assumes nothing.
use mathlib.Core.Path.{◌≡◌, refl, sym, ap, ap₂, ◌∙◌, subst}
use Prim.Native.Nat.{ℕ, ◌<◌, ◌≤◌}
use native.Mathlib.Omega.{arith}
use mathlib.Core.Bool.{Bool, true, false, cond}
use mathlib.Core.Option.{some}
use Rattle.std.specs.Prelude.{Option, Some, None}
use mathlib.Core.List.{List, ◌∷◌}
use lib.Dec.{eqb, ltb}
use lib.ListN.{length}
use borrow.Author.Tests.{eqb-true, ltb-true, le-leb}
use Rattle.model.specs.Basics.{All, none as nothing, with}
use Rattle.systems.specs.Set.{mask_of}
use Rattle.model.specs.Numbers.{code_of}
use Rattle.model.specs.Selection.{selects, selected_for}
use Rattle.model.specs.Table.{Change, changes}
use Rattle.model.specs.Sound.{numbered, sound_lines}
use Rattle.model.specs.Record.{is_create, is_broadcast, well_formed}
use Rattle.model.specs.Outcomes.{is_done, number_of}
use Rattle.model.specs.Given.{Given, Result, with_number}
use Rattle.model.specs.Step.{rule}
use Rattle.model.proofs.Lists.{clash, nothing_some, keep_same, all_keep, all_first, head_of}
use Rattle.model.proofs.TableLaws.{rising_part}
use Rattle.model.proofs.Apart.{rows_rows}
use Rattle.model.proofs.Effects.{Modest, modest_rule}
use Rattle.model.proofs.SoundRows.{Row, of_row}
use Rattle.model.proofs.SoundLaws.{Brings, Ground}
use Rattle.model.proofs.SoundTables.{table_says}
use Rattle.model.proofs.SoundStep.{keeps_rule}
use Rattle.books.specs.Packed.{decode_books, splits_of}
use Rattle.books.specs.Line.{Named}
use Rattle.books.specs.declared.Names.{Names}
use Rattle.row.proofs.Rooms.{sound_room}
use Rattle.row.specs.Layout as row
use Rattle.rows.specs.Table.{decode, encode}
use Rattle.scan.specs.Sound.{rows_in, SoundTable}
use Rattle.lines.specs.Lines.{line_by}
use Rattle.lines.proofs.Meaning.{table_lines}
use Rattle.table.specs.Survey.{Surveyed, rows_under, the_one, list_of}
use Rattle.table.specs.Change.{Over, Applicable}
use Rattle.table.specs.declared.survey.Facts.{Facts}
use Rattle.table.specs.declared.survey.Placed.{Placed}
use Rattle.table.proofs.Asked.{besides_live, fresh_absent}
use Rattle.table.proofs.Surveys.{former_of, asked_of}
use Rattle.tray.specs.Tray.{Small, Fits, put_all, Told}
use Rattle.verdict.specs.Verdict.{changes_of, messages_of}
use Rattle.verdict.specs.declared.Rows.{Rows}
use Rattle.verdict.specs.declared.Rows.TheVariants.{Nothing, Put, PutTwo, Add, Strike}
use Rattle.verdict.specs.declared.Verdict.{Verdict}
use Rattle.rules.specs.Rules.{Holds, Sits, Says, Kept, given_by, Facing, Decides}
use Rattle.rules.specs.declared.Known.{Known}
use Rattle.outcomes.specs.Answered.{answer_of}
use Rattle.outcomes.specs.declared.Answer.{Answer}
use Rattle.engine.specs.Event.{Ready, Did, KnownTo, line_rows, given_to}
use Rattle.engine.proofs.Posting.{rule_mail}
use Rattle.model.specs.declared.Tn.{Tn}
use Rattle.model.specs.declared.Event.{Event}
use Rattle.model.specs.declared.Marks.{Marks}
use Rattle.model.specs.declared.Message.{Message}
use Rattle.model.specs.declared.Version.{Version}

-- ---- over a sound table
module _ (m : Marks) (b : List ℕ) (most : ℕ) (t : List ℕ) (n : ℕ) (e : Event) (few : most ≤ 7) (st : SoundTable t n)
    (ls : sound_lines (line_by b) (decode t) ≡ true) (formed : well_formed e ≡ true) where
  abbrev G : Given
  G = given_to m b most t e

  pub ground : Ground (line_by b) (line_by b e.tn.0) G.rows
  ground =
      let s = table_says (line_by b) (rows_in t) (decode t) (table_lines (line_by b) (rows_in t) (decode t) st.sound ls) in
      record {
        own = rows_rows (line_by b) (line_by b e.tn.0) (decode t);
        rising = rising_part _ (decode t) s.sound.rising;
        rows = all_keep _ s.sound.rows;
        line = s.sound.lines (line_by b e.tn.0);
        numbers = s.sound.numbers (line_by b e.tn.0);
      }

  pub rule_rows : All (Brings Row) (rule G).does
  rule_rows =
      rw formed at
      (keeps_rule (line_by b) (record { books = decode_books m b; most = most; rows = 0; places = 0 }) (le-leb most 7 few)
      G.free e G.rows
      ground).rows

-- ---- rows that sit and fit may be changed

row_small : (w : Version) → Row w → row.InBits w
row_small w r = (sound_room w (of_row w r)).small

over_held : (t : List Version) (n i : ℕ) (w : Version) → length t ≡ n → Holds t i w.id → Row w → Over t n i w
over_held t n i w c h r = record { place = let l : i < length t = h.0 in omega arith; name = h.1; small = row_small w r }

tail_of_lem : {x : Change} {xs : List Change} → All (Brings Row) (x ∷ xs) → All (Brings Row) xs
tail_of_lem (with p ps) = ps

may_change : (t : List Version) (n cap : ℕ) (free : Bool) (r : Rows) → length t ≡ n → free ≡ ltb n cap → Sits t free r
    → All (Brings Row) (changes_of r) → Applicable t n cap r
may_change t n cap free Nothing c q s a = tt
may_change t n cap free (Put v i) c q s a = over_held t n i v c s (head_of a)
may_change t n cap free (PutTwo v i w j) c q s a =
    (over_held t n i v c s.0 (head_of a), over_held t n j w c s.1 (head_of (tail_of_lem a)))
may_change t n cap free (Add v) c q s a = record { free = ltb-true n cap (sym q ∙ s.0); absent = s.1; small = row_small v (head_of a) }
may_change t n cap free (Strike i k) c q s a = (let l : i < length t = s.0 in omega arith, s.1)

small_of : {ms : List Message} → All Fits ms → All Small ms
small_of nothing = nothing
small_of (with h hs) = with h.small (small_of hs)

-- the rows under the two names are the rows of the line
pub surveyed_for : (b : List ℕ) (e : Event) (w : Names) (t : List Version) (f : Facts) (c : Bool) → Named (splits_of b) e.tn.0 w
    → c ≡ is_create e.kind → Surveyed t (rows_under w.low.0 w.high.0 t) e.version c f
    → Surveyed t (line_rows b e t) e.version (is_create e.kind) f
surveyed_for b e w t f c d q s =
    subst (λ (r : List Version). Surveyed t r e.version (is_create e.kind) f) (keep_same _ _ t (λ v. d.names v.id.tn.0))
    (subst (λ (x : Bool). Surveyed t (rows_under w.low.0 w.high.0 t) e.version x f) q s)

-- a broadcast is no create
cast_create : (k : ℕ) → is_broadcast k ≡ true → is_create k ≡ false
cast_create k h = go (is_create k) refl
  where
    at : (n : ℕ) → eqb k n ≡ true → is_broadcast n ≡ false → is_create k ≡ false
    at n e q = clash (sym (subst (λ (j : ℕ). is_broadcast j ≡ false) (sym (eqb-true k n e)) q) ∙ h)

    go : (c : Bool) → is_create k ≡ c → is_create k ≡ false
    go false q = q
    go true q = by (eqb k 1) refl (eqb k 2) refl
      where
        by : (a : Bool) → eqb k 1 ≡ a → (b : Bool) → eqb k 2 ≡ b → is_create k ≡ false
        by true p b r = at 1 p refl
        by false p true r = at 2 r refl
        by false p false r = clash (rw (p, r) at q)

-- ---- one event
module _ (m : Marks) (b : List ℕ) (most : ℕ) (t : List ℕ) (n : ℕ) (e : Event) (places : ℕ) (st : SoundTable t n)
    (ls : sound_lines (line_by b) (decode t) ≡ true) (rd : Ready m b e places) (few : most ≤ 7) (f : Facts) (k : Known)
    (sv : Surveyed (decode t) (line_rows b e (decode t)) e.version (is_create e.kind) f)
    (kn : KnownTo m b most (ltb n (rows_in t)) e f.asked k) where
  abbrev Rows-of : List Version
  Rows-of = line_rows b e (decode t)

  grounded : Ground (line_by b) (line_by b e.tn.0) Rows-of
  grounded = ground m b most t n e few st ls rd.formed

  -- the version that was asked for is sound
  pub decide_asks : ((well_formed e ≡ true) × (k.most ≤ 7)) × (is_create e.kind ≡ false → Kept f.asked)
  decide_asks = ((rd.formed, rw kn.most few), λ c. go f.asked (asked_of _ _ _ _ f sv c).is)
    where
      go : (s : Option Placed) → the_one s ≡ with_number e.version Rows-of → Kept s
      go None q = tt
      go (Some p) q = all_first (numbered e.version) p.version grounded.rows (sym q)

  facing : Facing (decode_books m b) Rows-of (decode t) e k f
  facing = record {
    absent = kn.absent;
    owner = kn.owner;
    selected = λ c v q. kn.selected c v ((asked_of _ _ _ _ f sv (cast_create e.kind c)).is ∙ q);
    survey = sv;
    lives = λ c.
        let l = former_of _ _ _ _ f sv c in
        record { only = besides_live e.version Rows-of grounded.line.lives ∙ ap list_of (sym l.is); stands = l.stands };
    fresh = λ j l. fresh_absent (line_by b) (record { tn = e.tn; number = j }) (decode t) l;
  }

  given_is : given_by (decode_books m b) k e Rows-of ≡ given_to m b most t e
  given_is =
      ap₂ (λ (x : ℕ) (y : Bool). record { books = decode_books m b; most = x; free = y; event = e; rows = Rows-of }) kn.most
      (kn.free ∙ ap (λ (x : ℕ). ltb x (rows_in t)) (sym st.count))

  module _ (v : Verdict) (d : Decides e k f v) where
    abbrev X : Result
    X = rule (given_to m b most t e)

    says : Says X (decode t) k.free v
    says = subst (λ (g : Given). Says (rule g) (decode t) k.free v) given_is (d (decode_books m b) Rows-of (decode t) facing)

    does_is : changes_of v.rows ≡ X.does
    does_is = ap (λ (x : Result). x.does) says.is

    sent_is : messages_of v.mail ≡ X.sent
    sent_is = ap (λ (x : Result). x.sent) says.is

    brought : All (Brings Row) X.does
    brought = rule_rows m b most t n e few st ls rd.formed

    modest : Modest X
    modest = modest_rule (given_to m b most t e)

    pub may_apply : Applicable (decode t) n (rows_in t) v.rows
    may_apply =
        may_change (decode t) n (rows_in t) k.free v.rows st.count kn.free says.sits
        (subst (All (Brings Row)) (sym does_is) brought)

    pub may_deliver : (length (messages_of v.mail) ≤ places) × All Small (messages_of v.mail)
    may_deliver =
        rw sent_is (
          let l : 64 ≤ places = rd.places in let s : length X.sent ≤ 63 = modest.few in omega arith,
          small_of (rule_mail (given_to m b most t e) grounded.rows rd.formed brought),
        )

    pub did : (y u z : List ℕ) (c : ℕ) (a : Answer) → u ≡ encode (changes (changes_of v.rows) (decode t)) (rows_in t)
        → Told (messages_of v.mail) 0 y z c → a ≡ answer_of v.out c
        → Did X t y u z a
    did y u z c a p g q = record {
      outcome = ap (λ (x : Answer). x.outcome) q ∙ ap (λ (x : Result). number_of x.out) says.is;
      count = ap (λ (x : Answer). x.count) q ∙ g.said ∙ ap length sent_is;
      table = p ∙ ap (λ (cs : List Change). encode (changes cs (decode t)) (rows_in t)) does_is ∙ go (is_done X.out) refl;
      tray = g.tray ∙ ap (put_all y 0) sent_is;
    }
      where
        go : (o : Bool) → is_done X.out ≡ o
            → encode (changes X.does (decode t)) (rows_in t) ≡ cond o (encode (changes X.does (decode t)) (rows_in t)) t
        go true h = refl
        go false h = ap (λ (cs : List Change). encode (changes cs (decode t)) (rows_in t)) (modest.nothing_done h) ∙ sym st.is

-- ---- whom a broadcast asks

pub selected_is : (m : Marks) (b : List ℕ) (tn : Tn) (s code : ℕ) → code ≡ code_of tn → s ≡ mask_of (selects (decode_books m b) code) 63
    → s ≡ selected_for (decode_books m b) tn
unfolding selected_for
selected_is m b tn s code q p = p ∙ ap (λ (x : ℕ). mask_of (selects (decode_books m b) x) 63) q

-- the version that was seen is the one
pub the_seen : (s : Option Placed) (w : Placed) (v : Version) → s ≡ Some w → the_one s ≡ some v → code_of w.version.id.tn ≡ code_of v.id.tn
the_seen s w v q p =
    let e : some w.version ≡ some v = sym (ap the_one q) ∙ p in
    let z : w.version ≡ v = cc in
    ap (λ (x : Version). code_of x.id.tn) z

-- nobody was seen
pub none_seen : (s : Option Placed) (v : Version) {X : Type 0} → s ≡ None → the_one s ≡ some v → X
none_seen s v q p = absurd (nothing_some (sym (ap the_one q) ∙ p))
