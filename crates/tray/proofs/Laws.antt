-- Laws of messages as bytes and of the tray.
-- Assumes nothing.
use Prim.Native.Nat.{ℕ, zero, suc, ◌+◌, ◌*◌, ◌/◌, ◌%◌, ◌^◌, ◌≤◌, ◌<◌}
use mathlib.Core.Path.{◌≡◌, refl, sym, ap, ap₂, ◌∙◌}
use mathlib.Core.Bool.{Bool, true, false, cond, ◌&&◌}
use mathlib.Core.List.{List, [], ◌∷◌, ◌++◌, append_assoc, append-nil}
use native.Mathlib.Nat.{mod-lt, mod-eq_of_lt, le_refl, div-one, add-zero}
use native.Mathlib.Omega.{arith}
use borrow.Author.Tests.{lt-ltb}
use lib.Dec.{eqb, ltb, lit<}
use lib.ListN.{length, take, drop, length-append, length-drop, take-append-drop}
use lib.Seq.{length-take-le, drop-drop, take_at, take_all, drop-append-add}
use Rattle.octets.specs.Octets.{Bytes, be, digits, put}
use Rattle.octets.proofs.Laws.{put_after, length_digits, be-digits, digits-be, be_word}
use Rattle.octets.specs.Fields.{join, fit}
use Rattle.octets.proofs.Fields.{cut-join, join-cut, join_lt}
use Rattle.model.specs.Basics.{All, none, with}
use Rattle.model.specs.declared.Message.{Message}
use Rattle.tray.specs.Tray.{head_widths, tail_widths, head_fields, tail_fields, head_of, tail_of, Small, message_with, message_of}
use Rattle.tray.specs.Tray.{message_bytes, message_from, read_message, Fits, places_in, put_message, put_all, all_bytes, tray_after}
use Rattle.tray.specs.Tray.{read_places}

-- ---- a message put word by word

words-put : (t : List ℕ) (at a b c : ℕ) → at + 24 ≤ length t
    → put 8 (put 8 (put 8 t at a) (at + 8) b) (at + 16) c ≡ take at t ++ (digits 8 a ++ digits 8 b ++ digits 8 c) ++ drop (at + 24) t
words-put t at a b c h =
    ap (λ (l : List ℕ). put 8 (put 8 (put 8 l at a) (at + 8) b) (at + 16) c) (sym (take-append-drop at t))
    ∙ ap (λ (l : List ℕ). put 8 (put 8 l (at + 8) b) (at + 16) c) (put_after p (drop at t) 8 at a lp)
    ∙ ap (λ (l : List ℕ). put 8 l (at + 16) c) (put_after (p ++ digits 8 a) (drop 8 (drop at t)) 8 (at + 8) b la)
    ∙ put_after (p ++ digits 8 a ++ digits 8 b) (drop 8 (drop 8 (drop at t))) 8 (at + 16) c lb
    ∙ ap (λ (l : List ℕ). p ++ digits 8 a ++ digits 8 b ++ digits 8 c ++ l) rest
    ∙ simp append_assoc
  where
    p : List ℕ
    p = take at t

    lp : length p ≡ at
    lp = length-take-le at t (omega arith)

    la : length (p ++ digits 8 a) ≡ at + 8
    la = length-append p (digits 8 a) ∙ ap₂ (λ (x y : ℕ). x + y) lp (length_digits 8 a)

    lb : length ((p ++ digits 8 a) ++ digits 8 b) ≡ at + 16
    lb = length-append (p ++ digits 8 a) (digits 8 b) ∙ ap₂ (λ (x y : ℕ). x + y) la (length_digits 8 b) ∙ omega arith

    rest : drop 8 (drop 8 (drop 8 (drop at t))) ≡ drop (at + 24) t
    rest =
        let e : at + 8 + 8 + 8 ≡ at + 24 = omega arith in
        ap (λ (l : List ℕ). drop 8 (drop 8 l)) (drop-drop 8 at t) ∙ ap (drop 8) (drop-drop 8 (at + 8) t) ∙ drop-drop 8 (at + 8 + 8) t
        ∙ ap (λ (k : ℕ). drop k t) e

pub message-put : (t t₁ t₂ t₃ : List ℕ) (place head tail : ℕ) (m : Message) → place < places_in t → head ≡ head_of m → tail ≡ tail_of m
    → t₁ ≡ put 8 t (24 * place) head → t₂ ≡ put 8 t₁ (24 * place + 8) tail → t₃ ≡ put 8 t₂ (24 * place + 16) m.failed
    → t₃ ≡ put_message t place m
unfolding put_message message_bytes
message-put t t₁ t₂ t₃ place head tail m h hh ht e₁ e₂ e₃ =
    e₃ ∙ ap (λ (l : List ℕ). put 8 l (24 * place + 16) m.failed)
    (e₂ ∙ ap₂ (λ (l : List ℕ) (v : ℕ). put 8 l (24 * place + 8) v) (e₁ ∙ ap (put 8 t (24 * place)) hh) ht)
    ∙ words-put t (24 * place) (head_of m) (tail_of m) m.failed (omega arith)

pub length-message : (m : Message) → length (message_bytes m) ≡ 24
unfolding message_bytes
length-message m = simp (length-append, length_digits)

-- a put leaves the tray's length
pub put-length : (t : List ℕ) (place : ℕ) (m : Message) → place < places_in t → length (put_message t place m) ≡ length t
unfolding put_message
put-length t place m h =
    let e : length (take (24 * place) t) ≡ 24 * place = length-take-le (24 * place) t (omega arith) in
    simp (length-append, length-drop, e, length-message) (omega arith)

-- ---- both ways

-- all fields fit, those too that the message's own types bound
fits_head : (m : Message) → Small m → m.id.number < 2 ^ 16 → fit head_widths (head_fields m) ≡ true
fits_head m s n =
    simp (
      lt-ltb m.id.tn.0 (2 ^ 34) s.tn,
      lt-ltb m.id.number (2 ^ 16) n,
      lt-ltb m.status (2 ^ 4) s.status,
      lt-ltb m.provider (2 ^ 6) s.provider,
      lt-ltb m.sort (2 ^ 4) s.sort,
    )

fits_tail : (m : Message) → Small m → fit tail_widths (tail_fields m) ≡ true
fits_tail m s = rw (lt-ltb m.lrn.0 (2 ^ 34) s.lrn) (go m.local)
  where
    go : (b : Bool) → (ltb (cond b 1 0) 2 && (ltb 0 (2 ^ 29) && true)) ≡ true
    go true = refl
    go false = refl

-- the words of a message are that message
pub words-message : (m : Message) → Small m → m.id.number < 2 ^ 16 → message_of (head_of m) (tail_of m) m.failed ≡ m
words-message m s n =
    ap₂ (λ (hs ts : List ℕ). message_with hs ts m.failed) (cut-join head_widths (head_fields m) (fits_head m s n))
    (cut-join tail_widths (tail_fields m) (fits_tail m s))
    ∙ ap (λ (b : Bool). record
    { local = b; provider = m.provider; sort = m.sort; id = m.id; status = m.status; failed = m.failed; lrn = m.lrn })
    (flag m.local)
  where
    flag : (b : Bool) → eqb (cond b 1 0) 1 ≡ b
    flag true = refl
    flag false = refl

-- three words side by side read as themselves
record Three (xs : List ℕ) (at a b c : ℕ) : Type 0 where
  pub head : be 8 xs at ≡ a
  pub tail : be 8 xs (at + 8) ≡ b
  pub last : be 8 xs (at + 16) ≡ c

three : (p q : List ℕ) (a b c : ℕ) → a < 2 ^ 64 → b < 2 ^ 64 → c < 2 ^ 64
    → Three (p ++ (digits 8 a ++ digits 8 b ++ digits 8 c) ++ q) (length p) a b c
three p q a b c ha hb hc = record {
  head = ap (λ (l : List ℕ). be 8 l (length p)) e₀ ∙ be-digits 8 a p (digits 8 b ++ digits 8 c ++ q) ∙ mod-eq_of_lt ha;
  tail = ap₂ (be 8) e₁ (sym la) ∙ be-digits 8 b (p ++ digits 8 a) (digits 8 c ++ q) ∙ mod-eq_of_lt hb;
  last = ap₂ (be 8) e₂ (sym lb) ∙ be-digits 8 c (p ++ digits 8 a ++ digits 8 b) q ∙ mod-eq_of_lt hc;
}
  where
    la : length (p ++ digits 8 a) ≡ length p + 8
    la = length-append p (digits 8 a) ∙ ap (λ (y : ℕ). length p + y) (length_digits 8 a)

    lb : length ((p ++ digits 8 a) ++ digits 8 b) ≡ length p + 16
    lb = length-append (p ++ digits 8 a) (digits 8 b) ∙ ap₂ (λ (x y : ℕ). x + y) la (length_digits 8 b) ∙ omega arith

    e₀ : p ++ (digits 8 a ++ digits 8 b ++ digits 8 c) ++ q ≡ p ++ digits 8 a ++ (digits 8 b ++ digits 8 c ++ q)
    e₀ = simp append_assoc

    e₁ : p ++ (digits 8 a ++ digits 8 b ++ digits 8 c) ++ q ≡ p ++ digits 8 a ++ digits 8 b ++ (digits 8 c ++ q)
    e₁ = simp append_assoc

    e₂ : p ++ (digits 8 a ++ digits 8 b ++ digits 8 c) ++ q ≡ p ++ digits 8 a ++ digits 8 b ++ digits 8 c ++ q
    e₂ = simp append_assoc

-- WRITE, THEN READ: a message's bytes, wherever they stand, read as the message
pub message_back : (m : Message) → Small m → m.id.number < 2 ^ 16 → m.failed < 2 ^ 64 → (p q : List ℕ)
    → message_from (p ++ message_bytes m ++ q) (length p) ≡ m
unfolding message_bytes
message_back m s n f p q =
    let w : Three (p ++ message_bytes m ++ q) (length p) (head_of m) (tail_of m) m.failed
    = three p q (head_of m) (tail_of m) m.failed (join_lt head_widths (head_fields m) (fits_head m s n))
    (join_lt tail_widths (tail_fields m) (fits_tail m s)) f in
    ap₂ (λ (x y : ℕ). message_of x y (be 8 (p ++ message_bytes m ++ q) (length p + 16))) w.head w.tail
    ∙ ap (message_of (head_of m) (tail_of m)) w.last ∙ words-message m s n

pub read_back : (m : Message) → Small m → m.id.number < 2 ^ 16 → m.failed < 2 ^ 64 → read_message (message_bytes m) ≡ m
unfolding read_message
read_back m s n f = ap (λ (l : List ℕ). message_from l 0) (sym (append-nil (message_bytes m))) ∙ message_back m s n f [] []

-- READ, THEN WRITE: a place without spare bits has the bytes of the message that it reads as
pub bytes_back : (bs : List ℕ) → Bytes bs → length bs ≡ 24 → be 8 bs 8 % 2 ^ 29 ≡ 0 → message_bytes (read_message bs) ≡ bs
unfolding message_bytes read_message
bytes_back bs h l z =
    ap₂ (λ (x y : ℕ). digits 8 x ++ digits 8 y ++ digits 8 (be 8 bs 16)) hd tl
    ∙ ap₂ (λ (x y : List ℕ). x ++ y ++ digits 8 (be 8 bs 16)) (digits-be bs h 8 0 (omega arith)) (digits-be bs h 8 8 (omega arith))
    ∙ ap (λ (x : List ℕ). take 8 bs ++ take 8 (drop 8 bs) ++ x)
    (digits-be bs h 8 16 (omega arith) ∙ take_all 8 (drop 16 bs) (simp length-drop (omega arith)) ∙ sym (drop-drop 8 8 bs))
    ∙ append_assoc (take 8 bs) (take 8 (drop 8 bs)) (drop 8 (drop 8 bs))
    ∙ ap (λ (x : List ℕ). take 8 bs ++ x) (take-append-drop 8 (drop 8 bs)) ∙ take-append-drop 8 bs
  where
    hd : head_of (read_message bs) ≡ be 8 bs 0
    hd = join-cut head_widths (be 8 bs 0) ∙ mod-eq_of_lt (be_word bs h 8 0 (le_refl 8))

    bit : (x : ℕ) → x < 2 → cond (eqb x 1) 1 0 ≡ x
    bit zero k = refl
    bit (suc zero) k = refl
    bit (suc (suc x)) k = absurd (omega arith)

    tl : tail_of (read_message bs) ≡ be 8 bs 8
    tl =
        ap₂ (λ (x y : ℕ). join tail_widths (be 8 bs 8 / 2 ^ 30 % 2 ^ 34 ∷ x ∷ y ∷ []))
        (bit (be 8 bs 8 / 2 ^ 29 % 2) (mod-lt (be 8 bs 8 / 2 ^ 29) (lit< tt)))
        (sym (ap (λ (x : ℕ). x % 2 ^ 29) (div-one (be 8 bs 8)) ∙ z))
        ∙ join-cut tail_widths (be 8 bs 8) ∙ mod-eq_of_lt (be_word bs h 8 8 (le_refl 8))

-- ---- the tray

length-all : (ms : List Message) → length (all_bytes ms) ≡ 24 * length ms
unfolding all_bytes
length-all [] = refl
length-all (m ∷ ms) = length-append (message_bytes m) (all_bytes ms) ∙ ap₂ (λ (x y : ℕ). x + y) (length-message m) (length-all ms)
    ∙ omega arith

all_append : (ms xs : List Message) → all_bytes (ms ++ xs) ≡ all_bytes ms ++ all_bytes xs
unfolding all_bytes
all_append [] xs = refl
all_append (m ∷ ms) xs = ap (λ (l : List ℕ). message_bytes m ++ l) (all_append ms xs)
    ∙ sym (append_assoc (message_bytes m) (all_bytes ms) (all_bytes xs))

pub tray_none : (t : List ℕ) → tray_after [] t ≡ t
unfolding tray_after all_bytes
tray_none t = refl

-- a message put after k messages: the tray of one message more
pub tray_more : (ms : List Message) (m : Message) (t : List ℕ) → tray_after (ms ++ (m ∷ [])) t ≡ put_message (tray_after ms t) (length ms) m
unfolding tray_after put_message all_bytes
tray_more ms m t =
    ap₂ (λ (x : List ℕ) (k : ℕ). x ++ drop k t) (all_append ms (m ∷ []) ∙ ap (λ (x : List ℕ). all_bytes ms ++ x) one)
    (ap (λ (k : ℕ). 24 * k) (length-append ms (m ∷ [])) ∙ next)
    ∙ sym (ap₂ (λ (x y : List ℕ). x ++ message_bytes m ++ y)
    (take_at (all_bytes ms) (drop (24 * length ms) t) (24 * length ms) (length-all ms)) behind)
  where
    one : all_bytes (m ∷ []) ≡ message_bytes m
    one = append-nil (message_bytes m)

    next : 24 * (length ms + 1) ≡ 24 * length ms + 24
    next = omega arith

    behind : drop (24 * length ms + 24) (all_bytes ms ++ drop (24 * length ms) t) ≡ drop (24 * length ms + 24) t
    behind =
        ap (λ (k : ℕ). drop (k + 24) (all_bytes ms ++ drop (24 * length ms) t)) (sym (length-all ms))
        ∙ drop-append-add (all_bytes ms) (drop (24 * length ms) t) 24 ∙ drop-drop 24 (24 * length ms) t

-- and messages put after k messages
pub tray_all : (ms xs : List Message) (t : List ℕ) → put_all (tray_after ms t) (length ms) xs ≡ tray_after (ms ++ xs) t
unfolding put_all
tray_all ms [] t = ap (λ (l : List Message). tray_after l t) (sym (append-nil ms))
tray_all ms (x ∷ xs) t =
    ap₂ (λ (l : List ℕ) (k : ℕ). put_all l k xs) (sym (tray_more ms x t)) (sym (length-append ms (x ∷ []) ∙ omega arith))
    ∙ tray_all (ms ++ (x ∷ [])) xs t
    ∙ ap (λ (l : List Message). tray_after l t) (append_assoc ms (x ∷ []) xs)

-- so messages put from the first place on are the tray after them
pub tray_of : (xs : List Message) (t : List ℕ) → put_all t 0 xs ≡ tray_after xs t
tray_of xs t = ap (λ (l : List ℕ). put_all l 0 xs) (sym (tray_none t)) ∙ tray_all [] xs t

-- messages put in two runs
pub put-append : (xs ys : List Message) (t : List ℕ) (place : ℕ) → put_all (put_all t place xs) (place + length xs) ys
    ≡ put_all t place (xs ++ ys)
unfolding put_all
put-append [] ys t place = ap (λ (k : ℕ). put_all t k ys) (add-zero place)
put-append (x ∷ xs) ys t place =
    ap (λ (k : ℕ). put_all (put_all (put_message t place x) (suc place) xs) k ys) (shift place (length xs))
    ∙ put-append xs ys (put_message t place x) (suc place)
  where
    shift : (a b : ℕ) → a + suc b ≡ suc a + b
    shift a b = omega arith

-- messages that have room leave the tray's length
pub tray_length : (ms : List Message) (t : List ℕ) → 24 * length ms ≤ length t → length (tray_after ms t) ≡ length t
unfolding tray_after
tray_length ms t h = simp (length-append, length-all, length-drop) (omega arith)

-- The first places read back as the messages that they hold.
read_on : (p : List ℕ) (place : ℕ) (ms : List Message) (q : List ℕ) → length p ≡ 24 * place → All Fits ms
    → read_places (p ++ all_bytes ms ++ q) place (length ms) ≡ ms
unfolding read_places all_bytes
read_on p place [] q h none = refl
read_on p place (m ∷ ms) q h (with f fs) =
    ap₂ (λ (x : Message) (l : List Message). x ∷ l)
    (ap₂ message_from (split p (message_bytes m) (all_bytes ms) q) (sym h)
    ∙ message_back m f.small f.number f.failed p (all_bytes ms ++ q))
    (ap (λ (l : List ℕ). read_places l (suc place) (length ms)) (joins p (message_bytes m) (all_bytes ms) q)
    ∙ read_on (p ++ message_bytes m) (suc place) ms q (length-append p (message_bytes m) ∙ ap₂ (λ (x y : ℕ). x + y) h (length-message m)
    ∙ next place) fs)
  where
    split : (a b c d : List ℕ) → a ++ (b ++ c) ++ d ≡ a ++ b ++ (c ++ d)
    split a b c d = simp append_assoc

    joins : (a b c d : List ℕ) → a ++ (b ++ c) ++ d ≡ (a ++ b) ++ c ++ d
    joins a b c d = simp append_assoc

    next : (k : ℕ) → 24 * k + 24 ≡ 24 * suc k
    next k = omega arith

pub tray_reads : (ms : List Message) (t : List ℕ) → All Fits ms → read_places (put_all t 0 ms) 0 (length ms) ≡ ms
unfolding tray_after
tray_reads ms t fs = ap (λ (l : List ℕ). read_places l 0 (length ms)) (tray_of ms t) ∙ read_on [] 0 ms (drop (24 * length ms) t) refl fs
