-- What a pass over each list says together is that the books are sound.
-- Assumes nothing.
use Prim.Native.Nat.{ℕ, ◌+◌, ◌-◌, ◌/◌, ◌%◌, ◌^◌, ◌<◌}
use mathlib.Core.Path.{◌≡◌, refl, sym, ap, ap₂, ◌∙◌}
use mathlib.Core.Bool.{Bool, true, false, not, ◌&&◌, ◌||◌, and_assoc, and-false}
use mathlib.Core.List.{List, [], ◌∷◌, map}
use native.Mathlib.Omega.{arith}
use borrow.Author.Tests.{le-leb}
use lib.Dec.{eqb, ltb, leb}
use lib.ListN.{length, length-map}
use Rattle.systems.specs.Set.{member}
use Rattle.model.specs.Basics.{all}
use Rattle.model.specs.Numbers.{is_code, is_provider}
use Rattle.model.specs.Books.{Owned, Filter, Split, sound_marks, codes_above, sound_codes, filters_above, sound_filters, unsplit}
use Rattle.model.specs.Books.{split_once}
use Rattle.model.specs.Books.{sound_splits, sound_books}
use Rattle.model.specs.declared.Marks.{Marks}
use Rattle.books.specs.Packed.{book_bytes, row_places, split_places, head_of, code_place, filter_place, split_place, owned_of, filter_of}
use Rattle.books.specs.Packed.{split_of}
use Rattle.books.specs.Packed.{used_from, packed_from, sound_bytes}
use Rattle.books.specs.Places.{rest_of}
use Rattle.books.proofs.Places.{used_more, used-length}
use Rattle.books.proofs.Filters.{filters_by_place}
use Rattle.places.specs.Good.{good_code}
use Rattle.soundbooks.specs.Scan.{chain, scan}
use Rattle.soundbooks.proofs.Scanning.{scan_is, scan-next, scan_forgets}
use Rattle.soundbooks.specs.Sound.{apart_from, good_split, row_test, split_test}

four : (a b c d : Bool) → ((a && b) && (c && d)) ≡ ((a && c) && (b && d))
four true true c d = refl
four true false true d = refl
four true false false d = refl
four false b c d = refl

codes-chain : (m : Marks) (last : ℕ) (xs : List ℕ)
    → (codes_above (last / 64) (map owned_of xs)
    && all (λ (x : Owned). is_code x.code && is_provider x.owner && member m.present x.owner) (map owned_of xs))
    ≡ chain (row_test false m) last xs
codes-chain m last [] = refl
codes-chain m last (x ∷ xs) = four (ltb (last / 64) (x / 64)) _ _ _ ∙ ap (λ (b : Bool). good_code m last x && b) (codes-chain m x xs)

filters-chain : (m : Marks) (last : ℕ) (xs : List ℕ)
    → (filters_above (last / 2 ^ 20) (last % 2 ^ 20) (map filter_of xs)
    && all (λ (x : Filter). is_provider x.provider && member m.present x.provider && is_code x.code) (map filter_of xs))
    ≡ chain (row_test true m) last xs
filters-chain m last [] = refl
filters-chain m last (x ∷ xs) =
    four (ltb (last / 2 ^ 20) (x / 2 ^ 20) || (eqb (last / 2 ^ 20) (x / 2 ^ 20) && ltb (last % 2 ^ 20) (x % 2 ^ 20))) _ _ _
    ∙ ap₂ (λ (t b : Bool). (t && (is_provider (x / 2 ^ 20) && member m.present (x / 2 ^ 20) && is_code (x % 2 ^ 20))) && b)
    (filters_by_place last x) (filters-chain m x xs)

splits_chain : (last : ℕ) (xs : List ℕ)
    → (split_once (map split_of xs) && all (λ (x : Split). is_code x.one && is_code x.other) (map split_of xs)) ≡ chain split_test last xs
splits_chain last [] = refl
splits_chain last (x ∷ xs) =
    four (not (eqb (x / 2 ^ 32) (x % 2 ^ 32)) && unsplit (x / 2 ^ 32) (map split_of xs) && unsplit (x % 2 ^ 32) (map split_of xs)) _ _ _
    ∙ ap₂ (λ (t b : Bool). (t && (is_code (x / 2 ^ 32) && is_code (x % 2 ^ 32))) && b)
    (and_assoc (not (eqb (x / 2 ^ 32) (x % 2 ^ 32))) (unsplit (x / 2 ^ 32) (map split_of xs)) (unsplit (x % 2 ^ 32) (map split_of xs)))
    (splits_chain x xs)

-- ---- the lists

short : {A : Type 0} (f : ℕ → A) (w : ℕ → ℕ) (m : ℕ) → leb (length (map f (used_from w m 0))) m ≡ true
short f w m = le-leb _ m (omega (arith, length-map (used_from w m 0) f, used-length w m 0))

codes_sound : (m : Marks) (w : ℕ → ℕ)
    → scan (row_test false m) w row_places 0 0 ≡ (packed_from w row_places 0 && sound_codes m (map owned_of (used_from w row_places 0)))
unfolding sound_codes
codes_sound m w = scan_is (row_test false m) w row_places 0 0
    ∙ ap (λ (b : Bool). packed_from w row_places 0 && b)
    (sym (rw (short owned_of w row_places) (codes-chain m 0 (used_from w row_places 0))))

filters_sound : (m : Marks) (w : ℕ → ℕ)
    → scan (row_test true m) w row_places 0 0 ≡ (packed_from w row_places 0 && sound_filters m (map filter_of (used_from w row_places 0)))
unfolding sound_filters
filters_sound m w = scan_is (row_test true m) w row_places 0 0
    ∙ ap (λ (b : Bool). packed_from w row_places 0 && b)
    (sym (rw (short filter_of w row_places) (filters-chain m 0 (used_from w row_places 0))))

splits_sound : (w : ℕ → ℕ)
    → scan split_test w split_places 0 0 ≡ (packed_from w split_places 0 && sound_splits (map split_of (used_from w split_places 0)))
unfolding sound_splits
splits_sound w = scan_is split_test w split_places 0 0
    ∙ ap (λ (b : Bool). packed_from w split_places 0 && b)
    (sym (rw (short split_of w split_places) (splits_chain 0 (used_from w split_places 0))))

-- SOUND BYTES, in the order in which they are tested
pub sound_parts : (m : Marks) (bs : List ℕ)
    → sound_bytes m bs
    ≡ (eqb (length bs) book_bytes
    && (eqb (head_of bs) 0 && (sound_marks m
    && (scan (row_test false m) (code_place bs) row_places 0 0
    && (scan (row_test true m) (filter_place bs) row_places 0 0 && scan split_test (split_place bs) split_places 0 0)))))
unfolding sound_bytes sound_books
sound_parts m bs = rw (codes_sound m (code_place bs), filters_sound m (filter_place bs), splits_sound (split_place bs))
    (parts (eqb (length bs) book_bytes) (eqb (head_of bs) 0) (packed_from (code_place bs) row_places 0)
    (packed_from (filter_place bs) row_places 0)
    (packed_from (split_place bs) split_places 0) (sound_marks m) _ _ _)
  where
    parts : (l h c f s m x y z : Bool) → (l && h && c && f && s && (m && x && y && z))
        ≡ (l && (h && (m && ((c && x) && ((f && y) && (s && z))))))
    parts false h c f s m x y z = refl
    parts true false c f s m x y z = refl
    parts true true false f s m x y z = sym (and-false m)
    parts true true true false s m x y z = sym (ap (λ (b : Bool). m && b) (and-false x) ∙ and-false m)
    parts true true true true false m x y z =
        sym (ap (λ (b : Bool). m && (x && b)) (and-false y) ∙ ap (λ (b : Bool). m && b) (and-false x) ∙ and-false m)
    parts true true true true true m x y z = and_assoc (m && x) y z ∙ and_assoc m x (y && z)

-- ---- the steps of the tests, as the code takes them

-- a row that names one of the codes decides; any other leaves it to the next
pub apart_end : (a b : ℕ) (xs : List ℕ) → xs ≡ [] → apart_from a b xs ≡ true
apart_end a b xs e = rw e

module _ (w : ℕ → ℕ) (n i x a b : ℕ) (h : i < n) (hx : x ≡ w i) (nz : x ≡ 0 → ⊥) (r s : Bool)
    (hr : r ≡ (eqb (x / 2 ^ 32) a || eqb (x % 2 ^ 32) a)) (hs : s ≡ (eqb (x / 2 ^ 32) b || eqb (x % 2 ^ 32) b)) where
  apart_row : apart_from a b (rest_of w n i)
      ≡ ((not r && unsplit a (map split_of (rest_of w n (i + 1)))) && (not s && unsplit b (map split_of (rest_of w n (i + 1)))))
  apart_row = rw (
    used_more w n i x h hx nz,
    hr,
    hs,
    neither (eqb (x / 2 ^ 32) a) (eqb (x % 2 ^ 32) a),
    neither (eqb (x / 2 ^ 32) b)
        (eqb (x % 2 ^ 32) b),
  )
    where
      neither : (p q : Bool) → not (p || q) ≡ (not p && not q)
      neither true q = refl
      neither false q = refl

  pub apart_one : r ≡ true → apart_from a b (rest_of w n i) ≡ false
  apart_one t = apart_row ∙ rw t

  pub apart_other : r ≡ false → s ≡ true → apart_from a b (rest_of w n i) ≡ false
  apart_other f t = apart_row ∙ rw (f, t) (and-false (unsplit a (map split_of (rest_of w n (i + 1)))))

  pub apart_next : r ≡ false → s ≡ false → apart_from a b (rest_of w n i) ≡ apart_from a b (rest_of w n (i + 1))
  apart_next f g = apart_row ∙ rw (f, g)

-- a sound pair leaves it to the next
pub split_next : (bs : List ℕ) (i x : ℕ) (r : Bool) → i < split_places → x ≡ split_place bs i → (x ≡ 0 → ⊥)
    → r ≡ good_split x (rest_of (split_place bs) split_places (i + 1)) → r ≡ true
    → scan split_test (split_place bs) (split_places - i) i 0 ≡ scan split_test (split_place bs) (split_places - (i + 1)) (i + 1) 0
split_next bs i x r h hx nz hr t =
    scan-next split_test (split_place bs) split_places i 0 x h hx r nz hr t
    ∙ scan_forgets good_split (split_place bs) (split_places - (i + 1)) (i + 1) x 0
