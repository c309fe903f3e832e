-- A version and its row's bytes: the round trips, and what a table needs to know of a row. Nothing else of a row is used above.
-- Assumes nothing.
use mathlib.Core.Path.{◌≡◌, sym, ap, ◌∙◌}
use mathlib.Core.Bool.{true, false}
use mathlib.Core.List.{List, ◌++◌, map}
use Prim.Native.Nat.{ℕ, ◌/◌, ◌^◌, ◌<◌}
use native.Mathlib.Nat.{ne_of_gt}
use native.Mathlib.Omega.{arith}
use borrow.Author.Tests.{eq-eqb, ne_eqb, eqb-true}
use lib.Dec.{eqb}
use lib.ListN.{length, get_or}
use Rattle.octets.specs.Octets.{Bytes}
use Rattle.octets.specs.Fields.{join}
use Rattle.octets.proofs.Fields.{cut-join}
use Rattle.model.specs.declared.Version.{Version}
use Rattle.model.specs.Sound.{sound_version}
use Rattle.model.proofs.Lists.{conj_at}
use Rattle.words.specs.declared.Words.{Words}
use Rattle.words.specs.Size.{ROW}
use Rattle.words.specs.Codec.{words_in, first_of, last_of, bytes_of, is_blank, no_words, blank}
use Rattle.row.specs.Layout.{head_widths, term_widths, field, version_of, spareless, head_fields, term_fields, words_of, Room, key_of, pack}
use Rattle.row.specs.Layout.{unpack}
use Rattle.words.proofs.Spelling.{bytes_length, words_bytes, bytes_words, words-fit, none_blank, blank_none}
use Rattle.row.proofs.Layouts.{head_fits, terms_fit, room_fits, version-words, words-version}
use Rattle.row.proofs.Rooms.{sound_room, sound_tn}

pub pack-length : (v : Version) → length (pack v) ≡ ROW
unfolding pack
pack-length v = bytes_length (words_of v)

pub words-pack : (v : Version) → Room v → words_in (pack v) ≡ words_of v
unfolding pack
words-pack v r = words_bytes (words_of v) (room_fits v r)

pub unpack-pack : (v : Version) → Room v → unpack (pack v) ≡ v
unfolding unpack
unpack-pack v r = ap version_of (words-pack v r) ∙ version-words v r

pub pack-unpack : (b : List ℕ) → length b ≡ ROW → Bytes b → spareless (words_in b) ≡ true → pack (unpack b) ≡ b
unfolding pack unpack
pack-unpack b n h s = ap bytes_of (words-version (words_in b) (words-fit b h) s) ∙ bytes_words b n h

-- one form per version [T3]
pub one_form : (v w : Version) → Room v → Room w → pack v ≡ pack w → v ≡ w
one_form v w r s e = sym (unpack-pack v r) ∙ ap unpack e ∙ unpack-pack w s

pub pack-spareless : (v : Version) → Room v → spareless (words_in (pack v)) ≡ true
unfolding spareless words_of
pack-spareless v r =
    let h : field head_widths 8 (join head_widths (head_fields v)) ≡ 0 =
    ap (λ (l : List ℕ). get_or l 8 0) (cut-join head_widths (head_fields v) (head_fits v r)) in
    let t : field term_widths 7 (join term_widths (term_fields v)) ≡ 0 =
    ap (λ (l : List ℕ). get_or l 7 0) (cut-join term_widths (term_fields v) (terms_fit v r)) in
    ap spareless (words-pack v r) ∙ rw (eq-eqb _ 0 h, eq-eqb _ 0 t)

-- ---- free rows

-- a row of zeros is a free row
pub blank_is : (w : Words) → is_blank w ≡ true → w ≡ no_words
unfolding is_blank
blank_is w e =
    let z : (i : ℕ) → get_or (map (λ (x : ℕ). eqb x 0) (first_of w ++ last_of w)) i true ≡ true =
    conj_at (map (λ (x : ℕ). eqb x 0) (first_of w ++ last_of w)) e in
    λ i. record {
      head = eqb-true w.head 0 (z 0) i;
      terms = eqb-true w.terms 0 (z 1) i;
      dues = eqb-true w.dues 0 (z 2) i;
      times = eqb-true w.times 0 (z 3) i;
      confirmed = eqb-true w.confirmed 0 (z 4) i;
      waiting = eqb-true w.waiting 0 (z 5) i;
      failed = eqb-true w.failed 0 (z 6) i;
      low = eqb-true w.low 0 (z 7) i;
      mid = eqb-true w.mid 0 (z 8) i;
      high = eqb-true w.high 0 (z 9) i;
    }

pub blank_row : (b : List ℕ) → length b ≡ ROW → Bytes b → is_blank (words_in b) ≡ true → b ≡ blank
blank_row b n h e = sym (bytes_words b n h) ∙ ap bytes_of (blank_is (words_in b) e) ∙ none_blank

pub blank_free : is_blank (words_in blank) ≡ true
unfolding is_blank
blank_free = ap is_blank blank_none

-- a sound version's row is not free
pub pack-used : (v : Version) → sound_version v ≡ true → is_blank (words_in (pack v)) ≡ false
unfolding is_blank words_of
pack-used v e =
    let z : 0 < join head_widths (head_fields v) = omega (arith, sound_tn v e) in
    ap is_blank (words-pack v (sound_room v e)) ∙ rw (ne_eqb (join head_widths (head_fields v)) 0 (ne_of_gt z))

-- ---- the order's key

pub head_key : (w : Words) → w.head < 2 ^ 64 → w.head / 16384 ≡ key_of (version_of w).id
unfolding version_of
head_key w h = omega arith
