-- No place is at fault exactly where the engine's own checks say sound. Assumes nothing.
use Rattle.std.specs.Prelude.{is_some}
use Prim.Native.Nat.{ℕ, zero, suc, ◌+◌, ◌/◌, ◌%◌, ◌^◌, ◌≤◌, ◌<◌}
use mathlib.Core.Path.{◌≡◌, refl, sym, ap, ap₂, ◌∙◌}
use mathlib.Core.Bool.{Bool, true, false, cond, not, ◌&&◌, ◌||◌, and-true, and-false, and_comm}
use mathlib.Core.List.{List, [], ◌∷◌, map}
use native.Mathlib.Omega.{arith}
use borrow.Author.Tests.{eq-eqb, ne_eqb, eqb-true, eqb-false, lt-ltb, leb-true}
use lib.Dec.{eqb, ltb, leb}
use lib.ListN.{length, drop, get_or, length-map, drop_of_length-le}
use lib.Seq.{drop-cons}
use Rattle.systems.specs.Set.{member}
use Rattle.model.specs.Basics.{all, among}
use Rattle.model.specs.Books.{sound_marks}
use Rattle.model.specs.Numbers.{is_code, is_provider}
use Rattle.octets.proofs.Fields.{and_l}
use Rattle.model.specs.declared.Marks.{Marks}
use Rattle.faults.specs.declared.Found.{Found}
use Rattle.faults.specs.declared.Fault.{Fault}
use Rattle.std.specs.Prelude.{Option, Some, None}
use Rattle.std.specs.Option.{is_none, is_some}
use Rattle.bookfaults.specs.declared.lists.Listing.{Listing}
use Rattle.bookfaults.specs.declared.lists.Listing.TheVariants.{Codes, Filters, Pairs}
use Rattle.faults.specs.Faults.{Clause, alone, first_broken, broken, first_fault, or_else}
use Rattle.faults.proofs.Laws.{not_leb, all_hold, none_broken, faultless-next, faulty_here}
use Rattle.faults.proofs.Laws.{numbered, numbered_found, numbered_fault, broken_numbered, first_numbered, or_numbered}
use Rattle.faults.proofs.Laws.{free_numbered, whole_numbered}
use Rattle.providers.specs.Providers.{fine, listed, entry_of, marks_in}
use Rattle.providers.proofs.Laws.{listed_says, listed_sound}
use Rattle.books.specs.Packed.{book_bytes, row_places, split_places, head_of, code_place, filter_place, split_place, used_from, free_from}
use Rattle.books.specs.Packed.{packed_from, sound_bytes}
use Rattle.places.specs.Good.{good_code, good_filter, good_row}
use Rattle.soundbooks.specs.Scan.{chain, scan}
use Rattle.soundbooks.proofs.Scanning.{scan_is}
use Rattle.soundbooks.specs.Sound.{row_test, split_test}
use Rattle.soundbooks.proofs.Soundness.{sound_parts}
use Rattle.bookfaults.specs.Clauses.{mark_found, providers_fault, later, here, code_clauses, filter_clauses, pair_clauses}
use Rattle.bookfaults.specs.Clauses.{place_in, places_of, last_at, met_by, clauses_in, place_found, list_fault, bytes_fault, books_fault}
use Rattle.bookfaults.proofs.Pairs.{two_codes, differ, clear, pairs_from, prefix, met_clear, pairs-chain}

-- ---- the provider list

mark-fine : (b : ℕ) → among b (0 ∷ 1 ∷ 3 ∷ []) ≡ fine (entry_of b)
mark-fine b = go (eqb b 0) (eqb b 1) (eqb b 3)
  where
    go : (x y z : Bool) → (x || (y || (z || false))) ≡ fine (record { present = y || z; local = not (x || y) })
    go true y z = refl
    go false true z = refl
    go false false true = refl
    go false false false = refl

marks_agree : (p : List ℕ) (n i : ℕ) → i + n ≡ length p → is_none (first_fault (mark_found p) n i) ≡ all fine (map entry_of (drop i p))
unfolding first_fault
marks_agree p zero i h = sym (ap (λ (l : List ℕ). all fine (map entry_of l)) (drop_of_length-le p {i = i} (omega arith)))
marks_agree p (suc n) i h =
    go (among (get_or p i 0) (0 ∷ 1 ∷ 3 ∷ [])) refl (marks_agree p n (suc i) (omega arith))
    ∙ sym (ap (λ (l : List ℕ). all fine (map entry_of l)) (drop-cons p i 0 (omega arith)))
  where
    go : (b : Bool) → among (get_or p i 0) (0 ∷ 1 ∷ 3 ∷ []) ≡ b → is_none (first_fault (mark_found p) n (suc i))
        ≡ all fine (map entry_of (drop (suc i) p))
        → is_none (first_fault (mark_found p) (suc n) i) ≡ (fine (entry_of (get_or p i 0)) && all fine (map entry_of (drop (suc i) p)))
    go true e ih =
        faultless-next (mark_found p) n i (rw e) ∙ ih
        ∙ ap (λ (b : Bool). b && all fine (map entry_of (drop (suc i) p))) (sym e ∙ mark-fine (get_or p i 0))
    go false e ih =
        faulty_here (mark_found p) n i (rw e) ∙ ap (λ (b : Bool). b && all fine (map entry_of (drop (suc i) p)))
        (sym e ∙ mark-fine (get_or p i 0))

providers_agree : (p : List ℕ) → is_none (providers_fault p) ≡ is_some (listed (map entry_of p))
unfolding providers_fault
providers_agree p =
    go (leb (length p) 63)
    ∙ ap₂ (λ (n : ℕ) (b : Bool). leb n 63 && b) (sym (length-map p entry_of)) (marks_agree p (length p) 0 (omega arith))
    ∙ sym (listed_says (map entry_of p))
  where
    go : (b : Bool) → is_none (cond b (first_fault (mark_found p) (length p) 0) (Some (broken 1)))
        ≡ (b && is_none (first_fault (mark_found p) (length p) 0))
    go true = refl
    go false = refl

-- ---- a list of places: each is judged by those before it

-- the place before place i is used, if there is one
abbrev Behind : (ℕ → ℕ) → ℕ → Type 0
Behind w zero = Unit {0}
Behind w (suc j) = w j ≡ 0 → ⊥

-- each used place passes the test, up to the first free one
abbrev all_used : (ℕ → ℕ) → (ℕ → Bool) → ℕ → ℕ → Bool
all_used w good zero i = true
all_used w good (suc m) i = cond (eqb (w i) 0) true (good i && all_used w good m (suc i))

module _ (w : ℕ → ℕ) (found : ℕ → Option Found) (good : ℕ → Bool)
    (free : (i : ℕ) → w i ≡ 0 → is_none (found i) ≡ true)
    (behind : (i : ℕ) → w i ≡ 0 → (w (suc i) ≡ 0 → ⊥) → is_none (found (suc i)) ≡ false)
    (used : (i : ℕ) → Behind w i → (w i ≡ 0 → ⊥) → is_none (found i) ≡ good i) where
  free_agrees : (m i : ℕ) → w i ≡ 0 → is_none (first_fault found m (suc i)) ≡ free_from w m (suc i)
  unfolding first_fault free_from
  free_agrees zero i z = refl
  free_agrees (suc m) i z = go (eqb (w (suc i)) 0) refl (free_agrees m (suc i))
    where
      go : (b : Bool) → eqb (w (suc i)) 0 ≡ b
          → (w (suc i) ≡ 0 → is_none (first_fault found m (suc (suc i))) ≡ free_from w m (suc (suc i)))
          → is_none (first_fault found (suc m) (suc i)) ≡ (b && free_from w m (suc (suc i)))
      go true e ih = faultless-next found m (suc i) (free (suc i) (eqb-true _ _ e)) ∙ ih (eqb-true _ _ e)
      go false e ih = faulty_here found m (suc i) (behind i z (eqb-false _ _ e))

  pub places_agree : (m i : ℕ) → Behind w i → is_none (first_fault found m i) ≡ (packed_from w m i && all_used w good m i)
  unfolding first_fault packed_from
  places_agree zero i b = refl
  places_agree (suc m) i b = go (eqb (w i) 0) (good i) refl refl (places_agree m (suc i))
    where
      go : (f g : Bool) → eqb (w i) 0 ≡ f → good i ≡ g
          → (Behind w (suc i) → is_none (first_fault found m (suc i)) ≡ (packed_from w m (suc i) && all_used w good m (suc i)))
          → is_none (first_fault found (suc m) i)
          ≡ (cond f (free_from w m (suc i)) (packed_from w m (suc i)) && cond f true (g && all_used w good m (suc i)))
      go true g e eg ih =
          faultless-next found m i (free i (eqb-true _ _ e)) ∙ free_agrees m i (eqb-true _ _ e) ∙ sym (and-true (free_from w m (suc i)))
      go false true e eg ih = faultless-next found m i (used i b (eqb-false _ _ e) ∙ eg) ∙ ih (eqb-false _ _ e)
      go false false e eg ih = faulty_here found m i (used i b (eqb-false _ _ e) ∙ eg) ∙ sym (and-false (packed_from w m (suc i)))

-- ---- what a place breaks

module _ (l : Listing) (m : Marks) (w : ℕ → ℕ) where
  place_free : (i : ℕ) → w i ≡ 0 → is_none (place_found l m w i) ≡ true
  unfolding place_found
  place_free i z = rw (eq-eqb (w i) 0 z)

  module _ (i : ℕ) (u : w i ≡ 0 → ⊥) where
    place_used : (cs : List Clause) → clauses_in l m w i ≡ cs
        → is_none (place_found l m w i) ≡ is_none (first_broken cs None)
    unfolding place_found
    place_used cs e = rw (ne_eqb (w i) 0 u, e)

    place_holds : (cs : List Clause) → clauses_in l m w i ≡ cs → is_none (place_found l m w i) ≡ all_hold cs
    place_holds cs e = place_used cs e ∙ none_broken cs None ∙ and-true (all_hold cs)

-- ---- codes and filters

module _ (w : ℕ → ℕ) where
  -- behind a used place, and above it by a measure
  not_behind : (i : ℕ) → Behind w i → not (later i (eqb (last_at w i) 0)) ≡ true
  not_behind zero b = refl
  not_behind (suc j) b = rw (lt-ltb 0 (suc j) (omega arith), ne_eqb (w j) 0 b)

  behind_free : (j : ℕ) → w j ≡ 0 → not (later (suc j) (eqb (last_at w (suc j)) 0)) ≡ false
  behind_free j z = rw (lt-ltb 0 (suc j) (omega arith), eq-eqb (w j) 0 z)

  above : (f : ℕ → ℕ) → f 0 ≡ 0 → (i x : ℕ) → 0 < f x → not (later i (leb (f x) (f (last_at w i)))) ≡ ltb (f (last_at w i)) (f x)
  above f z zero x h = sym (ap (λ (k : ℕ). ltb k (f x)) z ∙ lt-ltb 0 (f x) h)
  above f z (suc j) x h = rw (lt-ltb 0 (suc j) (omega arith)) (not_leb (f x) (f (w j)))

  -- row by row is the pass of the engine's own check
  rows_chain : (b : Bool) (m : Marks) (n i : ℕ) → all_used w (λ (k : ℕ). good_row b m (last_at w k) (w k)) n i ≡ chain (row_test b m)
      (last_at w i) (used_from w n i)
  unfolding used_from
  rows_chain b m zero i = refl
  rows_chain b m (suc n) i = go (eqb (w i) 0) (rows_chain b m n (suc i))
    where
      go : (f : Bool) → all_used w (λ (k : ℕ). good_row b m (last_at w k) (w k)) n (suc i)
          ≡ chain (row_test b m) (w i) (used_from w n (suc i))
          → cond f true (good_row b m (last_at w i) (w i) && all_used w (λ (k : ℕ). good_row b m (last_at w k) (w k)) n (suc i))
          ≡ chain (row_test b m) (last_at w i) (cond f [] (w i ∷ used_from w n (suc i)))
      go true e = refl
      go false e = ap (λ (r : Bool). good_row b m (last_at w i) (w i) && r) e

  code_good : (m : Marks) (i : ℕ) → Behind w i → (w i ≡ 0 → ⊥) → is_none (place_found Codes m w i) ≡ good_code m (last_at w i) (w i)
  code_good m i b u =
      place_holds Codes m w i u (code_clauses m i (last_at w i) (w i)) refl ∙ good
    where
      go : (c : Bool) → is_code (w i / 64) ≡ c
          → (c && (here m (w i % 64) && (not (later i (leb (w i / 64) (last_at w i / 64))) && true)))
          ≡ (ltb (last_at w i / 64) (w i / 64) && (c && is_provider (w i % 64) && member m.present (w i % 64)))
      go true e =
          let h : 200000 ≤ w i / 64 = leb-true _ _ (and_l _ _ (and_l _ _ e)) in
          rw (above (λ (k : ℕ). k / 64) refl i (w i) (omega arith), and-true)
          (and_comm (here m (w i % 64)) (ltb (last_at w i / 64) (w i / 64)))
      go false e = sym (and-false (ltb (last_at w i / 64) (w i / 64)))

      good : all_hold (code_clauses m i (last_at w i) (w i)) ≡ good_code m (last_at w i) (w i)
      good = rw (not_behind i b) (go (is_code (w i / 64)) refl)

  filter_good : (m : Marks) (i : ℕ) → Behind w i → (w i ≡ 0 → ⊥)
      → is_none (place_found Filters m w i) ≡ good_filter m (last_at w i) (w i)
  filter_good m i b u =
      place_holds Filters m w i u (filter_clauses m i (last_at w i) (w i)) refl ∙ good
    where
      go : (a c l : Bool) → (a && (c && (l && true))) ≡ (l && (a && c))
      go true true true = refl
      go true true false = refl
      go true false true = refl
      go true false false = refl
      go false c true = refl
      go false c false = refl

      good : all_hold (filter_clauses m i (last_at w i) (w i)) ≡ good_filter m (last_at w i) (w i)
      good =
          rw (not_behind i b, above (λ (k : ℕ). k) refl i (w i) (omega arith))
          (go (here m (w i / 2 ^ 20)) (is_code (w i % 2 ^ 20)) (ltb (last_at w i) (w i)))

  code_behind : (m : Marks) (i : ℕ) → w i ≡ 0 → (w (suc i) ≡ 0 → ⊥) → is_none (place_found Codes m w (suc i)) ≡ false
  code_behind m i z u = place_used Codes m w (suc i) u _ refl ∙ rw (behind_free i z)

  filter_behind : (m : Marks) (i : ℕ) → w i ≡ 0 → (w (suc i) ≡ 0 → ⊥) → is_none (place_found Filters m w (suc i)) ≡ false
  filter_behind m i z u = place_used Filters m w (suc i) u _ refl ∙ rw (behind_free i z)

  pub codes_agree : (m : Marks) (n : ℕ) → is_none (first_fault (place_found Codes m w) n 0) ≡ scan (row_test false m) w n 0 0
  codes_agree m n =
      places_agree w (place_found Codes m w) (λ (i : ℕ). good_row false m (last_at w i) (w i)) (place_free Codes m w)
      (code_behind m) (code_good m) n 0 tt
      ∙ ap (λ (b : Bool). packed_from w n 0 && b) (rows_chain false m n 0) ∙ sym (scan_is (row_test false m) w n 0 0)

  pub filters_agree : (m : Marks) (n : ℕ) → is_none (first_fault (place_found Filters m w) n 0) ≡ scan (row_test true m) w n 0 0
  filters_agree m n =
      places_agree w (place_found Filters m w) (λ (i : ℕ). good_row true m (last_at w i) (w i)) (place_free Filters m w) (filter_behind m)
      (filter_good m) n 0 tt
      ∙ ap (λ (b : Bool). packed_from w n 0 && b) (rows_chain true m n 0) ∙ sym (scan_is (row_test true m) w n 0 0)

  -- ---- pairs

  abbrev pair_good : ℕ → Bool
  pair_good i = two_codes (w i) && (differ (w i) && clear (prefix w i) (w i))

  pairs_from_lem : (n i : ℕ) → all_used w pair_good n i ≡ pairs_from (prefix w i) (used_from w n i)
  unfolding used_from
  pairs_from_lem zero i = refl
  pairs_from_lem (suc n) i = go (eqb (w i) 0) (pairs_from_lem n (suc i))
    where
      go : (f : Bool) → all_used w pair_good n (suc i) ≡ pairs_from (prefix w (suc i)) (used_from w n (suc i))
          → cond f true (pair_good i && all_used w pair_good n (suc i)) ≡ pairs_from (prefix w i) (cond f [] (w i ∷ used_from w n (suc i)))
      go true e = refl
      go false e = ap (λ (r : Bool). pair_good i && r) e

  pair_good_lem : (m : Marks) (i : ℕ) → Behind w i → (w i ≡ 0 → ⊥) → is_none (place_found Pairs m w i) ≡ pair_good i
  pair_good_lem m i b u =
      place_holds Pairs m w i u (pair_clauses (met_by w i (w i)) i (last_at w i) (w i)) refl ∙ good
    where
      good : all_hold (pair_clauses (met_by w i (w i)) i (last_at w i) (w i)) ≡ pair_good i
      good = rw (not_behind i b, met_clear w i (w i), and-true)

  pair_behind : (m : Marks) (i : ℕ) → w i ≡ 0 → (w (suc i) ≡ 0 → ⊥) → is_none (place_found Pairs m w (suc i)) ≡ false
  pair_behind m i z u = place_used Pairs m w (suc i) u _ refl ∙ rw (behind_free i z)

  all_clear : (xs : List ℕ) → all (clear []) xs ≡ true
  all_clear [] = refl
  all_clear (x ∷ xs) = all_clear xs

  pub pairs_agree : (m : Marks) (n : ℕ) → is_none (first_fault (place_found Pairs m w) n 0) ≡ scan split_test w n 0 0
  pairs_agree m n =
      places_agree w (place_found Pairs m w) pair_good (place_free Pairs m w) (pair_behind m) (pair_good_lem m) n 0 tt
      ∙ ap (λ (b : Bool). packed_from w n 0 && b)
      (pairs_from_lem n 0 ∙ pairs-chain [] 0 (used_from w n 0) ∙ ap (λ (b : Bool). chain split_test 0 (used_from w n 0) && b)
      (all_clear (used_from w n 0)) ∙ and-true _)
      ∙ sym (scan_is split_test w n 0 0)

-- ---- the whole answer

or_agrees : (f g : Option Fault) → is_none (or_else f g) ≡ (is_none f && is_none g)
or_agrees None g = refl
or_agrees (Some f) g = refl

bytes_agree : (m : Marks) (bs : List ℕ) → sound_marks m ≡ true → is_none (bytes_fault m bs) ≡ sound_bytes m bs
unfolding bytes_fault list_fault
bytes_agree m bs s = go (eqb (length bs) book_bytes) (eqb (head_of bs) 0) ∙ rw s at (sym (sound_parts m bs))
  where
    lists : is_none (or_else (list_fault Codes m bs) (or_else (list_fault Filters m bs) (list_fault Pairs m bs)))
        ≡ (scan (row_test false m) (code_place bs) row_places 0 0
        && (scan (row_test true m) (filter_place bs) row_places 0 0 && scan split_test (split_place bs) split_places 0 0))
    lists =
        or_agrees (list_fault Codes m bs) (or_else (list_fault Filters m bs) (list_fault Pairs m bs))
        ∙ ap₂ (λ (a b : Bool). a && b) (codes_agree (code_place bs) m row_places)
        (or_agrees (list_fault Filters m bs) (list_fault Pairs m bs)
        ∙ ap₂ (λ (a b : Bool). a && b) (filters_agree (filter_place bs) m row_places) (pairs_agree (split_place bs) m split_places))

    go : (a b : Bool) → is_none
        (cond a (cond b (or_else (list_fault Codes m bs) (or_else (list_fault Filters m bs) (list_fault Pairs m bs))) (Some (broken 4)))
        (Some (broken 3)))
        ≡ (a && (b && (true && (scan (row_test false m) (code_place bs) row_places 0 0
        && (scan (row_test true m) (filter_place bs) row_places 0 0 && scan split_test (split_place bs) split_places 0 0)))))
    go true true = lists
    go true false = refl
    go false b = refl

-- NOTHING IS AT FAULT exactly where provider list and books are sound
pub books_verdict : (p bs : List ℕ)
    → is_none (books_fault p bs) ≡ (is_some (listed (map entry_of p)) && sound_bytes (marks_in (listed (map entry_of p))) bs)
unfolding books_fault
books_verdict p bs =
    or_agrees (providers_fault p) (bytes_fault (marks_in (listed (map entry_of p))) bs)
    ∙ ap₂ (λ (a b : Bool). a && b) (providers_agree p) (bytes_agree (marks_in (listed (map entry_of p))) bs (listed_sound (map entry_of p)))

-- ---- what is at fault has a clause's number

place_numbered : (l : Listing) (m : Marks) (w : ℕ → ℕ) (i : ℕ) → numbered_found (place_found l m w i) ≡ true
unfolding place_found
place_numbered l m w i = free_numbered (eqb (w i) 0) _ (broken_numbered (clauses_in l m w i) None (go l) refl)
  where
    go : (k : Listing) → numbered (clauses_in k m w i) ≡ true
    go Codes = refl
    go Filters = refl
    go Pairs = refl

list_numbered : (l : Listing) (m : Marks) (bs : List ℕ) → numbered_fault (list_fault l m bs) ≡ true
unfolding list_fault
list_numbered l m bs = first_numbered (place_found l m (place_in l bs)) (place_numbered l m (place_in l bs)) (places_of l) 0

providers_numbered : (p : List ℕ) → numbered_fault (providers_fault p) ≡ true
unfolding providers_fault
providers_numbered p =
    whole_numbered (leb (length p) 63) _ _
    (first_numbered (mark_found p) (λ i. broken_numbered (alone 2 (among (get_or p i 0) (0 ∷ 1 ∷ 3 ∷ [])) ∷ []) None refl refl)
    (length p) 0) refl

bytes_numbered : (m : Marks) (bs : List ℕ) → numbered_fault (bytes_fault m bs) ≡ true
unfolding bytes_fault
bytes_numbered m bs =
    whole_numbered (eqb (length bs) book_bytes) _ _
    (whole_numbered (eqb (head_of bs) 0) _ _
    (or_numbered (list_fault Codes m bs) _ (list_numbered Codes m bs)
    (or_numbered (list_fault Filters m bs) _ (list_numbered Filters m bs) (list_numbered Pairs m bs))) refl) refl

pub books_numbered : (p bs : List ℕ) → numbered_fault (books_fault p bs) ≡ true
unfolding books_fault
books_numbered p bs = or_numbered (providers_fault p) _ (providers_numbered p) (bytes_numbered (marks_in (listed (map entry_of p))) bs)
