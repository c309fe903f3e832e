-- The clauses of a sound version in the order in which the code asks them. Assumes nothing.
use mathlib.Core.Path.{◌≡◌, refl, sym, ap, ◌∙◌}
use mathlib.Core.List.{List, [], ◌∷◌}
use Prim.Native.Nat.{ℕ, ◌^◌}
use lib.Dec.{ltb, leb}
use lib.ListN.{get_or}
use mathlib.Core.Bool.{Bool, true, false, ◌&&◌, and-false}
use Rattle.model.specs.declared.Version.{Version}
use Rattle.model.specs.Numbers.{ten_digits, is_provider, is_set, is_time, is_number}
use Rattle.model.proofs.Lists.{conj, conj_at, conj_all}
use Rattle.model.specs.Basics.{none, with}
use Rattle.model.specs.Sound.{retries_in_range, cast_in_range, in_range, providers_fit, new_whole, old_whole, one_created, sides_needed}
use Rattle.model.specs.Sound.{cause_fits}
use Rattle.model.specs.Sound.{is_status}
use Rattle.model.specs.Sound.{canceller_fits, sets_apart, retries_fit, start_fits, waiting_fits, purpose_fits, live_fits, live_confirmed}
use Rattle.model.specs.Sound.{within_fits, sound_version}
use Rattle.sound.specs.Marks.{marks_fit}
use Rattle.sets.specs.Order.{sets_fit, retries_sound}
use Rattle.sound.specs.Order.{outline_fits, shape_fits, times_fit, cast_fits}

pub same : (a b : Bool) → (a ≡ true → b ≡ true) → (b ≡ true → a ≡ true) → a ≡ b
same true b f g = sym (f refl)
same false true f g = g refl
same false false f g = refl

module _ (v : Version) where
  abbrev ranges : List Bool
  ranges = ten_digits v.id.tn.0 ∷ is_number v.id.number ∷ is_status v.status ∷ is_time v.stamp ∷ is_provider v.new.provider
      ∷ is_provider v.old.provider ∷ leb v.canceller 2 ∷ cast_in_range v.cast ∷ []

  abbrev casts : List Bool
  casts = leb v.cast.purpose 3 ∷ ltb v.cast.start (2 ^ 32) ∷ is_set v.cast.confirmed ∷ is_set v.cast.waiting
      ∷ is_set v.cast.failed ∷ retries_in_range v.cast.retries ∷ []

  abbrev clauses : List Bool
  clauses = in_range v ∷ providers_fit v ∷ new_whole v.new ∷ old_whole v.old ∷ one_created v ∷ sides_needed v ∷ cause_fits v.old
      ∷ canceller_fits v ∷ sets_apart v.cast ∷ retries_fit v.cast ∷ start_fits v ∷ waiting_fits v ∷ purpose_fits v
      ∷ live_fits v ∷ live_confirmed v ∷ within_fits v ∷ []

  abbrev outline : List Bool
  outline = ten_digits v.id.tn.0 ∷ is_number v.id.number ∷ is_status v.status ∷ is_provider v.new.provider
      ∷ is_provider v.old.provider ∷ leb v.canceller 2 ∷ leb v.cast.purpose 3 ∷ []

  abbrev marks : List Bool
  marks = one_created v ∷ sides_needed v ∷ purpose_fits v ∷ live_fits v ∷ []

  abbrev sides : List Bool
  sides = providers_fit v ∷ new_whole v.new ∷ old_whole v.old ∷ cause_fits v.old ∷ canceller_fits v ∷ within_fits v ∷ []

  abbrev shape : List Bool
  shape = outline_fits v ∷ marks_fit v ∷ conj sides ∷ []

  abbrev times : List Bool
  times = is_time v.stamp ∷ ltb v.cast.start (2 ^ 32) ∷ start_fits v ∷ waiting_fits v ∷ []

  abbrev sets : List Bool
  sets = is_set v.cast.confirmed ∷ is_set v.cast.waiting ∷ is_set v.cast.failed ∷ sets_apart v.cast ∷ []

  abbrev retries : List Bool
  retries = retries_in_range v.cast.retries ∷ retries_fit v.cast ∷ []

  abbrev cast : List Bool
  cast = times_fit v ∷ sets_fit v.cast ∷ live_confirmed v ∷ retries_sound v.cast ∷ []

  there : sound_version v ≡ true → (shape_fits v && cast_fits v) ≡ true
  unfolding sound_version in_range cast_in_range marks_fit outline_fits shape_fits times_fit sets_fit retries_sound cast_fits
  there e =
      let c : (i : ℕ) → get_or clauses i true ≡ true = conj_at clauses e in
      let r : (i : ℕ) → get_or ranges i true ≡ true = conj_at ranges (c 0) in
      let k : (i : ℕ) → get_or casts i true ≡ true = conj_at casts (r 7) in
      let o : outline_fits v ≡ true =
      conj_all outline (with (r 0) (with (r 1) (with (r 2) (with (r 4) (with (r 5) (with (r 6) (with (k 0) none))))))) in
      let m : marks_fit v ≡ true = conj_all marks (with (c 4) (with (c 5) (with (c 12) (with (c 13) none)))) in
      let d : conj sides ≡ true = conj_all sides (with (c 1) (with (c 2) (with (c 3) (with (c 6) (with (c 7) (with (c 15) none)))))) in
      let t : times_fit v ≡ true = conj_all times (with (r 3) (with (k 1) (with (c 10) (with (c 11) none)))) in
      let s : sets_fit v.cast ≡ true = conj_all sets (with (k 2) (with (k 3) (with (k 4) (with (c 8) none)))) in
      let u : retries_sound v.cast ≡ true = conj_all retries (with (k 5) (with (c 9) none)) in
      conj_all (shape_fits v ∷ cast_fits v ∷ [])
      (with (conj_all shape (with o (with m (with d none)))) (with (conj_all cast (with t (with s (with (c 14) (with u none))))) none))

  back : (shape_fits v && cast_fits v) ≡ true → sound_version v ≡ true
  unfolding sound_version in_range cast_in_range marks_fit outline_fits shape_fits times_fit sets_fit retries_sound cast_fits
  back e =
      let b : (i : ℕ) → get_or (shape_fits v ∷ cast_fits v ∷ []) i true ≡ true = conj_at (shape_fits v ∷ cast_fits v ∷ []) e in
      let h : (i : ℕ) → get_or shape i true ≡ true = conj_at shape (b 0) in
      let f : (i : ℕ) → get_or cast i true ≡ true = conj_at cast (b 1) in
      let o : (i : ℕ) → get_or outline i true ≡ true = conj_at outline (h 0) in
      let m : (i : ℕ) → get_or marks i true ≡ true = conj_at marks (h 1) in
      let d : (i : ℕ) → get_or sides i true ≡ true = conj_at sides (h 2) in
      let t : (i : ℕ) → get_or times i true ≡ true = conj_at times (f 0) in
      let s : (i : ℕ) → get_or sets i true ≡ true = conj_at sets (f 1) in
      let u : (i : ℕ) → get_or retries i true ≡ true = conj_at retries (f 3) in
      let k : cast_in_range v.cast ≡ true =
      conj_all casts (with (o 6) (with (t 1) (with (s 0) (with (s 1) (with (s 2) (with (u 0) none)))))) in
      let r : in_range v ≡ true =
      conj_all ranges (with (o 0) (with (o 1) (with (o 2) (with (t 0) (with (o 3) (with (o 4) (with (o 5) (with k none)))))))) in
      conj_all clauses (with r
      (with (d 0) (with (d 1) (with (d 2)
      (with (m 0) (with (m 1) (with (d 3)
      (with (d 4) (with (s 3) (with (u 1) (with (t 2) (with (t 3) (with (m 2) (with (m 3) (with (f 2)
      (with (d 5) none))))))))))))))))

-- first all but the broadcast, then the broadcast
pub sound_order : (v : Version) → sound_version v ≡ (shape_fits v && cast_fits v)
sound_order v = same (sound_version v) (shape_fits v && cast_fits v) (there v) (back v)

pub outline_status : (v : Version) → outline_fits v ≡ true → is_status v.status ≡ true
unfolding outline_fits
outline_status v e = conj_at (outline v) e 2

pub outline_purpose : (v : Version) → outline_fits v ≡ true → leb v.cast.purpose 3 ≡ true
unfolding outline_fits
outline_purpose v e = conj_at (outline v) e 6

pub sides_order : (d n o e l y : Bool) → (d && n && o && e && l && y) ≡ (n && (o && (d && e && l && y)))
sides_order false n o e l y = sym (ap (λ (b : Bool). n && b) (and-false o) ∙ and-false n)
sides_order true false o e l y = refl
sides_order true true false e l y = refl
sides_order true true true e l y = refl
