-- Lists of pieces of R bytes, and the bytes of such lists. R is the row's size; nothing here depends on its value. Assumes nothing.
use mathlib.Core.Path.{◌≡◌, refl, sym, ap, ap₂, ◌∙◌, subst}
use mathlib.Core.List.{List, [], ◌∷◌, ◌++◌, append_assoc}
use Prim.Native.Nat.{ℕ, zero, suc, ◌+◌, ◌*◌, ◌≤◌, ◌<◌}
use native.Mathlib.Nat.{zero-mul, suc-mul, add_comm, not-suc-le-zero, le_of_suc-le-suc}
use native.Mathlib.Omega.{arith}
use lib.ListN.{length, take, drop, get_or, length-append, length-drop, take-append-drop}
use lib.Seq.{take-nil, drop-nil, take-append-add, drop-append-add, take-append_seam, drop-append_seam, drop-drop, length-take-le}
use Rattle.rows.specs.Chunks.{chunks, joined}

pub joined-append : (xs ys : List (List ℕ)) → joined (xs ++ ys) ≡ joined xs ++ joined ys
joined-append [] ys = refl
joined-append (x ∷ xs) ys = ap (λ (l : List ℕ). x ++ l) (joined-append xs ys) ∙ sym (append_assoc x (joined xs) (joined ys))

module _ (R : ℕ) where
  -- each piece has R bytes
  abbrev pub Even : List (List ℕ) → Type 0
  Even [] = Unit {0}
  Even (c ∷ cs) = (length c ≡ R) × Even cs

  more : (i : ℕ) (c : List ℕ) → length c ≡ R → suc i * R ≡ length c + i * R
  more i c e = suc-mul i R ∙ add_comm (i * R) R ∙ ap (λ (k : ℕ). k + i * R) (sym e)

  pub take-joined : (cs : List (List ℕ)) (i : ℕ) → Even cs → take (i * R) (joined cs) ≡ joined (take i cs)
  take-joined [] zero h = take-nil (zero * R)
  take-joined [] (suc i) h = take-nil (suc i * R)
  take-joined (c ∷ cs) zero h = ap (λ (k : ℕ). take k (c ++ joined cs)) (zero-mul R)
  take-joined (c ∷ cs) (suc i) h =
      ap (λ (k : ℕ). take k (c ++ joined cs)) (more i c h.0)
      ∙ take-append-add c (joined cs) (i * R)
      ∙ ap (λ (l : List ℕ). c ++ l) (take-joined cs i h.1)

  pub drop-joined : (cs : List (List ℕ)) (i : ℕ) → Even cs → drop (i * R) (joined cs) ≡ joined (drop i cs)
  drop-joined [] zero h = drop-nil (zero * R)
  drop-joined [] (suc i) h = drop-nil (suc i * R)
  drop-joined (c ∷ cs) zero h = ap (λ (k : ℕ). drop k (c ++ joined cs)) (zero-mul R)
  drop-joined (c ∷ cs) (suc i) h =
      ap (λ (k : ℕ). drop k (c ++ joined cs)) (more i c h.0)
      ∙ drop-append-add c (joined cs) (i * R)
      ∙ drop-joined cs i h.1

  pub even_take : (i : ℕ) (cs : List (List ℕ)) → Even cs → Even (take i cs)
  even_take zero cs h = tt
  even_take (suc i) [] h = tt
  even_take (suc i) (c ∷ cs) h = (h.0, even_take i cs h.1)

  pub even_append : (xs ys : List (List ℕ)) → Even xs → Even ys → Even (xs ++ ys)
  even_append [] ys h k = k
  even_append (x ∷ xs) ys h k = (h.0, even_append xs ys h.1 k)

  pub joined_length : (cs : List (List ℕ)) → Even cs → length (joined cs) ≡ length cs * R
  joined_length [] h = sym (zero-mul R)
  joined_length (c ∷ cs) h =
      length-append c (joined cs) ∙ ap (λ (k : ℕ). length c + k) (joined_length cs h.1) ∙ sym (more (length cs) c h.0)

  -- the pieces of a list of bytes
  pub chunks-length : (n : ℕ) (t : List ℕ) → length (chunks R n t) ≡ n
  chunks-length zero t = refl
  chunks-length (suc n) t = ap suc (chunks-length n (drop R t))

  pub chunks_even : (n : ℕ) (t : List ℕ) → n * R ≤ length t → Even (chunks R n t)
  chunks_even zero t h = tt
  chunks_even (suc n) t h =
      let h' : n * R + R ≤ length t = subst (λ (k : ℕ). k ≤ length t) (suc-mul n R) h in
      (length-take-le R t (omega arith), chunks_even n (drop R t) (simp length-drop (omega arith)))

  pub chunks-joined : (n : ℕ) (t : List ℕ) → length t ≡ n * R → joined (chunks R n t) ≡ t
  chunks-joined zero t h = empty t (h ∙ zero-mul R)
    where
      empty : (t : List ℕ) → length t ≡ 0 → [] ≡ t
      empty [] e = refl
      empty (x ∷ t) e = absurd (omega arith)
  chunks-joined (suc n) t h =
      let h' : length t ≡ n * R + R = h ∙ suc-mul n R in
      ap (λ (l : List ℕ). take R t ++ l) (chunks-joined n (drop R t) (simp length-drop (omega arith)))
      ∙ take-append-drop R t

  pub joined-chunks : (cs : List (List ℕ)) → Even cs → chunks R (length cs) (joined cs) ≡ cs
  joined-chunks [] h = refl
  joined-chunks (c ∷ cs) h =
      ap₂ (λ (x : List ℕ) (xs : List (List ℕ)). x ∷ xs)
      (ap (λ (k : ℕ). take k (c ++ joined cs)) (sym h.0) ∙ take-append_seam c (joined cs))
      (ap (λ (k : ℕ). chunks R (length cs) (drop k (c ++ joined cs))) (sym h.0)
      ∙ ap (λ (l : List ℕ). chunks R (length cs) l) (drop-append_seam c (joined cs)) ∙ joined-chunks cs h.1)

  pub get_d_chunks : (n i : ℕ) (t : List ℕ) → i < n → get_or (chunks R n t) i [] ≡ take R (drop (i * R) t)
  get_d_chunks zero i t h = absurd (not-suc-le-zero h)
  get_d_chunks (suc n) zero t h = sym (ap (λ (k : ℕ). take R (drop k t)) (zero-mul R))
  get_d_chunks (suc n) (suc i) t h =
      get_d_chunks n i (drop R t) (le_of_suc-le-suc h)
      ∙ ap (λ (l : List ℕ). take R l) (drop-drop (i * R) R t ∙ ap (λ (k : ℕ). drop k t) (add_comm R (i * R) ∙ sym (suc-mul i R)))
