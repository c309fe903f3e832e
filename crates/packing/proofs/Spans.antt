-- The layout of 192 bits and the three words of 64 are the same record: a number cut by two lists of widths in a row is cut word by word.
-- Assumes nothing.
use mathlib.Core.Path.{◌≡◌, refl, sym, ap, ◌∙◌}
use mathlib.Core.List.{List, [], ◌∷◌, ◌++◌}
use Prim.Native.Nat.{ℕ, ◌+◌, ◌*◌, ◌/◌, ◌%◌, ◌^◌, ◌<◌}
use native.Mathlib.Nat.{add_assoc, add_comm, add-mul, add-zero, zero-add, mul_assoc, mul-one, mul-add-mod_self_right, div-one, div-add-mod'}
use lib.ListN.{get_or}
use lib.Pow.{pow-add, high, field, shr-shr, mod-pow-add}
use Rattle.octets.specs.Fields.{total, cut, join}
use Rattle.model.specs.declared.Event.{Event}
use Rattle.packing.specs.Layout.{widths, fields_of, event_of}
use Rattle.packing.specs.InWords.{first_widths, second_widths, third_widths, whole, event_of_words, words, Packed}

-- ---- two lists of widths in a row

-- the low bits do not see what stands above them
low_bits : (h l i j : ℕ) → (h * 2 ^ (i + j) + l) % 2 ^ j ≡ l % 2 ^ j
low_bits h l i j =
    ap (λ (m : ℕ). (h * m + l) % 2 ^ j) (pow-add 2 i j)
    ∙ ap (λ (m : ℕ). (m + l) % 2 ^ j) (sym (mul_assoc h (2 ^ i) (2 ^ j)))
    ∙ mul-add-mod_self_right (h * 2 ^ i) (2 ^ j) l

low_field : (h l i j k : ℕ) → (h * 2 ^ (i + (j + k)) + l) / 2 ^ k % 2 ^ j ≡ l / 2 ^ k % 2 ^ j
low_field h l i j k =
    sym (field (h * 2 ^ (i + (j + k)) + l) j k)
    ∙ ap (λ (m : ℕ). m / 2 ^ k) (low_bits h l i (j + k))
    ∙ field l j k

cut_low : (vs : List ℕ) (h l i : ℕ) → cut vs (h * 2 ^ (i + total vs) + l) ≡ cut vs l
cut_low [] h l i = refl
cut_low (v ∷ vs) h l i =
    ap (λ (f : ℕ). f ∷ cut vs (h * 2 ^ (i + (v + total vs)) + l)) (low_field h l i v (total vs))
    ∙ ap (λ (k : ℕ). l / 2 ^ total vs % 2 ^ v ∷ cut vs (h * 2 ^ k + l)) (sym (add_assoc i v (total vs)))
    ∙ ap (λ (fs : List ℕ). l / 2 ^ total vs % 2 ^ v ∷ fs) (cut_low vs h l (i + v))

total-append : (ws vs : List ℕ) → total (ws ++ vs) ≡ total ws + total vs
total-append [] vs = sym (zero-add (total vs))
total-append (w ∷ ws) vs = ap (λ (k : ℕ). w + k) (total-append ws vs) ∙ sym (add_assoc w (total ws) (total vs))

cut_high : (ws vs : List ℕ) (a b : ℕ) → b < 2 ^ total vs → cut (ws ++ vs) (a * 2 ^ total vs + b) ≡ cut ws a ++ cut vs (a * 2 ^ total vs + b)
cut_high [] vs a b h = refl
cut_high (w ∷ ws) vs a b h =
    let n : ℕ = a * 2 ^ total vs + b in
    ap (λ (k : ℕ). n / 2 ^ k % 2 ^ w ∷ cut (ws ++ vs) n) (total-append ws vs ∙ add_comm (total ws) (total vs))
    ∙ ap (λ (m : ℕ). m % 2 ^ w ∷ cut (ws ++ vs) n)
    (sym (shr-shr n (total vs) (total ws)) ∙ ap (λ (m : ℕ). m / 2 ^ total ws) (high a (total vs) h))
    ∙ ap (λ (fs : List ℕ). a / 2 ^ total ws % 2 ^ w ∷ fs) (cut_high ws vs a b h)

pub cut-append : (ws vs : List ℕ) (a b : ℕ) → b < 2 ^ total vs → cut (ws ++ vs) (a * 2 ^ total vs + b) ≡ cut ws a ++ cut vs b
cut-append ws vs a b h =
    cut_high ws vs a b h
    ∙ ap (λ (fs : List ℕ). cut ws a ++ fs) (ap (λ (k : ℕ). cut vs (a * 2 ^ k + b)) (sym (zero-add (total vs))) ∙ cut_low vs a b 0)

-- ---- the record

-- the record's widths with the time in its two parts
abbrev parts : List ℕ
parts = first_widths ++ second_widths ++ third_widths

parts_cut : (a b c : ℕ) → b < 2 ^ 64 → c < 2 ^ 64
    → cut parts (words a b c) ≡ (cut first_widths a ++ cut second_widths b) ++ cut third_widths c
parts_cut a b c hb hc =
    cut-append (first_widths ++ second_widths) third_widths (a * 2 ^ 64 + b) c hc
    ∙ ap (λ (fs : List ℕ). fs ++ cut third_widths c) (cut-append first_widths second_widths a b hb)

time_parts : (n : ℕ) → n / 2 ^ 46 % 2 ^ 32 ≡ n / 2 ^ 64 % 2 ^ 14 * 2 ^ 18 + n / 2 ^ 46 % 2 ^ 18
time_parts n =
    mod-pow-add (n / 2 ^ 46) 14 18 ∙ ap (λ (m : ℕ). m % 2 ^ 14 * 2 ^ 18 + n / 2 ^ 46 % 2 ^ 18) (shr-shr n 46 18)

-- READING: the fields of the 192 bits are those of the words
pub event_in_words : (a b c : ℕ) → b < 2 ^ 64 → c < 2 ^ 64 → event_of (cut widths (words a b c)) ≡ event_of_words a b c
event_in_words a b c hb hc = rw (time_parts (words a b c)) (ap (λ (fs : List ℕ). event_of (whole fs)) (parts_cut a b c hb hc))

pub spare_in_words : (a b c : ℕ) → b < 2 ^ 64 → c < 2 ^ 64 → get_or (cut widths (words a b c)) 11 0 ≡ c % 2 ^ 13
spare_in_words a b c hb hc =
    ap (λ (fs : List ℕ). get_or fs 12 0) (parts_cut a b c hb hc) ∙ ap (λ (m : ℕ). m % 2 ^ 13) (div-one c)

-- WRITING: the words of the fields are the number of 192 bits
joined : (k s o m c t l v h w d y : ℕ)
    → words (join first_widths (k ∷ s ∷ o ∷ m ∷ c ∷ t ∷ [])) (join second_widths (l ∷ v ∷ h ∷ [])) (join third_widths (w ∷ d ∷ y ∷ 0 ∷ []))
    ≡ join widths (k ∷ s ∷ o ∷ m ∷ c ∷ t ∷ l ∷ v ∷ (h * 2 ^ 18 + w) ∷ d ∷ y ∷ 0 ∷ [])
joined k s o m c t l v h w d y = simp (add-mul, mul_assoc, add_assoc, add-zero, mul-one)

pub packed_joined : (e : Event) (a b c : ℕ) → Packed e a b c → words a b c ≡ join widths (fields_of e)
packed_joined e a b c p =
    rw (p.first, p.second, p.third)
    (joined e.kind e.sender e.other e.mark e.cause e.tn.0 e.lrn.0 e.version (e.time / 2 ^ 18)
    (e.time % 2 ^ 18) e.due e.within
    ∙ ap
    (λ (t : ℕ). join widths (e.kind ∷ e.sender ∷ e.other ∷ e.mark ∷ e.cause ∷ e.tn.0 ∷ e.lrn.0 ∷ e.version ∷ t ∷ e.due
    ∷ e.within ∷ 0 ∷ []))
    (div-add-mod' e.time (2 ^ 18)))
