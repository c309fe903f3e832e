-- Laws of big-endian numbers, each over the width n.
-- Assumes nothing.
use mathlib.Core.Path.{◌≡◌, refl, sym, ap, ◌∙◌}
use mathlib.Core.List.{List, [], ◌∷◌, ◌++◌, append_assoc, append-nil}
use Prim.Native.Nat.{ℕ, zero, suc, ◌+◌, ◌*◌, ◌/◌, ◌%◌, ◌^◌, ◌<◌, ◌≤◌}
use native.Mathlib.Nat.{add-zero, add-suc, pow-suc, mod-lt, lt_of_lt_of_le, zero-lt-suc, pow-le-pow_right, mul-one}
use native.Mathlib.Nat.{add-mul, mul_assoc, add_assoc, div-lt_iff_lt-mul}
use native.Mathlib.Omega.{arith}
use lib.ListN.{length, get_or, take, drop, length-append, length-drop}
use lib.Seq.{take-suc, get_or_at, get_or-drop, take_at, drop-append-add}
use lib.Arith.{digits_lt, digits_div, digits_mod, mod-mul}
use Rattle.octets.specs.Octets.{Bytes, be, digits, put}

-- n bytes are below 256 ^ n
pub be_lt : (xs : List ℕ) → Bytes xs → (n at : ℕ) → be n xs at < 256 ^ n
unfolding be
be_lt xs h zero at = zero-lt-suc 0
be_lt xs h (suc n) at = rw pow-suc (digits_lt (be_lt xs h n at) (h (at + n)))

-- as many bytes as the width
pub length_digits : (n v : ℕ) → length (digits n v) ≡ n
unfolding digits
length_digits zero v = refl
length_digits (suc n) v = length-append (digits n (v / 256)) (v % 256 ∷ []) ∙ ap (λ (k : ℕ). k + 1) (length_digits n (v / 256))
    ∙ add-suc n 0 ∙ ap suc (add-zero n)

pow_positive : (n : ℕ) → zero < 256 ^ n
pow_positive zero = zero-lt-suc 0
pow_positive (suc n) = rw pow-suc (omega (arith, pow_positive n))

regroup : (p d : List ℕ) (b : ℕ) (q : List ℕ) → p ++ (d ++ (b ∷ [])) ++ q ≡ p ++ d ++ b ∷ q
regroup p d b q = simp append_assoc

-- WRITE, THEN READ: the bytes of v behind anything read as v, up to the width
pub be-digits : (n v : ℕ) (p q : List ℕ) → be n (p ++ digits n v ++ q) (length p) ≡ v % 256 ^ n
unfolding be digits
be-digits zero v p q = omega arith
be-digits (suc n) v p q =
    let d : List ℕ = digits n (v / 256) in
    let b : ℕ = v % 256 in
    ap (λ (l : List ℕ). be n l (length p) * 256 + get_or l (length p + n) 0) (regroup p d b q)
    ∙ ap (λ (k : ℕ). k * 256 + get_or (p ++ d ++ b ∷ q) (length p + n) 0) (be-digits n (v / 256) p (b ∷ q))
    ∙ ap (λ (k : ℕ). v / 256 % 256 ^ n * 256 + k)
    (get_or_at (p ++ d) b q 0 (length p + n) (length-append p d ∙ ap (λ (k : ℕ). length p + k) (length_digits n (v / 256))))
    ∙ sym (mod-mul v (pow_positive n) (zero-lt-suc 255))
    ∙ ap (λ (k : ℕ). v % k) (sym (pow-suc 256 n))

-- READ, THEN WRITE: the bytes of what was read are the bytes that were there
pub digits-be : (xs : List ℕ) → Bytes xs → (n at : ℕ) → at + n ≤ length xs → digits n (be n xs at) ≡ take n (drop at xs)
unfolding be digits
digits-be xs h zero at l = refl
digits-be xs h (suc n) at l =
    let q : ℕ = be n xs at in
    let b : ℕ = get_or xs (at + n) 0 in
    let r : at + n ≤ length xs = omega arith in
    let m : n < length (drop at xs) = simp length-drop (omega arith) in
    ap (λ (k : ℕ). digits n k ++ ((q * 256 + b) % 256 ∷ [])) (digits_div q (h (at + n)))
    ∙ ap (λ (k : ℕ). digits n q ++ (k ∷ [])) (digits_mod q (h (at + n)))
    ∙ ap (λ (l : List ℕ). l ++ (b ∷ [])) (digits-be xs h n at r)
    ∙ ap (λ (k : ℕ). take n (drop at xs) ++ (k ∷ [])) (sym (get_or-drop at xs n 0))
    ∙ sym (take-suc (drop at xs) n 0 m)

-- up to 8 bytes fit a u64
pub be_word : (xs : List ℕ) → Bytes xs → (n at : ℕ) → n ≤ 8 → be n xs at < 2 ^ 64
be_word xs h n at l = lt_of_lt_of_le (be_lt xs h n at) (pow-le-pow_right (zero-lt-suc 255) l)

-- ---- words side by side

pub be_add : (xs : List ℕ) (m n at : ℕ) → be (m + n) xs at ≡ be m xs at * 256 ^ n + be n xs (at + m)
unfolding be
be_add xs m zero at = simp (add-zero, mul-one)
be_add xs m (suc n) at =
    ap (λ (k : ℕ). be k xs at) (add-suc m n)
    ∙ ap (λ (k : ℕ). k * 256 + get_or xs (at + (m + n)) 0) (be_add xs m n at)
    ∙ simp (add-mul, mul_assoc, pow-suc, add_assoc)

div_small : (n b : ℕ) → b < 256 ^ suc n → b / 256 < 256 ^ n
div_small n b h = (div-lt_iff_lt-mul (zero-lt-suc 255)).1 (rw pow-suc at h)

pub digits_add : (m n a b : ℕ) → b < 256 ^ n → digits (m + n) (a * 256 ^ n + b) ≡ digits m a ++ digits n b
unfolding digits
digits_add m zero a b h =
    let z : b ≡ 0 = omega arith in
    simp (z, add-zero, mul-one, append-nil)
digits_add m (suc n) a b h =
    let q : ℕ = a * 256 ^ n + b / 256 in
    let r : b % 256 < 256 = mod-lt b (zero-lt-suc 255) in
    let p : a * 256 ^ suc n ≡ a * 256 ^ n * 256 = ap (λ (k : ℕ). a * k) (pow-suc 256 n) ∙ sym (mul_assoc a (256 ^ n) 256) in
    let e : a * 256 ^ suc n + b ≡ q * 256 + b % 256 = omega arith in
    ap (λ (k : ℕ). digits k (a * 256 ^ suc n + b)) (add-suc m n)
    ∙ ap (λ (k : ℕ). digits (m + n) (k / 256) ++ (k % 256 ∷ [])) e
    ∙ ap (λ (k : ℕ). digits (m + n) k ++ ((q * 256 + b % 256) % 256 ∷ [])) (digits_div q r)
    ∙ ap (λ (k : ℕ). digits (m + n) q ++ (k ∷ [])) (digits_mod q r)
    ∙ ap (λ (l : List ℕ). l ++ (b % 256 ∷ [])) (digits_add m n a (b / 256) (div_small n b h))
    ∙ append_assoc (digits m a) (digits n (b / 256)) (b % 256 ∷ [])

pub put_after : (p r : List ℕ) (n at v : ℕ) → length p ≡ at → put n (p ++ r) at v ≡ p ++ digits n v ++ drop n r
unfolding put
put_after p r n at v e =
    ap (λ (l : List ℕ). l ++ digits n v ++ drop (at + n) (p ++ r)) (take_at p r at e)
    ∙ ap (λ (l : List ℕ). p ++ digits n v ++ l) (ap (λ (k : ℕ). drop (k + n) (p ++ r)) (sym e) ∙ drop-append-add p r n)

bytes_append : (xs ys : List ℕ) → Bytes xs → Bytes ys → Bytes (xs ++ ys)
bytes_append [] ys h k i = k i
bytes_append (x ∷ xs) ys h k zero = h 0
bytes_append (x ∷ xs) ys h k (suc i) = bytes_append xs ys (λ j. h (suc j)) k i

one_byte : (b : ℕ) → b < 256 → Bytes (b ∷ [])
one_byte b h zero = h
one_byte b h (suc i) = zero-lt-suc 255

-- the digits are bytes
pub bytes_digits : (n v : ℕ) → Bytes (digits n v)
unfolding digits
bytes_digits zero v i = zero-lt-suc 255
bytes_digits (suc n) v i =
    bytes_append (digits n (v / 256)) (v % 256 ∷ []) (bytes_digits n (v / 256)) (one_byte (v % 256) (mod-lt v (zero-lt-suc 255))) i
