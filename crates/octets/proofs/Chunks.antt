-- The bytes of a chunk and the number that they are.
-- Assumes nothing.
use mathlib.Core.Path.{◌≡◌, ◌∙◌}
use mathlib.Core.List.{List}
use Prim.Native.Nat.{ℕ, ◌+◌, ◌-◌, ◌<◌, ◌≤◌}
use native.Mathlib.Nat.{div-div-eq-div-mul}
use native.Mathlib.Omega.{arith}
use lib.ListN.{length, get_or, take, drop}
use lib.Seq.{get_or-take, get_or-drop}
use Rattle.std.specs.Int.{w32, w64, from_be_bytes, to_be_bytes}
use Rattle.std.specs.Array.{IsWholeChunk}
use Rattle.octets.specs.Octets.{be, digits}

-- a byte of the n from at
chunk_at : (n at : ℕ) (xs ys : List ℕ) (i : ℕ) → at + n ≤ length xs → IsWholeChunk (take (at + n - at) (drop at xs)) ys n → i < n
    → get_or ys i 0 ≡ get_or xs (at + i) 0
chunk_at n at xs ys i h c l =
    rw c.same (get_or-take (at + n - at) (drop at xs) i 0 (omega arith) ∙ get_or-drop at xs i 0)

pub be_8 : (at : ℕ) (xs ys : List ℕ) → at + 8 ≤ length xs → IsWholeChunk (take (at + 8 - at) (drop at xs)) ys 8
    → from_be_bytes w64 ys ≡ be 8 xs at
unfolding be
be_8 at xs ys h c =
    let b = chunk_at 8 at xs ys in
    omega (
      arith,
      b 0 h c (omega arith),
      b 1 h c (omega arith),
      b 2 h c (omega arith),
      b 3 h c (omega arith),
      b 4 h c (omega arith),
      b 5 h c (omega arith),
      b 6 h c (omega arith),
      b 7 h c (omega arith),
    )

pub be_4 : (at : ℕ) (xs ys : List ℕ) → at + 4 ≤ length xs → IsWholeChunk (take (at + 4 - at) (drop at xs)) ys 4
    → from_be_bytes w32 ys ≡ be 4 xs at
unfolding be
be_4 at xs ys h c =
    let b = chunk_at 4 at xs ys in
    omega (arith, b 0 h c (omega arith), b 1 h c (omega arith), b 2 h c (omega arith), b 3 h c (omega arith))

pub bytes_8 : (v : ℕ) → to_be_bytes w64 v ≡ digits 8 v
unfolding digits
bytes_8 v = simp div-div-eq-div-mul
