-- The parts that `as_chunks` cuts a list into.
use mathlib.Core.Path.{◌≡◌, ◌∙◌}
use mathlib.Core.List.{List, []}
use Prim.Native.Nat.{ℕ, zero, suc, ◌+◌, ◌*◌, ◌<◌}
use native.Mathlib.Nat.{mul-zero}
use native.Mathlib.Omega.{arith}
use lib.ListN.{get_or, take, drop}
use lib.Seq.{drop-drop}
use Rattle.std.specs.Simd.{first_chunks}

-- part number i has the n elements from n * i on
pub chunk_at : (n count : ℕ) (s : List ℕ) (i : ℕ) → i < count → get_or (first_chunks n count s) i [] ≡ take n (drop (n * i) s)
chunk_at n zero s i h = absurd (omega arith)
chunk_at n (suc count) s zero h = rw mul-zero
chunk_at n (suc count) s (suc i) h =
    let e : n + n * i ≡ n * suc i = omega arith in
    chunk_at n count (drop n s) i (omega arith) ∙ rw (drop-drop (n * i) n s, e)
