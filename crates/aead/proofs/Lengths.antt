-- The block of two lengths.
use Prim.Native.Nat.{ℕ}
use mathlib.Core.List.{List, ◌++◌}
use mathlib.Core.Path.{◌≡◌, ◌∙◌}
use lib.ListN.{take, drop, replicate}
use Rattle.std.specs.Int.{bytes_low_first}
use Rattle.little_endian.specs.LittleEndian.{little_bytes}
use Rattle.little_endian.proofs.LittleEndian.{little_bytes_of}

pub lengths_put : (a b : ℕ) {front back : List ℕ} → front ≡ bytes_low_first 0 8 a → back ≡ bytes_low_first 0 8 b
    → let d = front ++ drop 8 (replicate 16 0) in take 8 d ++ (back ++ drop 8 (drop 8 d)) ≡ little_bytes 8 a ++ little_bytes 8 b
unfolding little_bytes
lengths_put a b {front} {back} e f =
    let first : front ≡ little_bytes 8 a = e ∙ little_bytes_of 8 a in
    let second : back ≡ little_bytes 8 b = f ∙ little_bytes_of 8 b in
    rw (first, second)
