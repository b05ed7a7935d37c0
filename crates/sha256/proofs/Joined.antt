-- The bytes of a hash value: their number, and one turn of the loop that writes them.
use mathlib.Core.Path.{◌≡◌, refl, sym}
use mathlib.Core.List.{List}
use Prim.Native.Nat.{ℕ, zero, suc, ◌+◌, ◌*◌, ◌<◌}
use native.Mathlib.Numerals.{add-one}
use native.Mathlib.Omega.{arith}
use lib.ListN.{length, get_or, length-append}
use Rattle.lists.specs.Buffer.{pasted, zero_filled}
use Rattle.padding.specs.Padding.{word_bytes}
use Rattle.padding.proofs.Padding.{word_bytes_length}
use Rattle.sha256.specs.Sha256.{joined}
use Rattle.lists.proofs.Pasted.{pasted_next}

pub joined_length : (h : List ℕ) (n : ℕ) → length (joined h n) ≡ 4 * n
unfolding joined
joined_length h zero = refl
joined_length h (suc i) =
    omega (arith, length-append (joined h i) (word_bytes (get_or h i 0)), word_bytes_length (get_or h i 0), joined_length h i)

pub joined_turn : (h out : List ℕ) (i : ℕ) → i < 8 → out ≡ zero_filled 32 (joined h i)
    → pasted out (4 * i) (word_bytes (get_or h i 0)) ≡ zero_filled 32 (joined h (i + 1))
unfolding joined
joined_turn h out i l e =
    rw (e, add-one)
    (pasted_next 32 (joined h i) (word_bytes (get_or h i 0)) (4 * i) (sym (joined_length h i)) (omega (arith, word_bytes_length (get_or h i 0))))
