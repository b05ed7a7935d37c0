-- Hexadecimal digits in a buffer of their own, which has room for those of 32 bytes.
use Prim.Native.Nat.{ℕ, ◌*◌, ◌≤◌}
use mathlib.Core.List.{List}
use mathlib.Core.Path.{◌≡◌}
use native.Mathlib.Omega.{arith}
use lib.ListN.{length}
use Rattle.buffers.proofs.Handed.{handed_put}
use Rattle.buffers.specs.Handed.{handed, handed_into}
use Rattle.buffers.specs.Put.{Put}
use Rattle.buffers.specs.declared.Written.{Written}
use Rattle.hexadecimal.proofs.Hexadecimal.{hex_length}
use Rattle.hexadecimal.specs.Hex.{hex_of}

module _ (bytes out : List ℕ) (few : length bytes ≤ 32) (room : length out ≡ 64) {w : Written} {after : List ℕ}
    (e : w ≡ handed (hex_of bytes) (length out)) (f : after ≡ handed_into (hex_of bytes) out) where
  pub digits_put : Put out after 0 (hex_of bytes) w.length
  digits_put = handed_put (hex_of bytes) out (omega (arith, hex_length bytes)) e f

  pub digits_length : w.length ≡ 2 * length bytes
  digits_length = omega (arith, hex_length bytes, digits_put.behind)
