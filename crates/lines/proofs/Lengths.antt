-- How long a line of hexadecimal digits is.
use Prim.Native.Nat.{ℕ, ◌+◌, ◌*◌}
use mathlib.Core.List.{List}
use mathlib.Core.Path.{◌≡◌}
use native.Mathlib.Omega.{arith}
use lib.ListN.{length, length-append}
use Rattle.hexadecimal.proofs.Hexadecimal.{hex_length}
use Rattle.hexadecimal.specs.Hex.{hex_of}
use Rattle.decimals.specs.Worded.{newline}
use Rattle.lines.specs.Lines.{hex_line}

pub hex_line_length : (bytes : List ℕ) → length (hex_line bytes) ≡ 2 * length bytes + 1
unfolding hex_line
hex_line_length bytes = omega (arith, hex_length bytes, length-append (hex_of bytes) newline)
