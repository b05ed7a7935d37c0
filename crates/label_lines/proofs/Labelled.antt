-- How long the lines of names are.
use Prim.Native.Nat.{ℕ, ◌*◌, ◌≤◌}
use mathlib.Core.List.{List}
use native.Mathlib.Omega.{arith}
use lib.ListN.{length, drop, length-append, length-take}
use Rattle.decimals.specs.Worded.{newline}
use Rattle.format.proofs.Padding.{unpadded_short}
use Rattle.format.specs.Bytes.{bytes_at}
use Rattle.format.specs.Names.{unpadded}
use Rattle.lists.proofs.Concat.{concat_short}
use Rattle.label_lines.specs.Labels.{name_line, name_lines}

module _ (names : List ℕ) where
  pub name_line_short : (k : ℕ) → length (name_line names k) ≤ 9
  unfolding name_line
  name_line_short k =
      let name = bytes_at names (8 * k) 8 in
      omega (arith, length-append (unpadded name) newline, unpadded_short name, length-take 8 (drop (8 * k) names))

  pub name_lines_short : (labels : ℕ) → length (name_lines names labels) ≤ 9 * labels
  unfolding name_lines
  name_lines_short labels = concat_short (name_line names) 9 name_line_short labels
