-- Lines of text, as bytes: "every line ends in one line feed".
use Rattle.std.specs.Prelude.{ℕ, cond, List, [], ◌∷◌, ◌++◌, eqb}
use Prim.Native.String.{String}
use Rattle.decimals.specs.Text.{bytes_of}
use Rattle.decimals.specs.Worded.{newline}

-- a text and a line feed
unfoldable pub line : String → List ℕ
line s = bytes_of s ++ newline

-- what stands before the first line feed, and that
unfoldable pub first_line : List ℕ → List ℕ
first_line [] = []
first_line (b ∷ bs) = b ∷ cond (eqb b 10) [] (first_line bs)
