-- What `--version` prints.
use Rattle.std.specs.Prelude.{ℕ, List, ◌++◌}
use Rattle.decimals.specs.Worded.{space, newline}

-- the program's name and the version
abbrev pub version_line : (program version : List ℕ) → List ℕ
version_line program version = ((program ++ space) ++ version) ++ newline
