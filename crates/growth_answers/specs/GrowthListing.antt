-- What one more account costs, as text in ASCII: one line a label, in the form of 01's plan: "one space parts the fields, and every line ends in one
-- line feed".
use Rattle.std.specs.Prelude.{ℕ, Bool, cond, List, ◌++◌, get_or}
use Rattle.decimals.specs.Decimal.{decimal}
use Rattle.decimals.specs.Worded.{space, newline}
use Rattle.format.specs.Names.{unpadded}
use Rattle.lists.specs.Tables.{concat_below}
use Rattle.plan_texts.specs.Listing.{dash}
use Rattle.policy_file.specs.File.{name_of, count_of}
use Rattle.growth_answers.specs.Growing.{has_room, growth_of}
use Rattle.growth_answers.specs.declared.Growth.{Growth}

-- two fields, each after a space
abbrev pub two_fields : List ℕ → List ℕ → List ℕ
two_fields a b = (space ++ a) ++ (space ++ b)

-- what one account more costs and the ceiling of that; `-` for each where the label has no room for it
unfoldable pub figures : (room : Bool) (cost ceiling : ℕ) → List ℕ
figures room cost ceiling = cond room (two_fields (decimal cost) (decimal ceiling)) (two_fields dash dash)

-- a label's line: its name without padding, then the two, as in `CURVES 2 2`
unfoldable pub growth_line : List ℕ → Growth → ℕ → List ℕ
growth_line file growth m =
    unpadded (name_of file m)
    ++ figures (has_room (count_of file) m) (get_or growth.costs m 0) (get_or growth.ceilings m 0)
    ++ newline

-- the lines of the first n labels
abbrev pub growth_lines : List ℕ → Growth → ℕ → List ℕ
growth_lines file growth n = concat_below (growth_line file growth) n

-- the text of an accepted policy file
unfoldable pub growth_text : List ℕ → List ℕ
growth_text file = growth_lines file (growth_of file) (growth_of file).labels
