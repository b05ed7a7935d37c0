-- The plan as text (01, "The plan program and its text"), in ASCII: "one space parts the fields, and every line ends in one line feed".
use Rattle.std.specs.Prelude.{ℕ, cond, List, [], ◌∷◌, ◌++◌, eqb, get_or}
use Rattle.format.specs.Names.{unpadded}
use Rattle.lists.specs.Tables.{concat_below}
use Rattle.policy_file.specs.File.{name_of, count_of}
use Rattle.trees.specs.Trees.{top}
use Rattle.plan_answers.specs.Planned.{plan_of}
use Rattle.plan_answers.specs.declared.Plan.{Plan}
use Rattle.decimals.specs.Decimal.{decimal}
use Rattle.decimals.specs.Worded.{space, newline, worded}

-- `-`
abbrev pub dash : List ℕ
dash = 45 ∷ []

-- `TOTAL`
abbrev pub total_word : List ℕ
total_word = 84 ∷ 79 ∷ 84 ∷ 65 ∷ 76 ∷ []

-- "parent's name (`-` for the top)"
unfoldable pub parent_name : List ℕ → Plan → ℕ → List ℕ
parent_name file plan m = cond (eqb m top) dash (unpadded (name_of file (get_or plan.parents m 0)))

-- the names of a label and its parent
unfoldable pub names : List ℕ → Plan → ℕ → List ℕ
names file plan m = unpadded (name_of file m) ++ space ++ parent_name file plan m

-- three numbers, each after a space
unfoldable pub numbers : (weight size count : ℕ) → List ℕ
numbers weight size count = (space ++ decimal weight) ++ (space ++ decimal size) ++ (space ++ decimal count)

-- "one line a label: name without padding, parent's name .., weight (for the top its accounts), keys held by one account, accounts"
unfoldable pub line : List ℕ → Plan → ℕ → List ℕ
line file plan m = names file plan m ++ numbers (get_or plan.weights m 0) (get_or plan.sizes m 0) (count_of file m) ++ newline

-- the lines of the first n labels
abbrev pub lines : List ℕ → Plan → ℕ → List ℕ
lines file plan n = concat_below (line file plan) n

-- "Last stands `TOTAL` and the total."
unfoldable pub last_line : Plan → List ℕ
last_line plan = worded total_word plan.total

-- the text of a file and its plan
unfoldable pub listing : List ℕ → Plan → List ℕ
listing file plan = lines file plan plan.labels ++ last_line plan

-- the text of an accepted policy file
unfoldable pub plan_text : List ℕ → List ℕ
plan_text file = listing file (plan_of file)
