-- The plan as a drawing in Graphviz's language, in ASCII; every line ends in one line feed, and names are quoted, since a name may open with
-- a digit or be a keyword.
use Rattle.std.specs.Prelude.{ℕ, cond, List, [], ◌∷◌, ◌++◌, eqb, get_or}
use Rattle.format.specs.Names.{unpadded}
use Rattle.lists.specs.Tables.{concat_below}
use Rattle.policy_file.specs.File.{name_of, count_of}
use Rattle.trees.specs.Trees.{top}
use Rattle.plan_answers.specs.Planned.{plan_of}
use Rattle.plan_answers.specs.declared.Plan.{Plan}
use Rattle.decimals.specs.Decimal.{decimal}
use Rattle.decimals.specs.Worded.{space}

-- `digraph plan {`, `  node [shape=box];`: the first two lines
abbrev pub header : List ℕ
header =
    100 ∷ 105 ∷ 103 ∷ 114 ∷ 97 ∷ 112 ∷ 104 ∷ 32 ∷ 112 ∷ 108 ∷ 97 ∷ 110 ∷ 32 ∷ 123 ∷ 10
    ∷ 32 ∷ 32 ∷ 110 ∷ 111 ∷ 100 ∷ 101 ∷ 32 ∷ 91 ∷ 115 ∷ 104 ∷ 97 ∷ 112 ∷ 101 ∷ 61 ∷ 98 ∷ 111 ∷ 120 ∷ 93 ∷ 59 ∷ 10 ∷ []

-- `  "`
abbrev pub quote_open : List ℕ
quote_open = 32 ∷ 32 ∷ 34 ∷ []

-- `" [label="`
abbrev pub labelled : List ℕ
labelled = 34 ∷ 32 ∷ 91 ∷ 108 ∷ 97 ∷ 98 ∷ 101 ∷ 108 ∷ 61 ∷ 34 ∷ []

-- `" -> "`
abbrev pub arrow : List ℕ
arrow = 34 ∷ 32 ∷ 45 ∷ 62 ∷ 32 ∷ 34 ∷ []

-- `"];`, at a line's end
abbrev pub node_end : List ℕ
node_end = 34 ∷ 93 ∷ 59 ∷ 10 ∷ []

-- `";`, at a line's end
abbrev pub edge_end : List ℕ
edge_end = 34 ∷ 59 ∷ 10 ∷ []

-- `\naccounts`: backslash and n part the lines of a label
abbrev pub accounts_word : List ℕ
accounts_word = 92 ∷ 110 ∷ 97 ∷ 99 ∷ 99 ∷ 111 ∷ 117 ∷ 110 ∷ 116 ∷ 115 ∷ []

-- `\nweight`
abbrev pub weight_word : List ℕ
weight_word = 92 ∷ 110 ∷ 119 ∷ 101 ∷ 105 ∷ 103 ∷ 104 ∷ 116 ∷ []

-- `\nkeys`
abbrev pub keys_word : List ℕ
keys_word = 92 ∷ 110 ∷ 107 ∷ 101 ∷ 121 ∷ 115 ∷ []

-- `  label="TOTAL`
abbrev pub total_label : List ℕ
total_label = 32 ∷ 32 ∷ 108 ∷ 97 ∷ 98 ∷ 101 ∷ 108 ∷ 61 ∷ 34 ∷ 84 ∷ 79 ∷ 84 ∷ 65 ∷ 76 ∷ []

-- `";` and the last line, `}`
abbrev pub drawing_end : List ℕ
drawing_end = 34 ∷ 59 ∷ 10 ∷ 125 ∷ 10 ∷ []

-- two names with a sign between them: `  "SUITE" -> "CURVES`
unfoldable pub between : List ℕ → (a : ℕ) → (sign : List ℕ) → (b : ℕ) → List ℕ
between file a sign b = quote_open ++ unpadded (name_of file a) ++ sign ++ unpadded (name_of file b)

-- a word, a space and a number
unfoldable pub field : List ℕ → ℕ → List ℕ
field word x = word ++ (space ++ decimal x)

-- a label's accounts, its weight and the keys held by one account
unfoldable pub fields : (count weight size : ℕ) → List ℕ
fields count weight size = field accounts_word count ++ field weight_word weight ++ field keys_word size

-- the box of a label: `  "CURVES" [label="CURVES\naccounts 3\nweight 3\nkeys 2"];`
unfoldable pub node : List ℕ → Plan → ℕ → List ℕ
node file plan m = between file m labelled m ++ fields (count_of file m) (get_or plan.weights m 0) (get_or plan.sizes m 0) ++ node_end

-- the arrow from its parent, none for the top: `  "SUITE" -> "CURVES";`
unfoldable pub edge : List ℕ → Plan → ℕ → List ℕ
edge file plan m = cond (eqb m top) [] (between file (get_or plan.parents m 0) arrow m ++ edge_end)

-- what is drawn of a label
unfoldable pub drawn : List ℕ → Plan → ℕ → List ℕ
drawn file plan m = node file plan m ++ edge file plan m

-- the total below the drawing, and its end
unfoldable pub ending : Plan → List ℕ
ending plan = field total_label plan.total ++ drawing_end

-- the drawing of a file and its plan
unfoldable pub drawing : List ℕ → Plan → List ℕ
drawing file plan = header ++ concat_below (drawn file plan) plan.labels ++ ending plan

-- the drawing of an accepted policy file
unfoldable pub dot_text : List ℕ → List ℕ
dot_text file = drawing file (plan_of file)
