-- Demand 3, sentence by sentence. What is meant by tree, sufficient set, assignment, keys and fewest stands in the trees crate's specs/Trees.antt
-- and uses the policy's records alone; weight, smallest set and total stand in its specs/Weights.antt; what `plan_policy` and `weigh` answer, in
-- the plan_answers crate's specs/.
use Rattle.std.specs.Prelude.{ℕ, ◌+◌, ◌≤◌, ◌<◌, true, ◌↔◌, ◌≢◌, ◌≡◌, length}
use mathlib.Core.List.{List, Memᴰ}
use Rattle.plan_answers.specs.Planned.{plan_of, at_or_below}
use Rattle.plan_answers.specs.TreeFile.{parent_in}
use Rattle.plan_answers.specs.TreeRows.{GivesTree}
use Rattle.plan_answers.specs.Weighing.{weigh_of}
use Rattle.policy_file.specs.File.{count_of}
use Rattle.policy_file.specs.Whole.{label_count}
use Rattle.trees.specs.Accounts.{OpensBut, NumberOf}
use Rattle.trees.specs.Sums.{sum}
use Rattle.trees.specs.Trees.{top, Covers, Assignment, keys, Fewest}
use Rattle.trees.specs.Weights.{weight, total, weights, LeastWeight, HangsLeast, Preferred}
use Rattle.weights.specs.Tables.{entries}
use Rattle.claims.specs.Published.{R, TreeOf, SufficientFor, smallest_set, Published}

-- 01: "Total: for each label, accounts times size of the smallest set, summed."
abbrev pub total_of : List ℕ → (ℕ → ℕ) → ℕ
total_of file parent = total (label_count file) (count_of file) (at_or_below file) parent

-- "the fewest keys issued under any derivation tree of the policy, with any sets that open exactly what is licensed": some tree and sets need
-- k keys, and none fewer
abbrev pub FewestOf : List ℕ → ℕ → Type 0
FewestOf file k = Fewest (label_count file) (count_of file) (R file) k

-- "every label under the top hangs from a parent of least weight among the labels above it"
abbrev pub HangsSo : List ℕ → (ℕ → ℕ) → Type 0
HangsSo file parent = HangsLeast (label_count file) (count_of file) (R file) (at_or_below file) parent

-- the two totals, for a derivation tree of the policy
pub record OfTree (file : List ℕ) (parent : ℕ → ℕ) : Type 0 where
  -- "the keys issued under that tree, each account holding its smallest sufficient set"
  pub assigned : Assignment (label_count file) (count_of file) (R file) parent (λ l a. smallest_set file parent l)
  pub issues : keys (label_count file) (count_of file) (λ l a. smallest_set file parent l) ≡ total_of file parent
  -- "its smallest sufficient set": it is sufficient, lies in every sufficient set, and none is shorter; so under this tree no sets need fewer keys
  pub sufficient : (l : ℕ) → l < label_count file → SufficientFor file parent l (smallest_set file parent l)
  pub within : (l : ℕ) → l < label_count file → (set : List ℕ) → SufficientFor file parent l set
      → (m : ℕ) → Memᴰ m (smallest_set file parent l) → Memᴰ m set
  pub shortest : (l : ℕ) → l < label_count file → (set : List ℕ) → SufficientFor file parent l set → length (smallest_set file parent l) ≤ length set
  pub needed : (sets : ℕ → ℕ → List ℕ) → Assignment (label_count file) (count_of file) (R file) parent sets → total_of file parent ≤ keys (label_count file) (count_of file) sets
  -- "They are equal exactly when every label under the top hangs from a parent of least weight among the labels above it.": this total, and the
  -- number k that is the fewest
  pub equals : (k : ℕ) → FewestOf file k → (total_of file parent ≡ k) ↔ HangsSo file parent
  -- 01: "It equals the top's accounts plus the weights of all chosen parents."
  pub weighs : total_of file parent ≡ count_of file top + weights (label_count file) (count_of file) (at_or_below file) parent

-- the plan, as `plan_policy` answers it
pub record OfPlan (file : List ℕ) : Type 0 where
  -- "The plan's own tree is a derivation tree of the policy that hangs so"
  pub tree : TreeOf file (entries (plan_of file).parents)
  pub hangs : HangsSo file (entries (plan_of file).parents)
  -- "and the total answered with it is the fewest"
  pub fewest : FewestOf file (plan_of file).total
  pub total : (plan_of file).total ≡ total_of file (entries (plan_of file).parents)
  -- 02, Ask 1: "Of several parents of least weight the plan shall take the one with the highest number"
  pub highest : (m : ℕ) → m < label_count file → m ≢ top → (p : ℕ) → LeastWeight (label_count file) (count_of file) (R file) (at_or_below file) p m → Preferred (entries (plan_of file).parents m) p
  -- 02, Ask 1: "Every chosen parent then covers its child: no label lies between them" (003: Corollary 4)
  pub covers : (m : ℕ) → m < label_count file → m ≢ top → Covers (label_count file) (R file) (entries (plan_of file).parents m) m
  -- the other tables: each parent's weight (for the top its accounts), and the size of each label's smallest set
  pub weights : (m : ℕ) → m < label_count file → m ≢ top
      → entries (plan_of file).weights m ≡ weight (label_count file) (count_of file) (at_or_below file) (entries (plan_of file).parents m) m
  pub top_weight : entries (plan_of file).weights top ≡ count_of file top
  pub sizes : (l : ℕ) → l < label_count file → entries (plan_of file).sizes l ≡ length (smallest_set file (entries (plan_of file).parents) l)
  -- 01: "It equals the top's accounts plus the weights of all chosen parents.", as the answer has them
  pub sums : (plan_of file).total ≡ sum (entries (plan_of file).weights) (label_count file)

-- an offered tree, as `weigh` answers it
pub record OfOffer (file tree : List ℕ) : Type 0 where
  -- "An offered tree that is read": it has its form and gives a derivation tree
  pub read : ((weigh_of file tree).refusal ≡ 0) ↔ GivesTree (label_count file) (R file) tree
  -- "gets the first total as its answer"
  pub total : (weigh_of file tree).refusal ≡ 0 → (weigh_of file tree).total ≡ total_of file (parent_in tree)
  -- "and a yes exactly when the two are equal": the first total and the fewest, which is the plan's total
  pub yes : (weigh_of file tree).refusal ≡ 0 → (k : ℕ) → FewestOf file k → ((weigh_of file tree).least ≡ true) ↔ ((weigh_of file tree).total ≡ k)
  pub yes_equal : (weigh_of file tree).refusal ≡ 0 → ((weigh_of file tree).least ≡ true) ↔ ((weigh_of file tree).total ≡ (plan_of file).total)
  -- 01: "yes exactly when no derivation tree of the policy has a smaller total"
  pub yes_smallest : (weigh_of file tree).refusal ≡ 0
      → ((weigh_of file tree).least ≡ true) ↔ ((parent : ℕ → ℕ) → TreeOf file parent → (weigh_of file tree).total ≤ total_of file parent)

pub record Demand3 (file : List ℕ) : Type 0 where
  pub published : Published file
  -- "For every accepted policy and every derivation tree of it there are two totals: the keys issued under that tree, each account holding its
  -- smallest sufficient set, and the fewest keys issued under any derivation tree of the policy, with any sets that open exactly what is licensed.
  -- They are equal exactly when every label under the top hangs from a parent of least weight among the labels above it."
  pub trees : (parent : ℕ → ℕ) → TreeOf file parent → OfTree file parent
  -- the second of the two, the fewest, is one number
  pub some : (k : ℕ) × FewestOf file k
  pub one : (j k : ℕ) → FewestOf file j → FewestOf file k → j ≡ k
  -- "The plan's own tree is a derivation tree of the policy that hangs so, and the total answered with it is the fewest."
  pub plan : OfPlan file
  -- "An offered tree that is read gets the first total as its answer, and a yes exactly when the two are equal."
  pub offers : (tree : List ℕ) → OfOffer file tree
  -- "A parent's weight is the number of accounts that may open the lower label but not the parent.": the length of a list of exactly these
  -- accounts, each once
  pub weight_accounts : (p m : ℕ) → p < label_count file → m < label_count file → (k : ℕ)
      → NumberOf (OpensBut (label_count file) (count_of file) (R file) p m) k ↔ (k ≡ weight (label_count file) (count_of file) (at_or_below file) p m)
