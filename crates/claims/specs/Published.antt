-- "Licence order, tree weights, key sets .. are those of the published tree-based scheme": document 003's statements, by their names there, for
-- the labels of a policy file. Demands 2 and 3 both cite them. The words of 003 stand in the trees crate's specs/Published.antt.
use Rattle.std.specs.Prelude.{ℕ, ◌*◌, ◌<◌, true, not, ◌↔◌, ◌≢◌, ◌≡◌, eqb, length}
use mathlib.Core.List.{List, [], ◌∷◌, Memᴰ}
use Rattle.order.specs.Order.{AtOrBelow}
use Rattle.plan_answers.specs.Planned.{at_or_below}
use Rattle.policy_file.specs.File.{count_of}
use Rattle.policy_file.specs.Whole.{label_count, pairs_of}
use Rattle.trees.specs.Order.{Order}
use Rattle.trees.specs.Published.{Arc, Leads, Definition2}
use Rattle.trees.specs.Sums.{sum_where}
use Rattle.trees.specs.Trees.{top, Tree, Sufficient}
use Rattle.trees.specs.Weights.{weighed, weight, smallest, weights}

-- label m is at or below label l, as the `OV` records of the policy say it; `at_or_below` is what its table answers
abbrev pub R : List ℕ → ℕ → ℕ → Type 0
R file = AtOrBelow (pairs_of file)

-- 01: "A derivation tree gives each label but the top one parent strictly above it."
abbrev pub TreeOf : List ℕ → (ℕ → ℕ) → Type 0
TreeOf file parent = Tree (label_count file) (R file) parent

-- 01: "A sufficient set for a label is a set from which, going down the tree, exactly the labels at or below it are reached."
abbrev pub SufficientFor : List ℕ → (ℕ → ℕ) → ℕ → List ℕ → Type 0
SufficientFor file parent l set = Sufficient (label_count file) (R file) parent l set

-- 01: "The smallest set holds each label at or below it that is the top or whose parent is not at or below it."
abbrev pub smallest_set : List ℕ → (ℕ → ℕ) → ℕ → List ℕ
smallest_set file parent l = smallest (label_count file) (at_or_below file) parent l

-- document 003 on one derivation tree
pub record OfPublishedTree (file : List ℕ) (parent : ℕ → ℕ) : Type 0 where
  -- Definition 1: a spanning out-tree, each of whose arcs leads down in the order
  pub spans : (u : ℕ) → u < label_count file → Leads (label_count file) parent top u
  pub arcs : (y z : ℕ) → Arc (label_count file) parent y z → R file z y × (z ≢ y)
  -- Definition 2: the sets of a tree-based enforcement scheme are the sufficient ones
  pub definition2 : (x : ℕ) → x < label_count file → (set : List ℕ) → SufficientFor file parent x set ↔ Definition2 (label_count file) (R file) parent x set
  -- φ_E: {r} for the root r; for any other x those z to which an arc yz leads with z at or below x and y not
  pub phi_root : smallest_set file parent top ≡ top ∷ []
  pub phi : (x z : ℕ) → x < label_count file → x ≢ top
      → Memᴰ z (smallest_set file parent x) ↔ ((y : ℕ) × Arc (label_count file) parent y z × R file z x × (¬ R file y x))
  -- Lemmas 2 and 3: (T, φ_E) is such a scheme, and φ_E(x) lies in φ(x) for every other
  pub lemma2 : (x : ℕ) → x < label_count file → Definition2 (label_count file) (R file) parent x (smallest_set file parent x)
  pub lemma3 : (x : ℕ) → x < label_count file → (set : List ℕ) → Definition2 (label_count file) (R file) parent x set
      → (z : ℕ) → Memᴰ z (smallest_set file parent x) → Memᴰ z set
  -- Theorem 2: accounts times |φ_E(x)|, summed over the labels x but the root, are the weights of all arcs, summed. (003 states it of an
  -- enforcement scheme and shows it for φ_E.)
  pub theorem2 : sum_where (λ x. not (eqb x top)) (λ x. count_of file x * length (smallest_set file parent x)) (label_count file)
      ≡ weights (label_count file) (count_of file) (at_or_below file) parent

pub record Published (file : List ℕ) : Type 0 where
  -- "Licence order": what the table answers is what the `OV` records say, and it is an order whose top is label 0
  pub order : Order (label_count file) (R file) (at_or_below file)
  -- "tree weights": γ(pm) holds the labels at or above m and not at or above p, and ω(pm) sums the accounts at the labels of γ(pm)
  pub gamma : (p m l : ℕ) → p < label_count file → m < label_count file → l < label_count file → (weighed (at_or_below file) p m l ≡ true) ↔ (R file m l × (¬ R file p l))
  pub weight_sum : (p m : ℕ) → weight (label_count file) (count_of file) (at_or_below file) p m ≡ sum_where (weighed (at_or_below file) p m) (count_of file) (label_count file)
  -- "key sets"
  pub trees : (parent : ℕ → ℕ) → TreeOf file parent → OfPublishedTree file parent
