-- What document 01, "Tree, weights and key sets", means by derivation trees, sufficient sets and the fewest keys.
-- n is the number of labels, count l the number of accounts at label l, and R m l says that label m is at or below label l.
-- Nothing here speaks of a table, a weight or a smallest set. Document 003 is cited by its own numbers.
use Rattle.std.specs.Prelude.{ℕ, ◌≤◌, ◌<◌, ◌≡◌, ◌⊎◌, ◌≢◌, ◌↔◌, length}
use mathlib.Core.List.{List, [], ◌∷◌, Memᴰ}
use Rattle.trees.specs.Sums.{sum}

-- "label 0 is the top" (003: the maximum element r)
abbrev pub top : ℕ
top = 0

-- "one parent strictly above it": p is a label, is not m, and has m at or below it (003: m < p)
pub record Above (n : ℕ) (R : ℕ → ℕ → Type 0) (p m : ℕ) : Type 0 where
  pub label : p < n
  pub other : p ≢ m
  pub over : R m p

-- 02, Ask 1: "covers its child: no label lies between them" (003: pm is an arc of the Hasse diagram)
pub record Covers (n : ℕ) (R : ℕ → ℕ → Type 0) (p m : ℕ) : Type 0 where
  pub above : Above n R p m
  pub between : (x : ℕ) → x < n → R m x → R x p → (x ≡ m) ⊎ (x ≡ p)

-- "A derivation tree gives each label but the top one parent strictly above it. The parent need not cover it."
-- (003, Definition 1: the arcs of the derivation out-tree are those from parent m to m; by Lemma 1 each such choice is a spanning out-tree)
pub record Tree (n : ℕ) (R : ℕ → ℕ → Type 0) (parent : ℕ → ℕ) : Type 0 where
  pub hangs : (m : ℕ) → m < n → m ≢ top → Above n R (parent m) m

-- "A set holds labels, each once."
abbrev pub Once : {A : Type 0} → List A → Type 0
Once [] = Unit {0}
Once (x ∷ set) = (¬ Memᴰ x set) × Once set

-- "Going down the tree from it reaches the labels in it and every label whose parent is reached." The top has no parent.
-- (003: there is a z in the set with a directed path in T from z to m)
pub data Reached (n : ℕ) (parent : ℕ → ℕ) (set : List ℕ) : ℕ → Type 0 where
  held : {m : ℕ} → Memᴰ m set → Reached n parent set m
  down : {m : ℕ} → m < n → m ≢ top → Reached n parent set (parent m) → Reached n parent set m

-- "A sufficient set for a label is a set from which, going down the tree, exactly the labels at or below it are reached."
-- (003, Definition 2, for the set φ(l) of one label: `proofs/Published.antt` shows that the two say the same)
pub record Sufficient (n : ℕ) (R : ℕ → ℕ → Type 0) (parent : ℕ → ℕ) (l : ℕ) (set : List ℕ) : Type 0 where
  pub labels : (m : ℕ) → Memᴰ m set → m < n
  pub once : Once set
  pub exactly : (m : ℕ) → m < n → Reached n parent set m ↔ R m l

-- "for each single account, any set that is sufficient for its label under that tree; two accounts at one label may hold different sets":
-- sets l a is the set of account a of label l, accounts being numbered from 0 here
pub record Assignment (n : ℕ) (count : ℕ → ℕ) (R : ℕ → ℕ → Type 0) (parent : ℕ → ℕ) (sets : ℕ → ℕ → List ℕ) : Type 0 where
  pub sufficient : (l a : ℕ) → l < n → a < count l → Sufficient n R parent l (sets l a)

-- "The keys issued are the sizes of all accounts' sets, summed."
unfoldable pub keys : (n : ℕ) (count : ℕ → ℕ) (sets : ℕ → ℕ → List ℕ) → ℕ
keys n count sets = sum (λ l. sum (λ a. length (sets l a)) (count l)) n

-- "take any derivation tree of the policy and, for each single account, any set that is sufficient": such a choice that issues k keys
-- (003: a tree-based enforcement scheme (T, φ), here with a set for each account)
pub record Scheme (n : ℕ) (count : ℕ → ℕ) (R : ℕ → ℕ → Type 0) (k : ℕ) : Type 0 where
  pub parent : ℕ → ℕ
  pub sets : ℕ → ℕ → List ℕ
  pub tree : Tree n R parent
  pub assigned : Assignment n count R parent sets
  pub issues : keys n count sets ≡ k

-- "The fewest is the least such sum, over all these trees and sets." (003, section 4: the minimum of K with a hat)
pub record Fewest (n : ℕ) (count : ℕ → ℕ) (R : ℕ → ℕ → Type 0) (k : ℕ) : Type 0 where
  pub reached : Scheme n count R k
  pub fewest : (j : ℕ) → Scheme n count R j → k ≤ j
