-- Weights, smallest sets, totals and the plan as document 01, "Tree, weights and key sets", has them computed, over a test of the order:
-- le m l answers whether label m is at or below label l. Document 003 is cited by its own numbers.
use Rattle.std.specs.Prelude.{ℕ, zero, suc, ◌*◌, ◌≤◌, ◌<◌, ◌≢◌, Bool, cond, not, ◌&&◌, ◌||◌, List, length, eqb, leb}
use Rattle.trees.specs.Sums.{sum, sum_where, select}
use Rattle.trees.specs.Trees.{top, Above}

-- "labels that are at or above the lower label and not at or above the parent" (003: x is in γ(pm)); an l that cannot be compared with p is not above it
unfoldable pub weighed : (le : ℕ → ℕ → Bool) (p m l : ℕ) → Bool
weighed le p m l = le m l && not (le p l)

-- "The weight of a parent for a label counts the accounts at labels that are at or above the lower label and not at or above the parent." (003: ω(pm))
unfoldable pub weight : (n : ℕ) (count : ℕ → ℕ) (le : ℕ → ℕ → Bool) (p m : ℕ) → ℕ
weight n count le p m = sum_where (weighed le p m) count n

-- "each label at or below it that is the top or whose parent is not at or below it" (003: m is in φ_E(l))
unfoldable pub in_smallest : (le : ℕ → ℕ → Bool) (parent : ℕ → ℕ) (l m : ℕ) → Bool
in_smallest le parent l m = le m l && (eqb m top || not (le (parent m) l))

-- "The smallest set holds each label at or below it that is the top or whose parent is not at or below it." (003: φ_E(l))
unfoldable pub smallest : (n : ℕ) (le : ℕ → ℕ → Bool) (parent : ℕ → ℕ) (l : ℕ) → List ℕ
smallest n le parent l = select (in_smallest le parent l) n

-- "for each label, accounts times size of the smallest set" (003: |U(l)| · |φ_E(l)|)
unfoldable pub label_keys : (n : ℕ) (count : ℕ → ℕ) (le : ℕ → ℕ → Bool) (parent : ℕ → ℕ) (l : ℕ) → ℕ
label_keys n count le parent l = count l * length (smallest n le parent l)

-- "Total: for each label, accounts times size of the smallest set, summed." (003: K with a hat, for the scheme (T, φ_E))
unfoldable pub total : (n : ℕ) (count : ℕ → ℕ) (le : ℕ → ℕ → Bool) (parent : ℕ → ℕ) → ℕ
total n count le parent = sum (label_keys n count le parent) n

-- "the weights of all chosen parents" (003: the sum of ω over the arcs of T)
unfoldable pub weights : (n : ℕ) (count : ℕ → ℕ) (le : ℕ → ℕ → Bool) (parent : ℕ → ℕ) → ℕ
weights n count le parent = sum_where (λ m. not (eqb m top)) (λ m. weight n count le (parent m) m) n

-- "a parent of least weight": strictly above m, and no label strictly above m weighs less
pub record LeastWeight (n : ℕ) (count : ℕ → ℕ) (R : ℕ → ℕ → Type 0) (le : ℕ → ℕ → Bool) (p m : ℕ) : Type 0 where
  pub above : Above n R p m
  pub least : (q : ℕ) → Above n R q m → weight n count le p m ≤ weight n count le q m

-- "every label under the top hangs from a parent of least weight"
pub record HangsLeast (n : ℕ) (count : ℕ → ℕ) (R : ℕ → ℕ → Type 0) (le : ℕ → ℕ → Bool) (parent : ℕ → ℕ) : Type 0 where
  pub hangs : (m : ℕ) → m < n → m ≢ top → LeastWeight n count R le (parent m) m

-- 02, Ask 1: "Of several parents of least weight the plan shall take the one with the highest number": p, the one taken, has a
-- number no smaller than that of any other such parent q
abbrev pub Preferred : (p q : ℕ) → Type 0
Preferred p q = q ≤ p

-- so, labels being gone through upwards, a later one takes the place of the best so far if it weighs no more
unfoldable pub takes : (later sofar : ℕ) → Bool
takes later sofar = leb later sofar

-- the best of the labels below k that are above m, beginning with the top
unfoldable pub best : (n : ℕ) (count : ℕ → ℕ) (le : ℕ → ℕ → Bool) (m k : ℕ) → ℕ
best n count le m zero = top
best n count le m (suc p) =
    let b : ℕ = best n count le m p in
    cond (le m p && takes (weight n count le p m) (weight n count le b m)) p b

-- "The plan takes for each label a parent of least weight", of several the preferred one. The labels above m have smaller numbers.
-- The plan's tree; the top's own entry is the top.
unfoldable pub plan : (n : ℕ) (count : ℕ → ℕ) (le : ℕ → ℕ → Bool) → ℕ → ℕ
plan n count le m = best n count le m m

-- "yes exactly when no derivation tree of the policy has a smaller total"
unfoldable pub least : (n : ℕ) (count : ℕ → ℕ) (le : ℕ → ℕ → Bool) (parent : ℕ → ℕ) → Bool
least n count le parent = eqb (total n count le parent) (total n count le (plan n count le))
