-- Every parent that the plan chooses covers its child, so the plan's tree is one of those that 003's Corollary 4 speaks of: "there exists a
-- minimum weight spanning out-tree" with arcs of the Hasse diagram alone. The choice of the highest number finds one.
use Prim.Native.Nat.{ℕ, ◌≤◌, ◌<◌}
use mathlib.Core.Path.{◌≡◌}
use mathlib.Core.Logic.{◌⊎◌, inl, inr, ◌≢◌}
use mathlib.Core.Bool.{Bool, true, false, not}
use native.Mathlib.Nat.{le_refl, le_trans}
use native.Mathlib.Omega.{arith}
use lib.Dec.{eqb}
use borrow.Author.Tests.{eqb-true, eqb-false, not-true}
use Rattle.trees.specs.Trees.{top, Covers}
use Rattle.trees.specs.Order.{Order}
use Rattle.trees.specs.Weights.{weighed, weight, LeastWeight, plan}
use Rattle.trees.proofs.Lists.{answers, not_both, both_yes}
use Rattle.trees.proofs.Order.{test_yes, test_no}
use Rattle.trees.proofs.Sums.{sum_where_within}
use Rattle.trees.proofs.Ties.{plan_least, plan_preferred}

module _ {n : ℕ} {R : ℕ → ℕ → Type 0} {le : ℕ → ℕ → Bool} (O : Order n R le) (count : ℕ → ℕ) (m : ℕ) where
  -- what a label x at or below p weighs, p weighs too (003: Lemma 5, γ(xm) ⊆ γ(pm))
  weighed_below : {p x : ℕ} → p < n → x < n → R x p → (l : ℕ) → l < n → weighed le x m l ≡ true → weighed le p m l ≡ true
  unfolding weighed
  weighed_below {p} {x} hp hx r l hl e = rw (b.0, not_over)
    where
      b : (le m l ≡ true) × (not (le x l) ≡ true)
      b = both_yes (le m l) (not (le x l)) e

      not_over : le p l ≡ false
      not_over = test_no O hp hl (λ s. not_both (test_yes O hx hl (O.chain x p l hx hp hl r s)) (not-true (le x l) b.1))

  -- so the lower of two parents weighs no more (003: it follows from Corollary 3)
  weight_below : {p x : ℕ} → p < n → x < n → R x p → weight n count le x m ≤ weight n count le p m
  unfolding weight
  weight_below {p} {x} hp hx r = sum_where_within (weighed le x m) (weighed le p m) count count n (λ l hl e. (weighed_below hp hx r l hl e, le_refl (count l)))

  -- 02, Ask 1: "Every chosen parent then covers its child: no label lies between them" (003: Corollary 4)
  pub plan_covers : m < n → m ≢ top → Covers n R (plan n count le m) m
  plan_covers hm ne = record { above = L.above; between = λ x hx over under. go x hx over under (answers (eqb x m)) }
    where
      L : LeastWeight n count R le (plan n count le m) m
      L = plan_least O count hm ne

      -- a label between is of least weight as well, and the plan's choice has no smaller number
      go : (x : ℕ) → x < n → R m x → R x (plan n count le m) → (eqb x m ≡ true) ⊎ (eqb x m ≡ false) → (x ≡ m) ⊎ (x ≡ plan n count le m)
      go x hx over under (inl e) = inl (eqb-true x m e)
      go x hx over under (inr e) = inr (omega (arith, plan_preferred O count hm ne x least, O.upper x (plan n count le m) hx L.above.label under))
        where
          least : LeastWeight n count R le x m
          least = record {
            above = record { label = hx; other = eqb-false x m e; over = over };
            least = λ q a. le_trans (weight_below L.above.label hx under) (L.least q a);
          }
