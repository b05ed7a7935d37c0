-- One account more at the top costs 1, since no parent's weight counts the top's accounts.
use Prim.Native.Nat.{ℕ, suc, ◌<◌}
use mathlib.Core.Path.{◌≡◌, refl, ap, sym, ◌∙◌}
use mathlib.Core.Bool.{Bool, true, not, ◌&&◌}
use native.Mathlib.Omega.{arith}
use lib.Dec.{eqb}
use borrow.Author.Tests.{eqb-false, not-true}
use Rattle.trees.specs.Sums.{sum_where}
use Rattle.trees.specs.Trees.{top, Tree}
use Rattle.trees.specs.Order.{Order}
use Rattle.trees.specs.Weights.{weighed, weight, total, weights, plan}
use Rattle.trees.specs.Growth.{one_more, plan_total, cost}
use Rattle.trees.proofs.Lists.{not_both, both_yes}
use Rattle.trees.proofs.Sums.{sum_where_where}
use Rattle.trees.proofs.Order.{test_yes}
use Rattle.trees.proofs.Totals.{total_weights, total_enough}
use Rattle.trees.proofs.Fewest.{plan_tree, plan_fewest}
use Rattle.trees.proofs.Growth.{more_there, more_elsewhere, grows, cost_added}

module _ {n : ℕ} {R : ℕ → ℕ → Type 0} {le : ℕ → ℕ → Bool} (O : Order n R le) (count : ℕ → ℕ) where
  top_weightless : {p : ℕ} (m : ℕ) → p < n → weight n (one_more count top) le p m ≡ weight n count le p m
  unfolding weight weighed
  top_weightless {p} m hp = sum_where_where (weighed le p m) (one_more count top) count n (λ l hl e. more_elsewhere count top l (λ q. counted l q e))
    where
      counted : (l : ℕ) → l ≡ top → (le m l && not (le p l)) ≡ true → ⊥
      counted l q e = not_both (test_yes O hp O.some (O.under p hp)) (ap (le p) (sym q) ∙ not-true (le p l) (both_yes (le m l) (not (le p l)) e).1)

  top_total : {parent : ℕ → ℕ} → Tree n R parent → total n (one_more count top) le parent ≡ suc (total n count le parent)
  unfolding weights
  top_total {parent} T =
      omega (arith, total_weights O (one_more count top) parent, total_weights O count parent, more_there count top top refl, same)
    where
      under : (m : ℕ) → not (eqb m top) ≡ true → m ≡ top → ⊥
      under m y = eqb-false m top (not-true (eqb m top) y)

      same : sum_where (λ m. not (eqb m top)) (λ m. weight n (one_more count top) le (parent m) m) n
          ≡ sum_where (λ m. not (eqb m top)) (λ m. weight n count le (parent m) m) n
      same =
          sum_where_where (λ m. not (eqb m top)) (λ m. weight n (one_more count top) le (parent m) m) (λ m. weight n count le (parent m) m) n
          (λ m hm y. top_weightless m (T.hangs m hm (under m y)).label)

  pub top_cost : cost n count le top ≡ 1
  unfolding plan_total
  top_cost =
      omega (
        arith,
        cost_added (grows O count O.some),
        (grows O count O.some).least,
        (plan_fewest O (one_more count top)).fewest (total n (one_more count top) le (plan n count le)) (total_enough O (one_more count top) (plan_tree O count)),
        top_total (plan_tree O count),
      )
