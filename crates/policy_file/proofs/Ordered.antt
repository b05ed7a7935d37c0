-- The over-pairs of an accepted policy are what the order of labels asks for.
use Prim.Native.Nat.{ℕ, ◌<◌}
use mathlib.Core.Bool.{true}
use mathlib.Core.List.{List, Memᴰ}
use mathlib.Core.Logic.{◌↔◌}
use mathlib.Core.Path.{◌≡◌}
use Rattle.order.proofs.Exact.{table_exact}
use Rattle.order.specs.Order.{AtOrBelow, Proper, Topped}
use Rattle.order.specs.Table.{entry_at}
use Rattle.order.specs.declared.Pair.{Pair}
use Rattle.policy_file.proofs.Demand1.{accepted_iff}
use Rattle.lists.proofs.Listed.{listed_mem, mem_listed}
use Rattle.policy_file.proofs.Passing.{labels_bound, over_passed}
use Rattle.policy_file.specs.File.{pair_at}
use Rattle.policy_file.specs.Rows.{OverAt}
use Rattle.policy_file.specs.Whole.{label_count, pair_count, AcceptedPolicy, pairs_of, order_of}

module _ (file : List ℕ) (ok : AcceptedPolicy file) where
  pair_passed : {p : Pair} → Memᴰ p (pairs_of file) → (k : ℕ) × (p ≡ pair_at file (label_count file) k) × OverAt file (label_count file) k
  unfolding pairs_of
  pair_passed {p} m =
      let at = mem_listed (pair_at file (label_count file)) (pair_count file) m in
      (at.0, at.2, over_passed ((accepted_iff file).0 ok).passes at.0 at.1)

  -- at most 64 labels; each pair leads down to a label of the policy
  pub accepted_proper : Proper (label_count file) (pairs_of file)
  accepted_proper = record {
    count = labels_bound ((accepted_iff file).0 ok).passes;
    falls = λ m. let at = pair_passed m in rw at.1 at.2.falls;
    within = λ m. let at = pair_passed m in rw at.1 at.2.lower;
  }

  -- every label other than 0 is the lower of a pair
  pub accepted_topped : Topped (label_count file) (pairs_of file)
  unfolding pairs_of
  accepted_topped m l h =
      let low = ((accepted_iff file).0 ok).placed m l h in
      (pair_at file (label_count file) low.pair, listed_mem (pair_at file (label_count file)) (pair_count file) low.pair low.below, low.lower)

  -- The table says of every pair of labels whether a chain of the file's pairs leads down, and no past the label count.
  pub order_exact : (m l : ℕ) → (entry_at (order_of file) m l ≡ true) ↔ ((m < label_count file) × (l < label_count file) × AtOrBelow (pairs_of file) m l)
  unfolding order_of
  order_exact m l = table_exact accepted_proper m l
