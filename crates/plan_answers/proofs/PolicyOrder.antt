-- The order of an accepted policy file is one that the theory of trees speaks of: the chain of its `OV` records is what is meant,
-- the table is what is tested.
use Prim.Native.Nat.{ℕ}
use mathlib.Core.List.{List}
use Rattle.order.proofs.Order.{at_or_below_refl, at_or_below_trans, at_or_below_le, at_or_below_top}
use Rattle.order.specs.Order.{AtOrBelow}
use Rattle.order.specs.Table.{entry_at}
use Rattle.policy_file.proofs.Lawful.{lawful}
use Rattle.policy_file.proofs.Ordered.{accepted_proper, accepted_topped, order_exact}
use Rattle.policy_file.specs.Whole.{label_count, pairs_of, AcceptedPolicy, order_of}
use Rattle.trees.specs.Order.{Order}

pub policy_order : (file : List ℕ) → AcceptedPolicy file → Order (label_count file) (AtOrBelow (pairs_of file)) (entry_at (order_of file))
policy_order file ok = record {
  some = (lawful file ok).some_label;
  tested = λ m l hm hl. (λ e. ((order_exact file ok m l).0 e).2, λ b. (order_exact file ok m l).1 (hm, hl, b));
  same = λ m hm. at_or_below_refl (pairs_of file) m;
  chain = λ m l k hm hl hk a b. at_or_below_trans a b;
  upper = λ m l hm hl b. at_or_below_le (accepted_proper file ok) b;
  under = at_or_below_top (accepted_proper file ok) (accepted_topped file ok);
}
