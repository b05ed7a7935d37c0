-- The table of an accepted policy as an order with yes-or-no values, for a theory that takes such an order.
use Prim.Native.Nat.{ℕ, ◌≤◌, ◌<◌}
use mathlib.Core.Bool.{true}
use mathlib.Core.List.{List}
use mathlib.Core.Path.{◌≡◌}
use native.Mathlib.Omega.{arith}
use Rattle.order.specs.declared.Pair.{Pair}
use Rattle.order.specs.Order.{AtOrBelow, Proper, Topped}
use Rattle.order.specs.Table.{order_table, entry_at}
use Rattle.order.proofs.Order.{at_or_below_refl, at_or_below_trans, at_or_below_le, at_or_below_antisym, at_or_below_top}
use Rattle.order.proofs.Exact.{table_exact}

module _ {labels : ℕ} {pairs : List Pair} (proper : Proper labels pairs) where
  -- from the order to its entry, and back; the same for no
  pub table_yes : {m l : ℕ} → m < labels → AtOrBelow pairs m l → entry_at (order_table labels pairs) m l ≡ true
  table_yes {m} {l} hm h = (table_exact proper m l).1 (hm, omega (arith, at_or_below_le proper h), h)

  pub table_below : (m l : ℕ) → entry_at (order_table labels pairs) m l ≡ true → AtOrBelow pairs m l
  table_below m l h = ((table_exact proper m l).0 h).2

  pub table_refl : (m : ℕ) → m < labels → entry_at (order_table labels pairs) m m ≡ true
  table_refl m hm = table_yes hm (at_or_below_refl pairs m)

  pub table_trans : (m k l : ℕ) → entry_at (order_table labels pairs) m k ≡ true → entry_at (order_table labels pairs) k l ≡ true
      → entry_at (order_table labels pairs) m l ≡ true
  table_trans m k l h g = table_yes ((table_exact proper m k).0 h).0 (at_or_below_trans (table_below m k h) (table_below k l g))

  -- the upper label has the smaller number
  pub table_le : (m l : ℕ) → entry_at (order_table labels pairs) m l ≡ true → l ≤ m
  table_le m l h = at_or_below_le proper (table_below m l h)

  pub table_antisym : (m l : ℕ) → entry_at (order_table labels pairs) m l ≡ true → entry_at (order_table labels pairs) l m ≡ true → m ≡ l
  table_antisym m l h g = at_or_below_antisym proper (table_below m l h) (table_below l m g)

  -- label 0 is above every label
  pub table_top : Topped labels pairs → (m : ℕ) → m < labels → entry_at (order_table labels pairs) m 0 ≡ true
  table_top topped m hm = table_yes hm (at_or_below_top proper topped m hm)
