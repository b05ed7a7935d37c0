-- Laws of the order itself: it is a partial order, an upper label has the smaller number, and label 0 is above all.
use Prim.Native.Nat.{ℕ, zero, suc, ◌≤◌, ◌<◌}
use mathlib.Core.List.{List}
use mathlib.Core.Path.{◌≡◌}
use native.Mathlib.Omega.{arith}
use lib.ListN.{length, get_or}
use Rattle.order.specs.declared.Pair.{Pair}
use Rattle.order.specs.Order.{AtOrBelow, same, down, Proper, Topped}
use Rattle.order.proofs.Lists.{mem_at, mem_place}

pub at_or_below_refl : (pairs : List Pair) (m : ℕ) → AtOrBelow pairs m m
at_or_below_refl pairs m = same

pub at_or_below_trans : {pairs : List Pair} {m k l : ℕ} → AtOrBelow pairs m k → AtOrBelow pairs k l → AtOrBelow pairs m l
at_or_below_trans same g = g
at_or_below_trans (down p h) g = down p (at_or_below_trans h g)

module _ {labels : ℕ} {pairs : List Pair} (proper : Proper labels pairs) where
  -- the upper label has the smaller number
  pub at_or_below_le : {m l : ℕ} → AtOrBelow pairs m l → l ≤ m
  at_or_below_le same = omega arith
  at_or_below_le (down p h) = omega (arith, at_or_below_le h, proper.falls p)

  pub at_or_below_antisym : {m l : ℕ} → AtOrBelow pairs m l → AtOrBelow pairs l m → m ≡ l
  at_or_below_antisym h g = omega (arith, at_or_below_le h, at_or_below_le g)

  -- label 0 is above every label, where each other label is the lower of some pair
  module _ (topped : Topped labels pairs) where
    below_top_from : (f m : ℕ) → m < f → m < labels → AtOrBelow pairs m 0
    below_top_from zero m hf hm = absurd (omega arith)
    below_top_from (suc f) zero hf hm = same
    below_top_from (suc f) (suc m) hf hm =
        let t = topped (suc m) hm (omega arith) in
        let p = t.0 in
        let lt : p.upper < p.lower = proper.falls t.1 in
        let e : p.lower ≡ suc m = t.2 in
        rw (← e) (down t.1 (below_top_from f p.upper (omega arith) (omega arith)))

    pub at_or_below_top : (m : ℕ) → m < labels → AtOrBelow pairs m 0
    at_or_below_top m h = below_top_from (suc m) m (omega arith) h

-- The same two hypotheses from facts about the pair at each place of the list; d stands for what is past its end.
module _ (labels : ℕ) (pairs : List Pair) (d : Pair) where
  pub proper_at : labels ≤ 64
      → ((i : ℕ) → i < length pairs → ((get_or pairs i d).upper < (get_or pairs i d).lower) × ((get_or pairs i d).lower < labels))
      → Proper labels pairs
  proper_at count h = record {
    count = count;
    falls = λ {p} i. let t = mem_place pairs d i in rw t.2 at (h t.0 t.1).0;
    within = λ {p} i. let t = mem_place pairs d i in rw t.2 at (h t.0 t.1).1;
  }

  pub topped_at : ((m : ℕ) → m < labels → 0 < m → (i : ℕ) × (i < length pairs) × ((get_or pairs i d).lower ≡ m)) → Topped labels pairs
  topped_at h m hm h0 = let t = h m hm h0 in (get_or pairs t.0 d, mem_at pairs t.0 d t.1, t.2)
