-- The table says exactly what the order is.
use Prim.Native.Nat.{ℕ, zero, suc, min, ◌≤◌, ◌<◌}
use mathlib.Core.Bool.{Bool, true, false, false≢true}
use mathlib.Core.List.{List}
use mathlib.Core.Logic.{◌⊎◌, inl, inr, ◌↔◌}
use mathlib.Core.Path.{◌≡◌, refl, sym, ap, ◌∙◌}
use native.Mathlib.Decide.{ℕ_discrete}
use native.Mathlib.Omega.{arith}
use lib.ListN.{get_or}
use Rattle.order.specs.declared.Pair.{Pair}
use Rattle.order.specs.Order.{AtOrBelow, same, down, Proper}
use Rattle.order.specs.Table.{linked, label_row, rows_below, order_table, entry_at}
use Rattle.order.proofs.Lists.{not_yes}
use Rattle.order.proofs.Order.{at_or_below_le}
use Rattle.order.proofs.Table.{none_yet, linked_mem, mem_linked, Source, row_self, row_adds, row_only, Square, rows_below_square, made, kept, row_made, row_stays}

-- A yes is a chain of pairs.
module _ (pairs : List Pair) where
  from_row : (n l : ℕ) → ((u : ℕ) → entry_at (rows_below n (linked pairs)) u l ≡ true → (u < n) × AtOrBelow pairs u l)
      → get_or (label_row (rows_below n (linked pairs)) (linked pairs n) n) l false ≡ true → AtOrBelow pairs n l
  unfolding label_row
  from_row n l before h = go (row_only (rows_below n (linked pairs)) (linked pairs n) n l n h)
    where
      go : Source (rows_below n (linked pairs)) (linked pairs n) n l n → AtOrBelow pairs n l
      go (inl e) = rw e same
      go (inr b) =
          let s = mem_linked pairs n b.0 b.2 in
          let above : AtOrBelow pairs s.0.upper l = rw s.3 (before b.0 b.3).1 in
          rw (← s.2) (down s.1 above)

  pub sound : (n m l : ℕ) → n ≤ 64 → entry_at (rows_below n (linked pairs)) m l ≡ true → (m < n) × AtOrBelow pairs m l
  unfolding rows_below
  sound zero m l hn h = absurd (false≢true (sym (none_yet 64 m l) ∙ h))
  sound (suc n) m l hn h = go (λ u. sound n u l (omega arith)) (ℕ_discrete m n)
    where
      go : ((u : ℕ) → entry_at (rows_below n (linked pairs)) u l ≡ true → (u < n) × AtOrBelow pairs u l) → Dec (m ≡ n) → (m < suc n) × AtOrBelow pairs m l
      go before (yes e) = (omega arith, rw e (from_row n l before (sym (ap (λ (r : List Bool). get_or r l false) (made (linked pairs) n (omega arith))) ∙ rw e at h)))
      go before (no ne) =
          let b = before m (sym (ap (λ (r : List Bool). get_or r l false) (kept (linked pairs) n m ne)) ∙ h) in
          (omega arith, b.1)

-- A chain of pairs is a yes.
module _ {labels : ℕ} {pairs : List Pair} (proper : Proper labels pairs) where
  pub complete : {m l : ℕ} → AtOrBelow pairs m l → m < labels → entry_at (rows_below labels (linked pairs)) m l ≡ true
  unfolding label_row
  complete {m} same hm =
      rw (row_made (linked pairs) labels m hm proper.count)
      (row_self (rows_below m (linked pairs)) (linked pairs m) m m (omega (arith, proper.count)) refl m)
  complete {m} {l} (down {p} i h) hm =
      let lt = proper.falls i in
      let above : entry_at (rows_below labels (linked pairs)) p.upper l ≡ true = complete h (omega arith) in
      let stays = row_stays (linked pairs) labels p.lower p.upper lt (omega arith) proper.count in
      rw (row_made (linked pairs) labels p.lower hm proper.count)
      (row_adds (rows_below p.lower (linked pairs)) (linked pairs p.lower) p.lower l p.lower p.upper lt (linked_mem pairs i) (rw stays at above))

  -- an accepted policy has at most 64 labels, so its count is the table's
  table_rows : order_table labels pairs ≡ rows_below labels (linked pairs)
  unfolding order_table
  table_rows = ap (λ (n : ℕ). rows_below n (linked pairs)) (omega (arith, proper.count))

  -- Entry l of row m is yes exactly when m and l are labels and m is at or below l.
  pub table_exact : (m l : ℕ) → (entry_at (order_table labels pairs) m l ≡ true) ↔ ((m < labels) × (l < labels) × AtOrBelow pairs m l)
  table_exact m l = rw table_rows (only, λ h. complete h.2 h.0)
    where
      only : entry_at (rows_below labels (linked pairs)) m l ≡ true → (m < labels) × (l < labels) × AtOrBelow pairs m l
      only h =
          let s = sound pairs labels m l proper.count h in
          (s.0, omega (arith, at_or_below_le proper s.1, s.0), s.1)

  -- past the label count every entry is no
  pub table_past : (m l : ℕ) → (labels ≤ m) ⊎ (labels ≤ l) → entry_at (order_table labels pairs) m l ≡ false
  table_past m l past = not_yes (entry_at (order_table labels pairs) m l) (λ h. go past ((table_exact m l).0 h))
    where
      go : (labels ≤ m) ⊎ (labels ≤ l) → (m < labels) × (l < labels) × AtOrBelow pairs m l → ⊥
      go (inl a) h = omega (arith, h.0)
      go (inr b) h = omega (arith, h.1)

-- the table of any labels and pairs is 64 rows of 64 entries
pub table_square : (labels : ℕ) (pairs : List Pair) → Square (order_table labels pairs)
unfolding order_table
table_square labels pairs = rows_below_square (linked pairs) (min labels 64) (omega arith)

-- in the table of any labels and pairs, what a label is at or below has no larger number
rows_fall : (leads : ℕ → ℕ → Bool) (n m l : ℕ) → n ≤ 64 → entry_at (rows_below n leads) m l ≡ true → l ≤ m
unfolding rows_below label_row
rows_fall leads zero m l hn h = absurd (false≢true (sym (none_yet 64 m l) ∙ h))
rows_fall leads (suc n) m l hn h = go (λ u. rows_fall leads n u l (omega arith)) (ℕ_discrete m n)
  where
    from : ((u : ℕ) → entry_at (rows_below n leads) u l ≡ true → l ≤ u) → Source (rows_below n leads) (leads n) n l n → l ≤ n
    from before (inl e) = omega arith
    from before (inr b) = omega (arith, before b.0 b.3, b.1)

    go : ((u : ℕ) → entry_at (rows_below n leads) u l ≡ true → l ≤ u) → Dec (m ≡ n) → l ≤ m
    go before (yes e) =
        rw e (from before (row_only (rows_below n leads) (leads n) n l n (sym (ap (λ (r : List Bool). get_or r l false) (made leads n (omega arith))) ∙ rw e at h)))
    go before (no ne) = before m (sym (ap (λ (r : List Bool). get_or r l false) (kept leads n m ne)) ∙ h)

pub table_falls : (labels : ℕ) (pairs : List Pair) (m l : ℕ) → entry_at (order_table labels pairs) m l ≡ true → l ≤ m
unfolding order_table
table_falls labels pairs m l = rows_fall (linked pairs) (min labels 64) m l (omega arith)
