-- Policy E of document 01: labels 0 SUITE, 1 CURVES, 2 CONV32, 3 ACCRUED with pairs 0-1, 0-2, 1-3, 2-3.
use Prim.Native.Nat.{ℕ, zero, suc, ◌<◌}
use mathlib.Core.Bool.{Bool, true, false, false≢true}
use mathlib.Core.List.Memᴰ
use mathlib.Core.List.{List, [], ◌∷◌, ◌++◌}
use mathlib.Core.Path.{◌≡◌, refl}
use native.Mathlib.Omega.{arith}
use lib.ListN.{get_or, replicate}
use Rattle.order.specs.declared.Pair.{Pair}
use Rattle.order.specs.Order.{AtOrBelow, same, down, Proper, Topped}
use Rattle.order.specs.Table.{no_row, joined, linked, row_up_to, label_row, rows_below, order_table}
use Rattle.order.proofs.Order.{proper_at, topped_at}
use Rattle.order.proofs.Laws.{table_yes}

abbrev pub pairs_e : List Pair
pairs_e =
    record { upper = 0; lower = 1 } ∷ record { upper = 0; lower = 2 } ∷ record { upper = 1; lower = 3 } ∷ record { upper = 2; lower = 3 } ∷ []

-- a row of four labels, and the 60 entries past them
abbrev row : Bool → Bool → Bool → Bool → List Bool
row a b c d = (a ∷ b ∷ c ∷ d ∷ []) ++ replicate 60 false

-- who is at or below whom: CURVES and CONV32 cannot be compared, ACCRUED is below all
pub table_e : order_table 4 pairs_e
    ≡ (row true false false false ∷ row true true false false ∷ row true false true false ∷ row true true true true ∷ []) ++ replicate 60 no_row
unfolding joined linked row_up_to label_row rows_below order_table
table_e = refl

-- ACCRUED is below SUITE by the chain 0-1, 1-3
pub accrued_below_suite : AtOrBelow pairs_e 3 0
accrued_below_suite = down (Memᴰ.tail (Memᴰ.tail (Memᴰ.head refl))) (down (Memᴰ.head refl) same)

-- stands for what is past the list's end
abbrev past : Pair
past = record { upper = 0; lower = 0 }

-- the hypotheses of the table's laws hold of it
pub proper_e : Proper 4 pairs_e
proper_e = proper_at 4 pairs_e past (omega arith) each
  where
    each : (i : ℕ) → i < 4
        → ((get_or pairs_e i past).upper < (get_or pairs_e i past).lower)
        × ((get_or pairs_e i past).lower < 4)
    each zero h = omega arith
    each (suc zero) h = omega arith
    each (suc (suc zero)) h = omega arith
    each (suc (suc (suc zero))) h = omega arith
    each (suc (suc (suc (suc i)))) h = absurd (omega arith)

pub topped_e : Topped 4 pairs_e
topped_e = topped_at 4 pairs_e past each
  where
    each : (m : ℕ) → m < 4 → 0 < m → (i : ℕ) × (i < 4) × ((get_or pairs_e i past).lower ≡ m)
    each zero h h0 = absurd (omega arith)
    each (suc zero) h h0 = (0, omega arith, refl)
    each (suc (suc zero)) h h0 = (1, omega arith, refl)
    each (suc (suc (suc zero))) h h0 = (2, omega arith, refl)
    each (suc (suc (suc (suc m)))) h h0 = absurd (omega arith)

-- so no chain of pairs leads from CURVES down to CONV32, or back
pub not_comparable : (AtOrBelow pairs_e 2 1 → ⊥) × (AtOrBelow pairs_e 1 2 → ⊥)
unfolding joined linked row_up_to label_row rows_below order_table
not_comparable = (λ h. false≢true (table_yes proper_e (omega arith) h), λ h. false≢true (table_yes proper_e (omega arith) h))
