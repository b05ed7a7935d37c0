-- The sizes of the smallest sets while the labels are gone through: nothing at first, and one label more a turn.
use Prim.Native.Nat.{ℕ, zero, suc, ◌+◌, ◌≤◌, ◌<◌}
use mathlib.Core.Bool.{Bool, cond}
use mathlib.Core.List.{List}
use mathlib.Core.Path.{◌≡◌, refl, sym, ap, ap₂, ◌∙◌}
use native.Mathlib.Numerals.{add-one}
use native.Mathlib.Omega.{arith}
use lib.ListN.{replicate, set}
use lib.Seq.{set-get_or}
use Rattle.lists.specs.Tables.{listed, filled}
use Rattle.lists.proofs.Tables.{fill_more}
use Rattle.trees.specs.Sums.{sum_where, select}
use Rattle.trees.specs.Weights.{in_smallest, smallest}
use Rattle.trees.proofs.Sums.{sum_where_le, sum_const}
use Rattle.trees.proofs.Totals.{smallest_size}
use Rattle.weights.specs.Tables.{entries, set_size, sizes_below}
use Rattle.weights.proofs.Reading.{entries_filled, entries_past}

-- a table of nothing
filled_zero : (f : ℕ → ℕ) → ((k : ℕ) → f k ≡ 0) → (n : ℕ) → n ≤ 64 → filled 64 0 f n ≡ replicate 64 0
unfolding listed
filled_zero f none zero h = refl
filled_zero f none (suc n) h =
    ap (λ (k : ℕ). filled 64 0 f k) (sym (add-one n))
    ∙ sym (fill_more f 64 0 n (omega arith))
    ∙ ap₂ (λ (t : List ℕ) (v : ℕ). set t n v) (filled_zero f none n (omega arith)) (none n ∙ sym (entries_past f 0 n (omega arith)))
    ∙ set-get_or (replicate 64 0) n 0

module _ (le : ℕ → ℕ → Bool) (parent : ℕ → ℕ) where
  none_yet : (l : ℕ) → set_size 0 le parent l ≡ 0
  unfolding set_size smallest select
  none_yet l = refl

  pub sizes_none : (n : ℕ) → n ≤ 64 → replicate 64 0 ≡ sizes_below n le parent 0
  unfolding sizes_below
  sizes_none n h = sym (filled_zero (set_size 0 le parent) none_yet n h)

  module _ (m l : ℕ) where
    size_bound : set_size m le parent l ≤ m
    unfolding set_size
    size_bound = omega (arith, smallest_size m le parent l, sum_where_le (in_smallest le parent l) (λ k. 1) m, sum_const 1 m)

    size_turn : (b : Bool) → b ≡ in_smallest le parent l m → set_size m le parent l + cond b 1 0 ≡ set_size (m + 1) le parent l
    unfolding set_size sum_where
    size_turn b e =
        ap₂ (λ (s : ℕ) (x : Bool). s + cond x 1 0) (smallest_size m le parent l) e
        ∙ sym (smallest_size (suc m) le parent l)
        ∙ ap (λ (k : ℕ). set_size k le parent l) (sym (add-one m))

    module _ (n : ℕ) (sizes : List ℕ) (e : sizes ≡ sizes_below n le parent m) (h : l < n) where
      entry : entries sizes l ≡ set_size m le parent l
      unfolding sizes_below
      entry = ap (λ (t : List ℕ). entries t l) e ∙ entries_filled (set_size m le parent) n l h

      pub sizes_small : m ≤ 64 → entries sizes l ≤ 64
      sizes_small few = omega (arith, entry, size_bound)

      pub sizes_turn : (b : Bool) → b ≡ in_smallest le parent l m → entries sizes l + cond b 1 0 ≡ set_size (m + 1) le parent l
      sizes_turn b held = ap (λ (s : ℕ). s + cond b 1 0) entry ∙ size_turn b held
