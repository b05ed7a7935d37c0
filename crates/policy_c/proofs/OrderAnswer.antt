-- What `yendlowa_order` answers: where each entry of the order stands, and that with a refusal all of them are no.
use Prim.Native.Nat.{ℕ, zero, suc, ◌+◌, ◌*◌, ◌/◌, ◌%◌, ◌<◌}
use mathlib.Core.Bool.{false}
use mathlib.Core.List.{List, [], ◌∷◌, ◌++◌}
use mathlib.Core.Path.{◌≡◌, refl, ap, ap₂, ◌∙◌}
use native.Mathlib.Omega.{arith}
use lib.ListN.{get_or, replicate}
use Rattle.lists.proofs.Tables.{get_d_listed}
use Rattle.lists.specs.Tables.{listed}
use Rattle.order.proofs.Table.{none_yet}
use Rattle.order.specs.Table.{entry_at, rows_below, order_table, no_row}
use Rattle.policy_file.proofs.Demand1.{refused_zeros}
use Rattle.policy_file.specs.Whole.{policy_refusal, label_count, order_of}
use Rattle.policy_file.specs.declared.Policy.{Policy}
use Rattle.policy_c.specs.Order.{line_entry, in_line, rows_of}

-- so many equal values one after the other are a list of that value
replicate_snoc : {A : Type 0} (n : ℕ) (a : A) → replicate n a ++ (a ∷ []) ≡ replicate (suc n) a
replicate_snoc zero a = refl
replicate_snoc (suc n) a = ap (λ (s : List _). a ∷ s) (replicate_snoc n a)

listed_only : {A : Type 0} (f : ℕ → A) (a : A) → ((i : ℕ) → f i ≡ a) → (n : ℕ) → listed f n ≡ replicate n a
unfolding listed
listed_only f a all zero = refl
listed_only f a all (suc n) = ap₂ (λ (s : List _) (b : _). s ++ (b ∷ [])) (listed_only f a all n) (all n) ∙ replicate_snoc n a

module _ (file : List ℕ) where
  -- "64 rows of 64 yes-or-no entries": that of labels m and l stands at 64 · m + l
  pub entry_at_lem : (m l : ℕ) → m < 64 → l < 64 → get_or (rows_of file).rows (64 * m + l) false ≡ entry_at (order_of file) m l
  unfolding rows_of in_line line_entry
  entry_at_lem m l hm hl =
      let row : (64 * m + l) / 64 ≡ m = omega arith in
      let column : (64 * m + l) % 64 ≡ l = omega arith in
      get_d_listed (line_entry (order_of file)) 4096 (64 * m + l) false (omega arith) ∙ ap₂ (λ (r c : ℕ). entry_at (order_of file) r c) row column

  -- with a refusal "a yes or no is no"
  pub order_answer_refused : 0 < policy_refusal file → rows_of file ≡ record { refusal = policy_refusal file; rows = replicate 4096 false }
  unfolding rows_of in_line line_entry order_of order_table rows_below
  order_answer_refused h =
      let none : label_count file ≡ 0 = ap (λ (p : Policy). p.labels) (refused_zeros file h) in
      rw (none, listed_only (line_entry (replicate 64 no_row)) false (λ i. none_yet 64 (i / 64) (i % 64)) 4096)
