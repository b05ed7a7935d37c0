-- What `growth_policy` answers for a policy file: from the counts that are read to those of the file, zeros for a refused one, and the figures of
-- each label.
use Prim.Native.Nat.{ℕ, ◌≤◌, ◌<◌}
use mathlib.Core.Bool.{Bool, true, cond}
use mathlib.Core.List.{List}
use mathlib.Core.Path.{◌≡◌, refl, ap, ap₂}
use native.Mathlib.Omega.{arith}
use borrow.Author.Tests.{lt-ltb, le-ltb}
use lib.Dec.{ltb}
use Rattle.lists.proofs.Listed.{filled_same}
use Rattle.lists.specs.Tables.{listed}
use Rattle.plan_answers.proofs.PolicyOrder.{policy_order}
use Rattle.plan_answers.specs.Planned.{at_or_below}
use Rattle.policy_file.proofs.Answer.{counts_at}
use Rattle.policy_file.proofs.Demand1.{refused_zeros}
use Rattle.policy_file.specs.File.{count_of}
use Rattle.policy_file.specs.Whole.{policy_of, policy_refusal, label_count, AcceptedPolicy}
use Rattle.policy_file.specs.declared.Policy.{Policy}
use Rattle.trees.proofs.Growth.{grows, cost_same, ceiling_same}
use Rattle.trees.proofs.Order.{test_yes}
use Rattle.trees.proofs.Tables.{SameCounts, SameTests}
use Rattle.trees.specs.Growth.{cost, ceiling, Grows}
use Rattle.weights.proofs.Reading.{entries_filled, entries_past}
use Rattle.weights.specs.Tables.{entries}
use Rattle.growth_answers.specs.Growing.{has_room, cost_at, ceiling_at, growing, growth_of, refused_growth}

-- the figures of a label by its accounts
module _ (n : ℕ) (count : ℕ → ℕ) (le : ℕ → ℕ → Bool) (l : ℕ) where
  pub room_cost : count l < 65_535 → cost_at n count le l ≡ cost n count le l
  unfolding cost_at has_room
  room_cost h = ap (λ (room : Bool). cond room (cost n count le l) 0) (lt-ltb (count l) _ (omega arith))

  pub room_ceiling : count l < 65_535 → ceiling_at n count le l ≡ ceiling n le l
  unfolding ceiling_at has_room
  room_ceiling h = ap (λ (room : Bool). cond room (ceiling n le l) 0) (lt-ltb (count l) _ (omega arith))

  pub full_none : 65_535 ≤ count l → (cost_at n count le l ≡ 0) × (ceiling_at n count le l ≡ 0)
  unfolding cost_at ceiling_at has_room
  full_none h = (
    ap (λ (room : Bool). cond room (cost n count le l) 0) (le-ltb (count l) _ (omega arith)),
    ap (λ (room : Bool). cond room (ceiling n le l) 0) (le-ltb (count l) _ (omega arith)),
  )

-- only the accounts and the order of labels matter
module _ {n : ℕ} {count count' : ℕ → ℕ} {le le' : ℕ → ℕ → Bool} (c : SameCounts n count count') (h : SameTests n le le') where
  costs_same : (l : ℕ) → l < n → cost_at n count le l ≡ cost_at n count' le' l
  unfolding cost_at has_room
  costs_same l hl = ap₂ (λ (k x : ℕ). cond (ltb k 65_535) x 0) (c l hl) (cost_same c h l)

  ceilings_same : (l : ℕ) → l < n → ceiling_at n count le l ≡ ceiling_at n count' le' l
  unfolding ceiling_at has_room
  ceilings_same l hl = ap₂ (λ (k x : ℕ). cond (ltb k 65_535) x 0) (c l hl) (ceiling_same c h l hl)

  pub growing_same : (refusal : ℕ) → growing refusal n count le ≡ growing refusal n count' le'
  unfolding growing
  growing_same refusal =
      rw (
        filled_same 64 0 (cost_at n count le) (cost_at n count' le') n costs_same,
        filled_same 64 0 (ceiling_at n count le) (ceiling_at n count' le') n ceilings_same,
      )

module _ (file : List ℕ) where
  -- the counts that are read are the file's
  pub read_growth : growing (policy_refusal file) (label_count file) (entries (policy_of file).counts) (at_or_below file) ≡ growth_of file
  unfolding growth_of
  read_growth = growing_same (counts_at file) (λ m l hm hl. refl) (policy_refusal file)

  -- a refused policy has no labels
  pub growth_refused : 0 < policy_refusal file → growth_of file ≡ refused_growth (policy_refusal file)
  unfolding growth_of growing listed
  growth_refused h = let none : label_count file ≡ 0 = ap (λ (p : Policy). p.labels) (refused_zeros file h) in rw none

  -- the figures past the labels
  pub growth_past : (l : ℕ) → label_count file ≤ l → (entries (growth_of file).costs l ≡ 0) × (entries (growth_of file).ceilings l ≡ 0)
  unfolding growth_of growing
  growth_past l h = (
    entries_past (cost_at (label_count file) (count_of file) (at_or_below file)) (label_count file) l h,
    entries_past (ceiling_at (label_count file) (count_of file) (at_or_below file)) (label_count file) l h,
  )

  -- and those of a label
  module _ (l : ℕ) (hl : l < label_count file) where
    pub growth_cost : entries (growth_of file).costs l ≡ cost_at (label_count file) (count_of file) (at_or_below file) l
    unfolding growth_of growing
    growth_cost = entries_filled (cost_at (label_count file) (count_of file) (at_or_below file)) (label_count file) l hl

    pub growth_ceiling : entries (growth_of file).ceilings l ≡ ceiling_at (label_count file) (count_of file) (at_or_below file) l
    unfolding growth_of growing
    growth_ceiling = entries_filled (ceiling_at (label_count file) (count_of file) (at_or_below file)) (label_count file) l hl

  -- one account more costs at least 1 and at most the ceiling, whatever accounts there are
  pub policy_grows : AcceptedPolicy file → (count : ℕ → ℕ) → (l : ℕ) → l < label_count file → Grows (label_count file) count (at_or_below file) l
  policy_grows ok count l hl = grows (policy_order file ok) count hl

  -- and every label is at or below itself
  pub policy_same : AcceptedPolicy file → (l : ℕ) → l < label_count file → at_or_below file l l ≡ true
  policy_same ok l hl = let O = policy_order file ok in test_yes O hl hl (O.same l hl)
