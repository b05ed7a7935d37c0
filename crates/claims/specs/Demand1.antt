-- Demand 1 for policy files and tree files: "A policy file, tree file or key envelope that is handed in, be it empty, cut short or noise, comes out
-- either read or refused under a number from the list. A refused one yields zeros beside that number and changes nothing in the memory lent
-- with it." The rows of 01's table stand in words in the policy_file crate's specs/Rows.antt and in the plan_answers crate's specs/TreeRows.antt.
use Rattle.std.specs.Prelude.{ℕ, ◌+◌, ◌≤◌, ◌<◌, Bool, false, List, ◌↔◌, ◌⊎◌, ◌≡◌, length, take, replicate}
use Rattle.order.specs.Order.{AtOrBelow}
use Rattle.plan_answers.specs.Planned.{plan_of, refused_plan, rows_after}
use Rattle.plan_answers.specs.TreeRows.{NoTreeMark, OtherLength, NoParent, GivesTree}
use Rattle.plan_answers.specs.Weighing.{refused_weighed, weigh_of}
use Rattle.policy_c.specs.Order.{rows_of}
use Rattle.policy_file.specs.Rows.{stop_at, bytes_left, PolicyPasses, RefusedAt, NoMark, CutShort, LateLabel, TooMany, BadName, NameCarried, NoSuchLabel, NotAbove, Unplaced, NoneRefuses, ReachedInPolicy}
use Rattle.policy_file.specs.Whole.{policy_refusal, label_count, pair_count, pairs_of, policy_records_read, AcceptedPolicy, policy_of, refused_policy}

pub record Demand1 (file : List ℕ) : Type 0 where
  -- "comes out either read or refused under a number from the list"; an accepted file's number is 0, so never both
  pub answered : AcceptedPolicy file ⊎ ((1 ≤ policy_refusal file) × (policy_refusal file ≤ 10))
  -- "either read": what `read_policy` answers for an accepted file are its records' own counts and pairs, in file order
  pub read : AcceptedPolicy file → policy_of file ≡ stop_at file 0 (label_count file) (pair_count file)
  -- "A refused one yields zeros beside that number": the answers of `read_policy`, of `plan_policy` and `plan_order`, and the order answered to a
  -- caller in C, where 01 says "a yes or no is no"
  pub zeros : 0 < policy_refusal file → policy_of file ≡ refused_policy (policy_refusal file)
  pub plan_zeros : 0 < policy_refusal file → plan_of file ≡ refused_plan (policy_refusal file)
  pub order_zeros : 0 < policy_refusal file → rows_of file ≡ record { refusal = policy_refusal file; rows = replicate 4096 false }
  -- "and changes nothing in the memory lent with it": the rows lent to `plan_order`
  pub rows_kept : (rows : List (List Bool)) → 0 < policy_refusal file → rows_after file rows ≡ rows
  -- 01: "Given when, and only when reached": a number is answered exactly when all records before pass and its row holds
  pub empty : (policy_refusal file ≡ 1) ↔ (length file ≡ 0)
  pub no_mark : (policy_refusal file ≡ 2) ↔ ReachedInPolicy file NoMark
  pub cut_short : (policy_refusal file ≡ 3) ↔ ReachedInPolicy file CutShort
  pub late_label : (policy_refusal file ≡ 4) ↔ ReachedInPolicy file LateLabel
  pub too_many : (policy_refusal file ≡ 5) ↔ ReachedInPolicy file TooMany
  pub bad_name : (policy_refusal file ≡ 6) ↔ ReachedInPolicy file BadName
  pub name_carried : (policy_refusal file ≡ 7) ↔ ReachedInPolicy file NameCarried
  pub no_such_label : (policy_refusal file ≡ 8) ↔ ReachedInPolicy file NoSuchLabel
  pub not_above : (policy_refusal file ≡ 9) ↔ ReachedInPolicy file NotAbove
  pub unplaced : (policy_refusal file ≡ 10) ↔ ReachedInPolicy file Unplaced
  -- 01: "A policy that none of its own checks refuses is accepted."
  pub accepted : AcceptedPolicy file ↔ NoneRefuses file (label_count file) (pair_count file)
  -- `records_read` answers where reading stops, for every file: how many records stand before the first refused one, or all of them at the file's
  -- end; of the empty file none
  pub read_before : (labels pairs n : ℕ) → PolicyPasses file labels pairs → RefusedAt file labels pairs n → policy_records_read file ≡ labels + pairs
  pub read_all : (labels pairs : ℕ) → PolicyPasses file labels pairs → bytes_left file labels pairs ≡ 0 → policy_records_read file ≡ labels + pairs
  pub read_none : length file ≡ 0 → policy_records_read file ≡ 0
  -- The answer for a file is that for its first 2,828 bytes.
  pub front : policy_of file ≡ policy_of (take 2828 file)

-- a tree file that is offered with a policy
pub record Demand1OfTree (policy tree : List ℕ) : Type 0 where
  -- 01: "A refusal of the policy comes before any other in an operation that takes one"
  pub policy_first : 0 < policy_refusal policy → (weigh_of policy tree).refusal ≡ policy_refusal policy
  -- "A refused one yields zeros beside that number"
  pub zeros : 0 < (weigh_of policy tree).refusal → weigh_of policy tree ≡ refused_weighed (weigh_of policy tree).refusal
  -- "comes out either read or refused under a number from the list": with a policy that is accepted a number is given exactly when its row says
  -- so, and a file is read exactly when it gives a derivation tree
  pub no_mark : AcceptedPolicy policy → ((weigh_of policy tree).refusal ≡ 2) ↔ NoTreeMark tree
  pub other_length : AcceptedPolicy policy → ((weigh_of policy tree).refusal ≡ 11) ↔ OtherLength (label_count policy) tree
  pub no_parent : AcceptedPolicy policy → ((weigh_of policy tree).refusal ≡ 12) ↔ NoParent (label_count policy) (AtOrBelow (pairs_of policy)) tree
  pub read : AcceptedPolicy policy → ((weigh_of policy tree).refusal ≡ 0) ↔ GivesTree (label_count policy) (AtOrBelow (pairs_of policy)) tree
  pub answered : AcceptedPolicy policy
      → ((weigh_of policy tree).refusal ≡ 0) ⊎ ((weigh_of policy tree).refusal ≡ 2) ⊎ ((weigh_of policy tree).refusal ≡ 11) ⊎ ((weigh_of policy tree).refusal ≡ 12)
