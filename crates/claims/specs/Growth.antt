-- The promise of 02's Ask 3, sentence by sentence: "For an accepted policy and a label with fewer than 65,535 accounts, one account more there raises
-- the plan's total by at least 1 and at most by the number of labels at or below it. Show this of the plan as it is." What `plan_policy` answers
-- stands in the plan_answers crate's specs/, what `growth_policy` and `growth_text` answer in the growth_answers crate's.
use Rattle.std.specs.Prelude.{ℕ, suc, ◌+◌, ◌≤◌, ◌<◌, ◌↔◌, ◌≡◌, length}
use mathlib.Core.List.{List, Memᴰ}
use Rattle.growth_answers.specs.Growing.{growth_of, refused_growth}
use Rattle.growth_answers.specs.GrowthListing.{growth_text}
use Rattle.growth_answers.specs.GrowthTextAnswer.{growth_written, growth_after}
use Rattle.plan_answers.specs.Planned.{planned, plan_of, at_or_below}
use Rattle.policy_file.specs.Counts.{with_count, OtherCounts}
use Rattle.policy_file.specs.File.{count_of}
use Rattle.policy_file.specs.Whole.{policy_refusal, label_count}
use Rattle.trees.specs.Growth.{one_more, below}
use Rattle.trees.specs.Trees.{Once}
use Rattle.weights.specs.Tables.{entries}
use Rattle.claims.specs.Demand1Texts.{OfWritten}
use Rattle.claims.specs.Published.{R}

-- "one account more there": the policy file with the count of label l raised by one
unfoldable pub raised : List ℕ → (l : ℕ) → List ℕ
raised file l = with_count file l (suc (count_of file l))

-- the labels "at or below it", ascending
abbrev pub labels_below : List ℕ → (l : ℕ) → List ℕ
labels_below file l = below (label_count file) (at_or_below file) l

-- the total of the plan for a policy's labels and order with these accounts
abbrev pub planned_total : List ℕ → (count : ℕ → ℕ) → ℕ
planned_total file count = (planned 0 (label_count file) count (at_or_below file)).total

-- for every accepted policy and every label l of it with fewer than 65,535 accounts
pub record Ask3 (file : List ℕ) (l : ℕ) : Type 0 where
  -- the file with one account more at label l is a policy that differs in that one count
  pub one_more_lem : OtherCounts file (raised file l) (one_more (count_of file) l)
  -- "one account more there raises the plan's total by at least 1"
  pub least : (plan_of file).total + 1 ≤ (plan_of (raised file l)).total
  -- "and at most by the number of labels at or below it"
  pub most : (plan_of (raised file l)).total ≤ (plan_of file).total + length (labels_below file l)
  -- these labels are listed, each once
  pub listed : (m : ℕ) → Memᴰ m (labels_below file l) ↔ ((m < label_count file) × R file m l)
  pub once : Once (labels_below file l)
  -- what `growth_policy` answers for the label: by how much exactly, and by how much at most
  pub cost : (plan_of file).total + entries (growth_of file).costs l ≡ (plan_of (raised file l)).total
  pub ceiling : entries (growth_of file).ceilings l ≡ length (labels_below file l)

-- the same for the labels of an accepted policy with any accounts, those of a roster for instance: what is planned for them, and for one more at label l
pub record OfAccounts (file : List ℕ) (count : ℕ → ℕ) (l : ℕ) : Type 0 where
  pub least : planned_total file count + 1 ≤ planned_total file (one_more count l)
  pub most : planned_total file (one_more count l) ≤ planned_total file count + length (labels_below file l)

-- every file, and every buffer `out`: what `growth_policy` answers beside that, and `growth_text`
pub record OfGrowth (file out : List ℕ) : Type 0 where
  pub number : (growth_of file).refusal ≡ policy_refusal file
  pub labels : (growth_of file).labels ≡ label_count file
  -- no figure for a label that has 65,535 accounts already, and none past the labels
  pub full : (l : ℕ) → 65_535 ≤ count_of file l → (entries (growth_of file).costs l ≡ 0) × (entries (growth_of file).ceilings l ≡ 0)
  pub past : (l : ℕ) → label_count file ≤ l → (entries (growth_of file).costs l ≡ 0) × (entries (growth_of file).ceilings l ≡ 0)
  -- demand 1: "A refused one yields zeros beside that number and changes nothing in the memory lent with it."
  pub zeros : 0 < policy_refusal file → growth_of file ≡ refused_growth (policy_refusal file)
  pub text : OfWritten (policy_refusal file) (growth_text file) (growth_written file (length out)) out (growth_after file out)
