-- What one more account costs at the labels of a policy follows from the file's first 2,828 bytes, and so does the text.
use Prim.Native.Nat.{ℕ, ◌≤◌}
use mathlib.Core.Bool.{Bool}
use mathlib.Core.List.{List}
use mathlib.Core.Path.{◌≡◌, refl, ap₂, ◌∙◌}
use native.Mathlib.Omega.{arith}
use lib.ListN.{take}
use Rattle.lists.proofs.Concat.{concat_same}
use Rattle.plan_answers.proofs.Front.{test_same}
use Rattle.plan_texts.proofs.Printed.{printed_same}
use Rattle.policy_file.proofs.Front.{Agree, front_agrees}
use Rattle.policy_file.proofs.Verdict.{bounds}
use Rattle.policy_file.specs.File.{count_of}
use Rattle.policy_file.specs.Whole.{policy_refusal}
use Rattle.policy_file.specs.declared.Policy.{Policy}
use Rattle.growth_answers.proofs.GrowthAnswer.{growing_same}
use Rattle.growth_answers.proofs.GrowthParts.{growth_fits}
use Rattle.growth_answers.specs.Growing.{has_room, growing, growth_of}
use Rattle.growth_answers.specs.GrowthListing.{growth_line, growth_text}
use Rattle.growth_answers.specs.GrowthTextAnswer.{printed_growth}
use Rattle.growth_answers.specs.declared.Growth.{Growth}

module _ (a b : List ℕ) (same : Agree a b) where
  agree_growth : growth_of a ≡ growth_of b
  unfolding growth_of
  agree_growth =
      ap₂ (λ (s : Policy) (le : ℕ → ℕ → Bool). growing s.refusal s.labels (count_of a) le) same.verdict (test_same a b same)
      ∙ growing_same (λ l h. same.counts l (omega (arith, (bounds b).0))) (λ m l hm hl. refl) (policy_refusal b)

  line_same : (growth : Growth) (m : ℕ) → m ≤ 64 → growth_line a growth m ≡ growth_line b growth m
  unfolding growth_line has_room
  line_same growth m h = rw (same.names m h, same.counts m h)

  agree_text : growth_text a ≡ growth_text b
  unfolding growth_text
  agree_text =
      rw agree_growth
      (concat_same (growth_line a (growth_of b)) (growth_line b (growth_of b)) (growth_of b).labels
      (λ m h. line_same (growth_of b) m (omega (arith, (growth_fits b refl).0))))

-- any front part of at least 2,828 bytes
pub growth_front : (n : ℕ) → 2828 ≤ n → (file : List ℕ) → printed_growth file ≡ printed_growth (take n file)
unfolding printed_growth
growth_front n enough file = printed_same n enough file (agree_text file (take n file) (front_agrees n enough file))
