-- No figure is above 64, so each has at most two digits, and 1,024 bytes always have room for the text.
use Prim.Native.Nat.{ℕ, ◌/◌, ◌%◌, ◌≤◌, ◌<◌}
use mathlib.Core.Bool.{Bool, true, false, cond}
use mathlib.Core.List.{List, [], ◌∷◌}
use mathlib.Core.Path.{◌≡◌, refl, ap}
use native.Mathlib.Decide.{dec_le, ℕ_discrete}
use native.Mathlib.Omega.{arith}
use borrow.Author.Tests.{lt-ltb}
use lib.Dec.{ltb}
use lib.ListN.{length}
use Rattle.decimals.specs.Decimal.{digit, digits_before, decimal}
use Rattle.lists.proofs.Concat.{concat_short}
use Rattle.plan_answers.specs.Planned.{at_or_below}
use Rattle.plan_texts.proofs.Plans.{name_short}
use Rattle.policy_file.proofs.Demand1.{refused_zeros}
use Rattle.policy_file.proofs.Verdict.{bounds}
use Rattle.policy_file.specs.File.{count_of}
use Rattle.policy_file.specs.Whole.{policy_refusal, label_count, AcceptedPolicy}
use Rattle.policy_file.specs.declared.Policy.{Policy}
use Rattle.trees.proofs.Growth.{cost_most, ceiling_short}
use Rattle.weights.specs.Tables.{entries}
use Rattle.growth_answers.proofs.GrowthAnswer.{room_cost, room_ceiling, full_none, growth_past, growth_cost, growth_ceiling, policy_grows}
use Rattle.growth_answers.proofs.GrowthParts.{some_length, figures_none, growth_line_length, growth_fits}
use Rattle.growth_answers.specs.Growing.{has_room, growth_of}
use Rattle.growth_answers.specs.GrowthListing.{growth_line, growth_text}

two_digits : (x : ℕ) → x < 100 → length (decimal x) ≤ 2
unfolding decimal digits_before
two_digits x h = go (ltb x 10) refl
  where
    go : (one : Bool) → ltb x 10 ≡ one → length (cond one (digit x ∷ []) (digits_before 9 (x / 10) (digit (x % 10) ∷ []))) ≤ 2
    go true e = omega arith
    go false e = rw (lt-ltb (x / 10) 10 (omega arith)) (omega arith)

module _ (file : List ℕ) (l : ℕ) where
  abbrev Small : Type 0
  Small = (entries (growth_of file).costs l ≤ 64) × (entries (growth_of file).ceilings l ≤ 64)

  -- a label of an accepted policy
  label_small : AcceptedPolicy file → l < label_count file → Small
  label_small ok hl = go (dec_le 65_535 (count l))
    where
      count : ℕ → ℕ
      count = count_of file

      le : ℕ → ℕ → Bool
      le = at_or_below file

      go : Dec (65_535 ≤ count l) → Small
      go (yes full) =
          let none = full_none (label_count file) count le l full in
          (omega (arith, growth_cost file l hl, none.0), omega (arith, growth_ceiling file l hl, none.1))
      go (no room) =
          let short = ceiling_short (label_count file) le l in (
            omega (arith, growth_cost file l hl, room_cost (label_count file) count le l (omega arith), cost_most (policy_grows file ok count l hl), short, (bounds file).0),
            omega (arith, growth_ceiling file l hl, room_ceiling (label_count file) count le l (omega arith), short, (bounds file).0),
          )

  -- a refused policy has no labels
  figures_small : Small
  figures_small = go (dec_le (label_count file) l) (ℕ_discrete (policy_refusal file) 0)
    where
      go : Dec (label_count file ≤ l) → Dec (policy_refusal file ≡ 0) → Small
      go (yes past) d = let none = growth_past file l past in (omega (arith, none.0), omega (arith, none.1))
      go (no d) (yes ok) = label_small ok (omega arith)
      go (no d) (no bad) = absurd (omega (arith, ap (λ (p : Policy). p.labels) (refused_zeros file (omega arith))))

  -- a line has at most 15 bytes: a name of 8, two figures of two digits, a space before each, and a line feed
  line_short : length (growth_line file (growth_of file) l) ≤ 15
  line_short = go (has_room (count_of file) l) refl
    where
      cost : ℕ
      cost = entries (growth_of file).costs l

      ceiling : ℕ
      ceiling = entries (growth_of file).ceilings l

      go : (room : Bool) → room ≡ has_room (count_of file) l → length (growth_line file (growth_of file) l) ≤ 15
      go true e =
          omega (
            arith,
            growth_line_length file (growth_of file) l true e,
            name_short file l,
            some_length cost ceiling refl,
            two_digits cost (omega (arith, figures_small.0)),
            two_digits ceiling (omega (arith, figures_small.1)),
          )
      go false e =
          omega (arith, growth_line_length file (growth_of file) l false e, name_short file l, ap length (figures_none cost ceiling refl))

-- 64 lines of 15 bytes
pub growth_suffices : (file : List ℕ) → length (growth_text file) ≤ 960
unfolding growth_text
growth_suffices file =
    omega (arith, concat_short (growth_line file (growth_of file)) 15 (line_short file) (growth_of file).labels, (growth_fits file refl).0)
