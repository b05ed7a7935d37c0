-- The parts of the growth text, and their lengths.
use Prim.Native.Nat.{ℕ, ◌+◌, ◌*◌, ◌≤◌}
use mathlib.Core.Bool.{Bool, true, false}
use mathlib.Core.List.{List, [], ◌∷◌, ◌++◌}
use mathlib.Core.Path.{◌≡◌, ap}
use native.Mathlib.Omega.{arith}
use lib.ListN.{length, get_or, length-append}
use Rattle.decimals.specs.Decimal.{decimal}
use Rattle.decimals.specs.Worded.{space, newline}
use Rattle.format.specs.Names.{unpadded}
use Rattle.policy_file.proofs.Verdict.{bounds}
use Rattle.policy_file.specs.File.{name_of, count_of}
use Rattle.policy_file.specs.Whole.{policy_refusal, label_count}
use Rattle.growth_answers.specs.Growing.{has_room, growing, growth_of}
use Rattle.growth_answers.specs.GrowthListing.{figures, growth_line}
use Rattle.growth_answers.specs.declared.Growth.{Growth}

-- two numbers, or two dashes, each after a space
module _ (cost ceiling : ℕ) {room : Bool} where
  pub figures_some : room ≡ true → figures room cost ceiling ≡ (space ++ decimal cost) ++ (space ++ decimal ceiling)
  unfolding figures
  figures_some e = rw e

  pub figures_none : room ≡ false → figures room cost ceiling ≡ 32 ∷ 45 ∷ 32 ∷ 45 ∷ []
  unfolding figures
  figures_none e = rw e

  pub some_length : room ≡ true → length (figures room cost ceiling) ≡ length (decimal cost) + length (decimal ceiling) + 2
  some_length e = rw (figures_some e) (simp length-append (omega arith))

module _ (file : List ℕ) (growth : Growth) (m : ℕ) where
  abbrev cost : ℕ
  cost = get_or growth.costs m 0

  abbrev ceiling : ℕ
  ceiling = get_or growth.ceilings m 0

  module _ (room : Bool) (e : room ≡ has_room (count_of file) m) where
    pub growth_line_parts : growth_line file growth m ≡ unpadded (name_of file m) ++ figures room cost ceiling ++ newline
    unfolding growth_line
    growth_line_parts = rw e

    pub growth_line_length : length (growth_line file growth m) ≡ length (unpadded (name_of file m)) + length (figures room cost ceiling) + 1
    growth_line_length = rw growth_line_parts (simp length-append)

module _ (file : List ℕ) {growth : Growth} (same : growth ≡ growth_of file) where
  -- its refusal is the policy's, and its labels lie within the file
  pub growth_number : growth.refusal ≡ policy_refusal file
  unfolding growth_of growing
  growth_number = ap (λ (g : Growth). g.refusal) same

  growth_labels : growth.labels ≡ label_count file
  unfolding growth_of growing
  growth_labels = ap (λ (g : Growth). g.labels) same

  pub growth_fits : (growth.labels ≤ 64) × (12 * growth.labels ≤ length file)
  growth_fits = (omega (arith, growth_labels, (bounds file).0), omega (arith, growth_labels, bounds file))
