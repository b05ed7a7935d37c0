-- A label's choice from what the loop has in hand, and from fewer labels.
use Prim.Native.Nat.{ℕ, ◌<◌}
use mathlib.Core.Bool.{Bool}
use mathlib.Core.Logic.{◌⊎◌, inl, inr, ◌≢◌}
use mathlib.Core.Path.{◌≡◌, refl, sym, ap₂, ◌∙◌}
use Rattle.trees.specs.Trees.{top}
use Rattle.trees.specs.Weights.{weight, best, plan}
use Rattle.trees.proofs.Order.{is_top}
use Rattle.weights.specs.Tables.{held_weight, Falls}
use Rattle.parents.specs.Choices.{choice_of}
use Rattle.parents.specs.declared.Choice.{Choice}
use Rattle.weights.proofs.Reading.{held_weight_top, held_weight_under}
use Rattle.parents.proofs.Short.{weight_short, plan_short}

abbrev choice : ℕ → ℕ → Choice
choice p w = record { parent = p; weight = w }

module _ (n : ℕ) (count : ℕ → ℕ) (le : ℕ → ℕ → Bool) (m : ℕ) where
  -- the top's
  pub choice_top : m ≡ top → (w : ℕ) → w ≡ count top → choice top w ≡ choice_of n count le m
  unfolding choice_of plan best
  choice_top q w e = ap₂ choice (rw q refl) (e ∙ sym (held_weight_top n count le (plan n count le) m q))

  -- another label's: the best of the labels below it
  pub choice_under : m ≢ top → (b w : ℕ) → b ≡ best n count le m m → w ≡ weight n count le b m → choice b w ≡ choice_of n count le m
  unfolding choice_of plan
  choice_under ne b w eb ew = ap₂ choice eb (ew ∙ rw eb (sym (held_weight_under n count le (plan n count le) m ne)))

module _ (count : ℕ → ℕ) (le : ℕ → ℕ → Bool) (falls : Falls le) (m n k : ℕ) (hn : m < n) (hk : m < k) where
  held_short : (m ≡ top) ⊎ (m ≢ top) → held_weight k count le (plan k count le) m ≡ held_weight n count le (plan n count le) m
  unfolding plan
  held_short (inl q) = held_weight_top k count le (plan k count le) m q ∙ sym (held_weight_top n count le (plan n count le) m q)
  held_short (inr ne) =
      held_weight_under k count le (plan k count le) m ne
      ∙ weight_short count le falls m n k hn hk (plan k count le m)
      ∙ rw (plan_short count le falls m n k hn hk) (sym (held_weight_under n count le (plan n count le) m ne))

  -- the choice is the same whatever the number of labels past m
  pub choice_short : choice_of k count le m ≡ choice_of n count le m
  unfolding choice_of plan
  choice_short = ap₂ choice (plan_short count le falls m n k hn hk) (held_short (is_top m))
