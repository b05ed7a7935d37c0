-- No envelope has more than 64 labels.
use Prim.Native.Nat.{ℕ, ◌≤◌}
use mathlib.Core.List.{List}
use mathlib.Core.Path.{◌≡◌}
use native.Mathlib.Decide.{ℕ_discrete}
use native.Mathlib.Omega.{arith}
use borrow.Author.Tests.{eq-eqb, ne_eqb}
use Rattle.envelope_file.proofs.Lawful.{records_few}
use Rattle.envelope_file.specs.Labels.{envelope_labels}
use Rattle.envelope_file.specs.Whole.{envelope_refusal}

pub labels_few : (file : List ℕ) → (envelope_labels file).labels ≤ 64
unfolding envelope_labels
labels_few file = go (ℕ_discrete (envelope_refusal file) 0)
  where
    go : Dec (envelope_refusal file ≡ 0) → (envelope_labels file).labels ≤ 64
    go (yes ok) = rw (eq-eqb (envelope_refusal file) 0 ok) (records_few file ok)
    go (no ne) = rw (ne_eqb (envelope_refusal file) 0 ne) (omega arith)
