-- `recounts::put_counts` meets its contract. Invariant: the first l counts are written.
use mathlib.Core.Path.{◌≡◌}
use Rattle.policy_file.specs.Counts.{recounted}
use Rattle.weights.specs.Tables.{entries}
use Rattle.recounts.proofs.put_counts.Given as goal

abbrev pub invariant-loop-l : goal.invariant-loop-l
invariant-loop-l s = s.file ≡ recounted s.initial.file (entries s.fn.counts) s.l
