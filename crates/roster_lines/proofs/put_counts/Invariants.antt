-- `roster_lines::put_counts` meets its contract. Invariant: the lines of the first l labels are written.
use mathlib.Core.Path.{◌≡◌}
use lib.ListN.{length}
use Rattle.buffers.specs.Put.{Put}
use Rattle.lists.specs.Tables.{concat_below}
use Rattle.roster_answers.specs.RosterText.{count_line}
use Rattle.weights.specs.Tables.{entries}
use Rattle.roster_lines.proofs.put_counts.Given as goal

abbrev pub invariant-loop-l : goal.invariant-loop-l
invariant-loop-l s = (length s.out ≡ length s.initial.out) × Put s.initial.out s.out s.start (concat_below (count_line s.policy (entries s.fn.counts)) s.l) s.at
