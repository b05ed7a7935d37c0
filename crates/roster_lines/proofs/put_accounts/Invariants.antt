-- `roster_lines::put_accounts` meets its contract. Invariant: the lines of the first i accounts are written.
use mathlib.Core.Path.{◌≡◌}
use lib.ListN.{length}
use Rattle.buffers.specs.Put.{Put}
use Rattle.lists.specs.Tables.{concat_below}
use Rattle.roster_answers.specs.RosterText.{line_at}
use Rattle.roster_lines.proofs.put_accounts.Given as goal

abbrev pub invariant-loop-i : goal.invariant-loop-i
invariant-loop-i l = (length l.out ≡ length l.initial.out) × Put l.initial.out l.out 0 (concat_below (line_at l.policy l.fn.roster) l.i) l.at
