-- `standings::states` meets its contract. Invariant: the first i accounts are in the table.
use mathlib.Core.Path.{◌≡◌}
use Rattle.lists.specs.Tables.{filled}
use Rattle.roster_answers.specs.Standings.{state_number}
use Rattle.standings.proofs.Turns.{numbered}
use Rattle.standings.proofs.states.Given as goal

abbrev pub invariant-loop-i : goal.invariant-loop-i
invariant-loop-i l = l.table ≡ filled 4096 0 (numbered state_number l.roster) l.i
