-- `policy_c::in_line` meets its contract. Invariant: the first i entries are filled in.
use mathlib.Core.Bool.{false}
use mathlib.Core.Path.{◌≡◌}
use Rattle.lists.specs.Tables.{filled}
use Rattle.policy_c.specs.Order.{line_entry}
use Rattle.policy_c.proofs.in_line.Given as goal

abbrev pub invariant-loop-i : goal.invariant-loop-i
invariant-loop-i l = l.line ≡ filled 4096 false (line_entry l.table) l.i
