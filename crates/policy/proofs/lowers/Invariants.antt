-- `policy::lowers` meets its contract. Invariant: the lowers of the pairs gone through are found.
use mathlib.Core.Path.{◌≡◌}
use Rattle.lists.specs.Tables.{listed}
use Rattle.policy_file.specs.Whole.{is_lower}
use Rattle.policy.proofs.lowers.Given as goal

abbrev pub invariant-loop-pair : goal.invariant-loop-pair
invariant-loop-pair l = l.found ≡ listed (is_lower l.fn.over l.pair-index) 256
