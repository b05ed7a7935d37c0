-- `tallies::tally` meets its contract. Invariant: the accounts so far are counted.
use Prim.Native.Nat.{◌+◌}
use mathlib.Core.Path.{◌≡◌}
use Rattle.lists.specs.Tables.{listed}
use Rattle.tallies.specs.Tally.{count_to}
use Rattle.tallies.proofs.tally.Given as goal

abbrev pub invariant-loop-account : goal.invariant-loop-account
invariant-loop-account l = l.counts ≡ listed (count_to l.fn.roster (l.account-index + 1)) 64
