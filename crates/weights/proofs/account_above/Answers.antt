-- `weights::account_above` meets its contract.
use mathlib.Core.Path.{refl}
use native.Mathlib.Omega.{arith}
use Rattle.weights.specs.Tables.{accounts_above}
use Rattle.weights.proofs.account_above.Goals as goal

pub returns-then-rows-m : goal.returns-then-rows-m
unfolding accounts_above
returns-then-rows-m c =
    let k = c.accounts.ensures in
    (rw c.if-rows-m.true k.0, k.1)

pub returns-else-rows-m : goal.returns-else-rows-m
unfolding accounts_above
returns-else-rows-m c = (rw c.if-rows-m.false refl, omega arith)
