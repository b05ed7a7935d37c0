-- `policy::all_placed` meets its contract: the test of the labels from 1 on is the definition's.
use mathlib.Core.Bool.{true, false}
use mathlib.Core.Path.{◌≡◌, refl}
use Prim.Native.Nat.{◌-◌}
use native.Mathlib.Omega.{arith}
use borrow.Author.Tests.{tests}
use Rattle.std.proofs.Common.{rules, get_or}
use Rattle.std.proofs.lemmas.Iterator.{cases_from_all, YieldsList-from_range}
use Rattle.lists.proofs.Ranges.{range_answer}
use Rattle.policy.proofs.Ends.{checked}
use Rattle.policy.proofs.all_placed.Goals as goal

pub returns : goal.returns
returns c =
    let a = c.args in
    let lower = c.lowers-lower in
    let numbers = YieldsList-from_range 1 a.labels (a.labels - 1) refl refl in
    checked a.over a.pairs a.labels lower.result lower.ensures (omega arith) c.all.result
    (range_answer 1 (a.labels - 1) _ _ c.all.result
    (cases_from_all _ _ _ (λ m. get_or lower.result m false ≡ true) (λ m. get_or lower.result m false ≡ false) c.all.ensures.ran numbers (λ x q k. search (rules, tests)) (λ x q k. search (rules, tests))))
