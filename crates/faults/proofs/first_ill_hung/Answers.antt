-- `faults::first_ill_hung` meets its contract: the search's answer is the definition's.
use mathlib.Core.Bool.{true, false, not}
use mathlib.Core.Path.{◌≡◌}
use borrow.Author.Tests.{tests}
use native.Mathlib.Nat.{sub-zero}
use Rattle.std.proofs.Common.{rules}
use Rattle.std.proofs.lemmas.Iterator.{first_from_Range}
use Rattle.order.specs.Table.{entry_at}
use Rattle.faults.proofs.Searches.{first_found}
use Rattle.faults.specs.Faults.{is_ill_hung}
use Rattle.faults.proofs.first_ill_hung.Goals as goal

pub returns : goal.returns
unfolding is_ill_hung
returns c =
    let a = c.args in
    let ill = is_ill_hung (entry_at a.rows.now) a.tree.now in
    rw sub-zero at (first_found ill 0 a.labels c.find.result
    (first_from_Range _ _ _ _ (λ m. ill m ≡ true) (λ m. ill m ≡ false) c.find.ensures.ran (λ x q k. search (rules, tests)) (λ x q k. search (rules, tests))))
