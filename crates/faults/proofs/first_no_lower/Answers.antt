-- `faults::first_no_lower` meets its contract: the search's answer is the definition's.
use mathlib.Core.Bool.{true, false}
use mathlib.Core.Path.{◌≡◌, ◌∙◌}
use native.Mathlib.Omega.{arith}
use borrow.Author.Tests.{tests}
use Rattle.std.proofs.Common.{rules}
use Rattle.std.proofs.lemmas.Iterator.{first_from_Range}
use Rattle.faults.proofs.Searches.{first_found, lacks, no_lowers}
use Rattle.faults.proofs.first_no_lower.Goals as goal

pub returns : goal.returns
returns c =
    let a = c.args in
    let lower = c.lowers-lower in
    first_found (lacks lower.result) 1 a.labels c.find.result
    (first_from_Range _ _ _ _ (λ m. lacks lower.result m ≡ true) (λ m. lacks lower.result m ≡ false) c.find.ensures.ran (λ x q k. search (rules, tests)) (λ x q k. search (rules, tests)))
    ∙ no_lowers a.over a.pairs a.labels lower.result lower.ensures (omega arith)
