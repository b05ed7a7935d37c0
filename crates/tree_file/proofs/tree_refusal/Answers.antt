-- `tree_file::tree_refusal` meets its contract: each answer by the tests that led there.
use Prim.Native.Nat.{ℕ, ◌+◌, ◌≤◌}
use mathlib.Core.Bool.{Bool, true, false}
use mathlib.Core.List.{List}
use mathlib.Core.Path.{◌≡◌, refl, sym, ◌∙◌}
use lib.ListN.{length}
use Rattle.format.specs.Bytes.{bytes_at, same_bytes}
use Rattle.format.specs.Marks.{TR}
use borrow.Author.Tests.{tests, le-ltb, eq-eqb}
use Rattle.std.proofs.Common.{rules}
use Rattle.std.proofs.lemmas.Iterator.{cases_from_all, YieldsList-from_range}
use native.Mathlib.Omega.{arith}
use Rattle.lists.proofs.Ranges.{every_answer}
use Rattle.lists.specs.Tables.{every_below}
use Rattle.order.specs.Table.{entry_at}
use Rattle.plan_answers.proofs.TreeChecks.{number_short, number_foreign, number_length, number_none}
use Rattle.plan_answers.specs.TreeFile.{hangs_at, tree_refusal}
use Rattle.tree_file.proofs.tree_refusal.Goals as goal
use Rattle.tree_file.proofs.tree_refusal.Goals.{then-tree-lt2-via-then-tree-lt2, then-tree-lt2-via-else-tree-lt2+then-not-marked}

pub returns-then-tree-lt2 : goal.returns-then-tree-lt2
returns-then-tree-lt2 c =
    let a = c.args in
    let le = entry_at a.rows.now in
    elim c.then-tree-lt2.branch [
      | then-tree-lt2-via-then-tree-lt2 w ↦ sym (number_short a.labels le a.tree.now w.if-tree-lt2.true)
      | then-tree-lt2-via-else-tree-lt2+then-not-marked w ↦ sym (number_foreign a.labels le a.tree.now w.if-tree-lt2.false (sym w.marked.ensures ∙ w.if-not-marked.true))
    ]

-- a byte that is not in order
number_some : (n : ℕ) (le : ℕ → ℕ → Bool) (tree : List ℕ) → 2 ≤ length tree → same_bytes (bytes_at tree 0 2) TR ≡ true → length tree ≡ 2 + n
    → every_below (hangs_at le tree) n ≡ false → tree_refusal n le tree ≡ 12
unfolding tree_refusal
number_some n le tree two mark whole e = rw (le-ltb (length tree) 2 two, mark, eq-eqb (length tree) (2 + n) whole, e)

pub returns-then-tree-labels : goal.returns-then-tree-labels
returns-then-tree-labels c =
    let a = c.args in
    sym (number_length a.labels (entry_at a.rows.now) a.tree.now (omega arith)
    (sym c.marked.ensures ∙ c.if-not-marked.false) (λ e. omega arith))

pub returns-then-not-all : goal.returns-then-not-all
returns-then-not-all c =
    let a = c.args in
    let hangs = hangs_at (entry_at a.rows.now) a.tree.now in
    let all : c.all.result ≡ every_below hangs a.labels =
    every_answer hangs a.labels c.all.result
    (cases_from_all _ _ _ (λ m. hangs m ≡ true) (λ m. hangs m ≡ false) c.all.ensures.ran (YieldsList-from_range 0 a.labels a.labels refl (omega arith)) (λ x q k. search (rules, tests)) (λ x q k. search (rules, tests))) in
    sym (number_some a.labels (entry_at a.rows.now) a.tree.now (omega arith) (sym c.marked.ensures ∙ c.if-not-marked.false) (omega arith) (sym all ∙ c.if-not-all.true))

pub returns : goal.returns
returns c =
    let a = c.args in
    let hangs = hangs_at (entry_at a.rows.now) a.tree.now in
    let all : c.all.result ≡ every_below hangs a.labels =
    every_answer hangs a.labels c.all.result
    (cases_from_all _ _ _ (λ m. hangs m ≡ true) (λ m. hangs m ≡ false) c.all.ensures.ran (YieldsList-from_range 0 a.labels a.labels refl (omega arith)) (λ x q k. search (rules, tests)) (λ x q k. search (rules, tests))) in
    sym (number_none a.labels (entry_at a.rows.now) a.tree.now (omega arith) (sym c.marked.ensures ∙ c.if-not-marked.false) (omega arith) (sym all ∙ c.if-not-all.false))
