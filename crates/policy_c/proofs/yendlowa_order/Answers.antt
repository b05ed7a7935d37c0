-- `policy_c::yendlowa_order` meets its contract: the refusal is the policy's, and the line that of its order.
use mathlib.Core.Path.{◌≡◌, ap, ap₂, ◌∙◌}
use Prim.Native.Nat.{ℕ}
use mathlib.Core.Bool.{Bool}
use mathlib.Core.List.{List}
use lib.ListN.{take}
use Rattle.order.specs.Table.{order_table}
use Rattle.policy_file.proofs.Answer.{over_order}
use Rattle.policy_file.specs.Whole.{order_of}
use Rattle.policy_file.specs.declared.Policy.{Policy}
use Rattle.policy_c.specs.Order.{in_line, rows_of}
use Rattle.policy_c.specs.declared.Rows.{Rows}
use Rattle.policy_c.proofs.yendlowa_order.Goals as goal

abbrev rows_with : ℕ → List Bool → Rows
rows_with number line = record { refusal = number; rows = line }

pub returns : goal.returns
unfolding rows_of
returns c =
    let file = c.args.policy.now in
    let same = c.read_policy-read.ensures in
    let built : c.order_table-table.result ≡ order_of file =
    c.order_table-table.ensures
    ∙ ap (λ (p : Policy). order_table p.labels (take p.pairs p.over)) same
    ∙ over_order file in
    ap₂ rows_with (ap (λ (p : Policy). p.refusal) same) (c.in_line-line.ensures ∙ ap in_line built)
