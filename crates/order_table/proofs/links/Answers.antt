-- `order_table::links` meets its contract. The loop's invariant: the table says what the pairs gone through do.
use mathlib.Core.Logic.{inl, inr}
use mathlib.Core.Path.{sym}
use native.Mathlib.Omega.{arith}
use lib.ListN.{take}
use lib.Seq.{take_all}
use Rattle.order_table.proofs.Turns.{no_links, linked_down, lower_past, upper_past}
use Rattle.order_table.proofs.links.Goals as goal
use Rattle.order_table.proofs.links.Goals.{then-upper-lt64+then-lower-lt64, else-upper-lt64}

pub loop-pair-init : goal.loop-pair-init
loop-pair-init c = no_links _

pub loop-pair-preserved : goal.loop-pair-preserved
loop-pair-preserved c =
    let h = c.loop-pair in
    let over = take c.args.pairs c.args.over in
    let upper = c.from-upper in
    let lower = c.from-lower in
    elim c.if-upper-lt64.branch [
      | then-upper-lt64+then-lower-lt64 w ↦ rw w.table-is (linked_down h.table over h.pair-index (omega arith) h.invariant upper.result lower.result upper.ensures lower.ensures w.if-upper-lt64.true w.if-lower-lt64.true)
      | else-upper-lt64 w ↦ rw w.table-is (elim w.else-upper-lt64.either [
        | inl past ↦ lower_past h.table over h.pair-index (omega arith) h.invariant lower.result lower.ensures past.1
        | inr past ↦ upper_past h.table over h.pair-index (omega arith) h.invariant upper.result upper.ensures past
      ])
    ]

pub returns : goal.returns
returns c =
    let h = c.loop-pair in
    let over = take c.args.pairs c.args.over in
    rw (sym (take_all h.pair-index over (omega arith))) h.invariant.links
