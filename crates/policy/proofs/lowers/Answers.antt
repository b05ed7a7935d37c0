-- `policy::lowers` meets its contract. Invariant: the lowers of the pairs gone through are found.
use Prim.Native.Nat.{◌<◌}
use mathlib.Core.Path.{ap, ◌∙◌}
use native.Mathlib.Omega.{arith}
use Rattle.order.specs.declared.Pair.{Pair}
use Rattle.std.proofs.Common.{rules}
use Rattle.std.proofs.lemmas.List.{get_or-take, length-take}
use Rattle.policy.proofs.Ends.{no_lowers, lowers_more}
use Rattle.policy.proofs.lowers.Goals as goal

pub loop-pair-init : goal.loop-pair-init
loop-pair-init c = no_lowers c.args.over

pub loop-pair-preserved : goal.loop-pair-preserved
loop-pair-preserved c =
    let l = c.loop-pair in
    let a = c.args in
    let below : l.pair-index < a.pairs = omega (arith, length-take a.pairs a.over) in
    let low : c.from.result < 256 = search rules in
    let same = c.from.ensures ∙ ap (λ (p : Pair). p.lower) (get_or-take a.pairs a.over l.pair-index _ below) in
    rw l.invariant (lowers_more a.over l.pair-index c.from.result same low)
