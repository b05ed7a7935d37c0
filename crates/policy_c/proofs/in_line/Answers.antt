-- `policy_c::in_line` meets its contract. Invariant: the first i entries are filled in.
use mathlib.Core.Bool.{false}
use mathlib.Core.List.{append-nil}
use mathlib.Core.Path.{◌≡◌, refl}
use native.Mathlib.Omega.{arith}
use Rattle.lists.proofs.Tables.{fill_more}
use Rattle.lists.specs.Tables.{listed}
use Rattle.policy_c.specs.Order.{line_entry, in_line}
use Rattle.policy_c.proofs.in_line.Goals as goal

pub loop-i-init : goal.loop-i-init
unfolding listed
loop-i-init c = refl

pub loop-i-preserved : goal.loop-i-preserved
unfolding line_entry
loop-i-preserved c =
    let l = c.loop-i in
    let a = c.args in
    let entry : c.at_or_below.result ≡ line_entry a.table.now l.i = c.at_or_below.ensures in
    rw (l.invariant, entry) (fill_more (line_entry a.table.now) 4096 false l.i (omega arith))

pub returns : goal.returns
unfolding in_line
returns c =
    let l = c.loop-i in
    let a = c.args in
    let end : l.i ≡ 4096 = omega arith in
    rw (end, append-nil) at l.invariant
