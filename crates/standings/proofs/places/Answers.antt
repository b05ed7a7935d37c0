-- `standings::places` meets its contract. Invariant: the first i accounts are in the table.
use mathlib.Core.Path.{◌≡◌, ◌∙◌}
use native.Mathlib.Omega.{arith}
use Rattle.roster_answers.specs.Standings.{place_number, place_at}
use Rattle.standings.proofs.Turns.{none_numbered, one_numbered, all_numbered}
use Rattle.standings.proofs.places.Goals as goal

pub loop-i-init : goal.loop-i-init
loop-i-init c = none_numbered place_number c.args.roster

pub loop-i-preserved : goal.loop-i-preserved
loop-i-preserved c =
    let l = c.loop-i in
    one_numbered place_number c.args.roster l.i (omega arith) l.invariant c.place_number.ensures

pub returns : goal.returns
unfolding place_at
returns c =
    let l = c.loop-i in
    let end : l.i ≡ 4096 = omega arith in
    (rw end at l.invariant) ∙ all_numbered place_number c.args.roster
