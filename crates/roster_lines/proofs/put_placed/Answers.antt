-- `roster_lines::put_placed` meets its contract: a number, a name and a word.
use native.Mathlib.Omega.{arith}
use Rattle.buffers.proofs.Writes.{put_next}
use Rattle.roster_answers.proofs.RosterParts.{placed_parts, placed_length}
use Rattle.roster_lines.proofs.put_placed.Goals as goal

pub put_decimal-behind-requires : goal.put_decimal-behind-requires
put_decimal-behind-requires c =
    let a = c.args in
    omega (arith, placed_length a.policy.now a.number a.l a.activity)

pub put_place-end-requires : goal.put_place-end-requires
put_place-end-requires c =
    let s = c in
    let a = s.args in
    (s.requires.0, omega (arith, placed_length a.policy.now a.number a.l a.activity))

pub put_activity-requires : goal.put_activity-requires
put_activity-requires c =
    let a = c.args in
    omega (arith, placed_length a.policy.now a.number a.l a.activity)

pub returns : goal.returns
returns c =
    let w = c in
    let p = w in
    let n = p in
    let a = n.args in
    rw (placed_parts a.policy.now a.number a.l a.activity)
    (put_next (put_next n.put_decimal-behind.ensures p.put_place-end.ensures) w.put_activity.ensures)
