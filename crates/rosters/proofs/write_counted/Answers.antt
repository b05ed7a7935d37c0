-- `rosters::write_counted` meets its contract: the policy with the counts is in the buffer's first bytes.
use Rattle.std.proofs.Common.{refl, arith, rules}
use Rattle.roster_answers.proofs.Counted.{counted_number, counted_front, front_size, front_within}
use Rattle.rosters.proofs.write_counted.Goals as goal

pub returns-then-written-ne0 : goal.returns-then-written-ne0
returns-then-written-ne0 g c =
    let a = c.args in
    let number = counted_number a.policy.now a.roster.now c.count_policy-written.ensures.0 in
    record { refuses = λ ne. (rw (← number) c.refuse.ensures, refl); accepts = λ none. absurd (omega (arith, number, none)) }

pub slice_bounds-counted-end : goal.slice_bounds-counted-end
slice_bounds-counted-end g c =
    let a = c.args in
    let p = c.count_policy-written in
    front_within a.policy.now a.roster.now p.ensures.0 (omega arith) p.ensures.1

pub slice_bounds-write-end : goal.slice_bounds-write-end
slice_bounds-write-end g c =
    let a = c.args in
    let p = c.count_policy-written in
    front_size a.policy.now a.roster.now p.ensures.0 (omega arith) p.ensures.1

pub returns : goal.returns
returns g c =
    let a = c.args in
    let p = c.count_policy-written in
    let number = counted_number a.policy.now a.roster.now p.ensures.0 in
    let front = counted_front a.policy.now a.roster.now p.ensures.0 (omega arith) p.ensures.1 in
    record { refuses = λ ne. absurd (ne (omega (arith, number))); accepts = λ ok. rw (← front) (search rules) }
