-- `Records::none` meets its contract.
use Rattle.envelope_records.proofs.Kept.{none_located, none_placed, none_falling, first_here}
use Rattle.envelope_records.proofs.Records.none.Goals as goal

pub invariant_of-result : goal.invariant_of-result
invariant_of-result c = record { located = none_located; here = first_here c.args.envelope.now; within = c.requires }

pub invariant_of-result-2 : goal.invariant_of-result-2
invariant_of-result-2 c = record { placed = none_placed; falling = none_falling }
