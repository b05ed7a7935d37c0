-- `policy_reading::records_read` meets its contract: labels and pairs before the stop, at most 576.
use Prim.Native.Nat.{◌+◌}
use mathlib.Core.Path.{ap}
use native.Mathlib.Omega.{arith}
use Rattle.policy_file.proofs.Stopping.{stop_bounds}
use Rattle.policy_file.specs.Whole.{policy_records_read}
use Rattle.policy_file.specs.declared.Policy.{Policy}
use Rattle.policy_reading.proofs.records_read.Goals as goal

pub overflow_add-result : goal.overflow_add-result
overflow_add-result c =
    let h = stop_bounds c.args.policy.now in
    rw c.read_to_stop-stop.ensures (omega arith)

pub returns : goal.returns
unfolding policy_records_read
returns c = ap (λ (s : Policy). s.labels + s.pairs) c.read_to_stop-stop.ensures
