-- `costs::one_more_lem` meets its contract.
use native.Mathlib.Omega.{arith}
use Rattle.costs.proofs.Turns.{more_held}
use Rattle.costs.proofs.one_more.Goals as goal

pub returns : goal.returns
returns c = more_held c.args.counts c.args.l _ (omega arith) (omega arith)
