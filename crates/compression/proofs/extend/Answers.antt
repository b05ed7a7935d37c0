-- `compression::extend` meets its contract.
use mathlib.Core.Path.{sym}
use native.Mathlib.Omega.{arith}
use lib.ListN.{take-append-drop}
use Rattle.compression.specs.Compression.{extended}
use Rattle.compression.proofs.Schedule.{extend_turn}
use Rattle.compression.proofs.extend.Goals as goal

pub loop-t-init : goal.loop-t-init
unfolding extended
loop-t-init c = sym (take-append-drop 16 c.args.w.now)

pub loop-t-preserved : goal.loop-t-preserved
loop-t-preserved c =
    rw (c.small_sigma0.ensures, c.small_sigma1.ensures)
    (extend_turn c.args.w.now c.requires c.loop-t.w c.loop-t.t (omega arith) (omega arith) c.loop-t.invariant)
