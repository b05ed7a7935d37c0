-- `compression::compress` meets its contract.
use lib.ListN.{replicate, drop}
use Rattle.compression.specs.Compression.{compressed}
use Rattle.compression.proofs.Schedule.{loaded_schedule}
use Rattle.compression.proofs.compress.Goals as goal

pub returns : goal.returns
unfolding compressed
returns c =
    let s = loaded_schedule c.args.block.now c.load.new.w (drop 16 (replicate 64 0)) c.load.ensures in
    rw (c.add_to.ensures, c.all_rounds-v.ensures, c.started.ensures, c.extend.ensures, s)
