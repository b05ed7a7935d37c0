-- `sha256::finish` meets its contract.
use mathlib.Core.Path.{◌∙◌}
use Prim.Native.Nat.{◌+◌, ◌*◌}
use native.Mathlib.Omega.{arith}
use lib.ListN.{length}
use Rattle.sha256.proofs.Last.{finished}
use Rattle.sha256.proofs.finish.Goals as goal

pub returns : goal.returns
returns c =
    let m = c.args.message.now in
    c.joined_bytes.ensures
    ∙ finished c.args.from m _ c.last_blocks-last.result c.absorb.new.h c.absorb-2.new.h
    (64 * c.args.blocks + length m) c.padded_end-end.result (omega arith) c.as_chunks.ensures.back
    c.padded_end-end.ensures c.last_blocks-last.ensures c.absorb.ensures c.absorb-2.ensures
