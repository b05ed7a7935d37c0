-- `hmac::mask` meets its contract.
use lib.Bits.{bit_xor}
use lib.ListN.{get_or}
use borrow.Author.Rules.{rules}
use Rattle.std.proofs.lemmas.List.{get_or_default}
use Rattle.std.proofs.lemmas.List.Edits.{map_over_more}
use Rattle.hmac.proofs.mask.Goals as goal

pub loop-byte-preserved : goal.loop-byte-preserved
loop-byte-preserved c =
    let bytes = c.loop-byte.byte-items in
    let i = c.loop-byte.byte-index in
    map_over_more (λ x. bit_xor x c.args.pad) c.args.block bytes i (get_or bytes i 0) (search rules) c.loop-byte.invariant
    (get_or_default bytes i 0 (get_or bytes i 0) (search rules))
