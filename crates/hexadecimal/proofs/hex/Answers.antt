-- `hexadecimal::hex` meets its contract. Invariant: the digits of the first i bytes stand at the buffer's start.
use native.Mathlib.Omega.{arith}
use Rattle.hexadecimal.proofs.Hexadecimal.{printed_none, printed_refused, printed_length, printed_end, printed_more, printed_all}
use Rattle.hexadecimal.proofs.hex.Goals as goal

pub returns-then-out-bytes : goal.returns-then-out-bytes
returns-then-out-bytes c = let a = c.args in
    printed_refused a.bytes.now a.out.now c.refuse.ensures (omega arith)

pub loop-byte-init : goal.loop-byte-init
loop-byte-init c = let a = c.args in printed_none a.bytes.now a.out.now

pub put_bytes-at-requires : goal.put_bytes-at-requires
put_bytes-at-requires c =
    let a = c.args in
    let l = c.loop-byte in
    omega (arith, printed_length a.bytes.now a.out.now l.out l.at l.byte-index l.invariant, printed_end a.bytes.now a.out.now l.out l.at l.byte-index l.invariant)

pub loop-byte-preserved : goal.loop-byte-preserved
loop-byte-preserved c =
    let a = c.args in
    let l = c.loop-byte in
    printed_more a.bytes.now a.out.now l.out l.at l.byte-index l.invariant (omega arith) c.hex_byte.result c.hex_byte.ensures c.put_bytes-at.ensures

pub returns : goal.returns
returns c =
    let a = c.args in
    let l = c.loop-byte in
    rw c.wrote.ensures (printed_all a.bytes.now a.out.now l.out l.at l.byte-index l.invariant (omega arith))
