-- `chacha20::encrypt` meets its contract.
use mathlib.Core.Path.{◌≡◌, refl}
use Prim.Native.Nat.{◌+◌, ◌*◌, min}
use native.Mathlib.Omega.{arith}
use lib.ListN.{length}
use Rattle.chacha20.specs.Encryption.{encrypted}
use Rattle.chacha20.proofs.Stream.{done_none, done_turn, done_all}
use Rattle.chacha20.proofs.Encrypted.{key_stream, key_stream_wide}
use Rattle.chacha20.proofs.encrypt.Goals as goal

pub loop-j-init : goal.loop-j-init
loop-j-init c = done_none _ (key_stream_wide _ _ _) _

pub loop-j-preserved : goal.loop-j-preserved
loop-j-preserved c =
    let a = c.args in
    let end : c.min-end.result ≡ min (64 * c.loop-j.j + 64) (length a.text.now) = omega (arith, c.min-end.ensures) in
    done_turn (key_stream a.key a.counter a.nonce) (key_stream_wide _ _ _) a.text.now c.loop-j.text c.block-stream.result c.xor_into.new.part
    c.loop-j.j (64 * c.loop-j.j) c.min-end.result refl (omega arith) end c.loop-j.invariant c.block-stream.ensures c.xor_into.ensures

pub returns : goal.returns
unfolding encrypted
returns c =
    let a = c.args in
    done_all (key_stream a.key a.counter a.nonce) (key_stream_wide _ _ _) a.text.now c.loop-j.text c.loop-j.j (omega arith) c.loop-j.invariant
