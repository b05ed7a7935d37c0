-- `sealing::put_sealed` meets its contract: the file part by part.
use native.Mathlib.Omega.{arith}
use Rattle.buffers.proofs.Writes.{put_length}
use Rattle.sealing.proofs.Laid.{after_cipher, whole}
use Rattle.sealing.proofs.put_sealed.Goals as goal

pub put_tag-requires : goal.put_tag-requires
put_tag-requires c =
    let e = c in
    let h = e in
    let s = h in
    let first = h.put_head-at.ensures in
    let second = e.put_ciphered-end.ensures in
    let end = after_cipher s.args.key s.args.name s.args.nonce s.args.text.now s.requires.0 s.requires.1 first second in
    (omega (arith, end), omega (arith, end, put_length first, put_length second, s.requires))

pub returns : goal.returns
returns c =
    let t = c in
    let e = t in
    let h = e in
    let s = h in
    whole s.args.key s.args.name s.args.nonce s.args.text.now s.requires.0 s.requires.1 h.put_head-at.ensures e.put_ciphered-end.ensures t.put_tag.ensures
