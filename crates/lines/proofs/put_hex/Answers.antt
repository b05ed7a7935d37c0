-- `lines::put_hex` meets its contract.
use native.Mathlib.Omega.{arith}
use Rattle.buffers.proofs.Handed.{front_length}
use Rattle.buffers.proofs.Writes.{put_front, put_length, put_next}
use Rattle.lines.specs.Lines.{hex_line}
use Rattle.lines.proofs.Digits.{digits_put, digits_length}
use borrow.Author.Rules.{rules}
use Rattle.lines.proofs.put_hex.Goals as goal

pub returns : goal.returns
unfolding hex_line
returns c =
    let q = c in
    let p = q in
    let h = p in
    let put = digits_put _ _ (search rules) (search rules) h.hex-written.ensures.0 h.hex-written.ensures.1 in
    put_next (rw (put_front put) at p.put_bytes-end.ensures) q.put_bytes.ensures

pub slice_bounds-digits-end : goal.slice_bounds-digits-end
slice_bounds-digits-end c = let h = c in
    let put = digits_put _ _ (search rules) (search rules) h.hex-written.ensures.0 h.hex-written.ensures.1 in
    omega (arith, put.fits, put.behind, put_length put)

pub slice_bounds-put_bytes-end : goal.slice_bounds-put_bytes-end
slice_bounds-put_bytes-end c = let h = c in
    front_length (digits_put _ _ (search rules) (search rules) h.hex-written.ensures.0 h.hex-written.ensures.1)

pub put_bytes-end-requires : goal.put_bytes-end-requires
put_bytes-end-requires c = let h = c in
    let put = digits_put _ _ (search rules) (search rules) h.hex-written.ensures.0 h.hex-written.ensures.1 in
    omega (arith, front_length put, digits_length _ _ (search rules) (search rules) h.hex-written.ensures.0 h.hex-written.ensures.1)

pub put_bytes-requires : goal.put_bytes-requires
put_bytes-requires c =
    let p = c in
    let h = p in
    let put = digits_put _ _ (search rules) (search rules) h.hex-written.ensures.0 h.hex-written.ensures.1 in
    omega (arith, p.put_bytes-end.ensures.behind, put_length p.put_bytes-end.ensures, front_length put, digits_length _ _ (search rules) (search rules) h.hex-written.ensures.0 h.hex-written.ensures.1)
