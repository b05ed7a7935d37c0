-- `lines::put_key` meets its contract.
use native.Mathlib.Omega.{arith}
use Rattle.buffers.proofs.Writes.{put_length, put_next}
use Rattle.lines.specs.Lines.{key_text}
use Rattle.lines.proofs.Lengths.{hex_line_length}
use Rattle.lines.proofs.put_key.Goals as goal

pub returns : goal.returns
unfolding key_text
returns c =
    let o = c in
    put_next o.put_hex-end.ensures o.put_option.ensures

pub put_option-requires : goal.put_option-requires
put_option-requires c =
    let p = c.put_hex-end.ensures in
    omega (arith, p.behind, put_length p, hex_line_length c.args.key)
