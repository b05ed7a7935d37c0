-- `refusals::put_line` meets its contract: the words, and a line feed.
use mathlib.Core.Path.{ap, ◌∙◌}
use native.Mathlib.Omega.{arith}
use lib.ListN.{length}
use Rattle.buffers.proofs.Writes.{put_length, put_next}
use Rattle.refusals.proofs.Meaning.{words_short}
use Rattle.refusals.specs.Refusals.{words_line}
use Rattle.refusals.proofs.put_line.Goals as goal

pub put_bytes-end-requires : goal.put_bytes-end-requires
put_bytes-end-requires c = omega (arith, ap length (c.as_bytes.ensures.value ∙ c.meaning.ensures), words_short c.args.number)

pub put_bytes-requires : goal.put_bytes-requires
put_bytes-requires c =
    let p = c.put_bytes-end.ensures in
    omega (arith, p.behind, put_length p, ap length (c.as_bytes.ensures.value ∙ c.meaning.ensures), words_short c.args.number)

pub returns : goal.returns
unfolding words_line
returns c = put_next (rw (c.as_bytes.ensures.value ∙ c.meaning.ensures) at c.put_bytes-end.ensures) c.put_bytes.ensures
