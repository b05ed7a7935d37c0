-- `outcomes::answer` meets its contract: the text is kept as it is.
use mathlib.Core.Path.{refl, sym, ◌∙◌}
use Rattle.buffers.proofs.Writes.{put_front}
use Rattle.decimals.proofs.Printed.{printed_accepted}
use Rattle.outcomes.proofs.answer.Goals as goal

pub returns : goal.returns
returns c = (refl, (refl, put_front c.put_bytes-length.ensures ∙ sym (printed_accepted c.args.text.now refl)))
