-- `line_parts::put_numbers` meets its contract.
use Rattle.buffers.proofs.Writes.{put_next}
use Rattle.plan_texts.specs.Listing.{numbers}
use Rattle.line_parts.proofs.put_numbers.Goals as goal

pub returns : goal.returns
unfolding numbers
returns c = put_next (put_next c.put_number-behind.ensures c.put_number-accounts.ensures) c.put_number.ensures
