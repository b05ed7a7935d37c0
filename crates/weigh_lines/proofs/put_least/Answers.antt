-- `weigh_lines::put_least` meets its contract.
use Rattle.decimals.specs.Text.{bytes_of}
use Rattle.weigh_lines.specs.Weighed.{least_line}
use Rattle.weigh_lines.proofs.put_least.Goals as goal

pub returns-then-least : goal.returns-then-least
unfolding bytes_of least_line
returns-then-least c = rw c.if-least.true c.put_bytes.ensures

pub returns-else-least : goal.returns-else-least
unfolding bytes_of least_line
returns-else-least c = rw c.if-least.false c.put_bytes-else-least.ensures
