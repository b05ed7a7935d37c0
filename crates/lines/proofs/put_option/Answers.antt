-- `lines::put_option` meets its contract.
use Rattle.buffers.proofs.Writes.{put_nothing}
use Rattle.lines.specs.Lines.{option_line}
use borrow.Author.Rules.{rules}
use Rattle.lines.proofs.put_option.Goals as goal

pub returns-then-option : goal.returns-then-option
unfolding option_line
returns-then-option c = rw c.if-option.true c.put_fingerprint.ensures

pub returns-else-option : goal.returns-else-option
unfolding option_line
returns-else-option c = rw c.if-option.false (put_nothing _ _ (search rules))
