-- `label_lines::put_names` meets its contract. Invariant: the lines of the first k labels are written.
use Rattle.buffers.specs.Put.{Put}
use Rattle.label_lines.specs.Labels.{name_lines}
use Rattle.label_lines.proofs.put_names.Given as goal

abbrev pub invariant-loop-k : goal.invariant-loop-k
invariant-loop-k l = Put l.initial.out l.out l.start (name_lines l.names l.k) l.at
