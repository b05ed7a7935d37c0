-- `listings::put_lines` meets its contract. Invariant: the first m lines are written.
use Rattle.std.proofs.Common.{◌≡◌, length}
use Rattle.buffers.specs.Put.{Put}
use Rattle.lists.specs.Tables.{concat_below}
use Rattle.listings.proofs.put_lines.Given as goal

abbrev pub invariant-loop-m : goal.invariant-loop-m
invariant-loop-m g l =
    (length l.out ≡ length l.initial.out) × Put l.initial.out l.out l.start (concat_below (g.L.Lines.line l.lines) l.m) l.at
