-- `writer::put_records` meets its contract. Invariant: whatever root the secrets are made from, the records of the labels before m are written.
use Prim.Native.Nat.{ℕ}
use mathlib.Core.List.{List}
use Rattle.buffers.specs.Put.{Put}
use Rattle.secrets.specs.Asks.{Made}
use Rattle.writer.specs.Tabled.{table_records}
use Rattle.writer.proofs.put_records.Given as goal

abbrev pub invariant-loop-m : goal.invariant-loop-m
invariant-loop-m l =
    (root : List ℕ) → Made l.policy l.parents root l.held l.secrets l.labels
    → Put l.initial.out l.out l.at (table_records l.policy l.rows l.parents root l.l l.m) l.end
