-- `roster_stops::count_records` meets its contract. Invariant: so many records are counted up to byte `at`.
use Prim.Native.Nat.{◌-◌}
use mathlib.Core.Path.{ap, ◌∙◌}
use native.Mathlib.Omega.{arith}
use Rattle.roster_file.specs.File.{size_of}
use Rattle.roster_stops.proofs.Counting.{end_reached, refused_reached, counted_next}
use Rattle.roster_stops.proofs.count_records.Goals as goal

pub returns-then-size-eq0 : goal.returns-then-size-eq0
returns-then-size-eq0 c =
    let size = c.entry_size-size in
    let entry = c.read_entry-entry in
    let l = c.loop-at in
    let a = c.args in
    refused_reached a.policy.now a.labels a.file.now a.end l.records l.at l.invariant
    (size.ensures ∙ ap size_of entry.ensures) (omega arith) (omega arith)

pub loop-at-preserved : goal.loop-at-preserved
loop-at-preserved c =
    let size = c.entry_size-size in
    let entry = c.read_entry-entry in
    let l = c.loop-at in
    let a = c.args in
    counted_next a.policy.now a.labels a.file.now a.end l.records l.at l.invariant
    (size.ensures ∙ ap size_of entry.ensures) (omega arith) (omega arith)

pub returns : goal.returns
returns c =
    let l = c.loop-at in
    let a = c.args in
    end_reached a.policy.now a.labels a.file.now a.end l.records l.at l.invariant (omega arith)
