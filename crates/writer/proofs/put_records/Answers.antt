-- `writer::put_records` meets its contract. Invariant: whatever root the secrets are made from, the records of the labels before m are written.
use mathlib.Core.Path.{ap}
use native.Mathlib.Omega.{arith}
use lib.ListN.{length}
use Rattle.buffers.proofs.Writes.{put_nothing, put_next}
use Rattle.order.specs.Table.{entry_at}
use Rattle.policy_file.specs.File.{name_of}
use Rattle.weights.specs.Tables.{entries}
use Rattle.envelopes.specs.Envelope.{records_below}
use Rattle.record_writer.proofs.Parts.{put_as}
use Rattle.writer.proofs.Recorded.{records_more, records_same, records_fit, table_record}
use Rattle.writer.proofs.put_records.Goals as goal
use Rattle.writer.proofs.put_records.Goals.{then-inside, else-inside}

pub loop-m-preserved : goal.loop-m-preserved
loop-m-preserved c =
    let l = c.loop-m in
    let a = c.args in
    let name = name_of a.policy.now in
    let le = entry_at a.rows.now in
    let parent = entries a.parents.now in
    elim c.if-inside.branch [
      | then-inside w ↦ λ root made.
          let below = w.if-inside.true in
          let written = rw w.from.ensures at w.put_record-end.ensures in
          let is = table_record le a.l c.held_labels-held.ensures made c.places-below.ensures c.requires.0.falls l.m (omega arith) below in
          rw (w.out-is, w.end-is) (put_as (records_more name le parent root a.l l.m below) (put_next (l.invariant root made) (put_as is written)))
      | else-inside w ↦ λ root made.
          rw (w.out-is, w.end-is) (put_as (records_same name le parent root a.l l.m w.if-inside.false) (l.invariant root made))
    ]

pub put_record-end-requires : goal.put_record-end-requires
put_record-end-requires c =
    let l = c.loop-m in
    let a = c.args in
    let name = name_of a.policy.now in
    let le = entry_at a.rows.now in
    let parent = entries a.parents.now in
    let is = table_record le a.l c.held_labels-held.ensures c.make_secrets-secrets.ensures c.places-below.ensures c.requires.0.falls l.m (omega arith) c.if-inside.true in
    let fit = records_fit name le parent a.root a.l l.m a.labels (omega arith) c.if-inside.true in
    rw c.from.ensures (
      omega (arith, c.requires.0.few),
      omega (arith, c.requires.0.within),
      omega (arith, ap length is, fit, c.requires.2, (l.invariant a.root c.make_secrets-secrets.ensures).behind),
    )

pub loop-m-init : goal.loop-m-init
unfolding records_below
loop-m-init c = λ root made. put_nothing c.args.out.now c.args.at (omega (arith, c.requires.2))
