-- `writer::write_envelope` meets its contract.
use mathlib.Core.Path.{ap}
use native.Mathlib.Omega.{arith}
use lib.ListN.{length, length-append}
use Rattle.buffers.proofs.Writes.{put_next}
use Rattle.order.specs.Table.{entry_at}
use Rattle.policy_file.specs.File.{name_of}
use Rattle.weights.specs.Tables.{entries}
use Rattle.envelopes.specs.Envelope.{header, records_below}
use Rattle.record_writer.proofs.Parts.{put_as}
use Rattle.writer.specs.Tabled.{table_records}
use Rattle.writer.proofs.Recorded.{envelope_parts}
use Rattle.writer.proofs.write_envelope.Goals as goal

pub returns : goal.returns
unfolding name_of
returns c =
    let r = c in
    let h = r in
    let n = h in
    let a = n.args in
    let parts =
    envelope_parts (name_of a.policy.now) (entry_at a.rows.now) (entries a.parents.now) a.root a.l a.labels a.account
    n.read_name-name.result n.read_name-name.ensures in
    let records = table_records a.policy.now a.rows.now a.parents.now a.root a.l a.labels in
    put_as parts (put_next {t = records} h.put_header-behind.ensures r.put_records.ensures)

pub put_header-behind-requires : goal.put_header-behind-requires
unfolding name_of
put_header-behind-requires c =
    let n = c in
    let s = n in
    let a = s.args in
    let name = name_of a.policy.now in
    let le = entry_at a.rows.now in
    let parent = entries a.parents.now in
    let own = n.read_name-name.result in
    let parts = envelope_parts name le parent a.root a.l a.labels a.account own n.read_name-name.ensures in
    omega (arith, s.requires.2, ap length parts, length-append (header a.account own) (records_below name le parent a.root a.l a.labels))

pub put_records-requires : goal.put_records-requires
unfolding name_of
put_records-requires c =
    let h = c in
    let n = h in
    let s = n in
    let a = s.args in
    let name = name_of a.policy.now in
    let le = entry_at a.rows.now in
    let parent = entries a.parents.now in
    let own = n.read_name-name.result in
    let parts = envelope_parts name le parent a.root a.l a.labels a.account own n.read_name-name.ensures in
    let both = length-append (header a.account own) (records_below name le parent a.root a.l a.labels) in (
      s.requires.0,
      omega (arith, s.requires.0.few),
      omega (arith, s.requires.2, ap length parts, both, h.put_header-behind.ensures.behind),
    )
