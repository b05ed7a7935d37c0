-- `label_issue::issue_label` meets its contract.
use native.Mathlib.Omega.{arith}
use lib.ListN.{length}
use Rattle.order.specs.Table.{entry_at}
use Rattle.weights.specs.Tables.{entries}
use Rattle.buffers.proofs.Handed.{front_handed, front_left}
use Rattle.writer.specs.Tabled.{table_envelope}
use Rattle.label_issue.proofs.Handing.{envelope_upto}
use Rattle.label_issue.proofs.issue_label.Goals as goal

pub returns : goal.returns
returns c =
    let h = c in
    let w = h in
    let a = w.args in
    let out = a.envelope.now in
    let e = table_envelope a.policy.now a.rows.now a.parents.now a.root a.l a.labels a.account in
    let put = w.write_envelope-length.ensures in
    (front_handed {s = e} put (length out) h.hand_out.ensures.0, front_left {s = e} put out h.hand_out.ensures.1)

pub write_envelope-length-requires : goal.write_envelope-length-requires
write_envelope-length-requires c =
    let s = c in
    let a = s.args in (
      s.requires.0,
      s.requires.1,
      envelope_upto a.policy.now (entry_at a.rows.now) (entries a.parents.now) a.root a.l (omega arith) a.labels a.account s.requires.0.few,
    )
