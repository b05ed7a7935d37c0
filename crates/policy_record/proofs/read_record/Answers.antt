-- `policy_record::read_record` meets its contract: each answer by the tests that led there.
use mathlib.Core.Path.{sym, ◌∙◌}
use native.Mathlib.Omega.{arith}
use Rattle.policy_record.proofs.OneRecord.{kind_end, kind_single, kind_marked, label_short, label_late, label_read, kind_foreign, over_short, over_read, over_unnamed}
use Rattle.policy_file.specs.Record.{with_name, record_at}
use Rattle.policy_record.proofs.read_record.Goals as goal

pub returns-then-left-eq0 : goal.returns-then-left-eq0
unfolding record_at with_name
returns-then-left-eq0 c =
    let a = c.args in
    let f = a.policy.now in
    rw (kind_end f a.labels a.pairs (omega arith)) c.unnamed.ensures

pub returns-then-left-eq1 : goal.returns-then-left-eq1
unfolding record_at with_name
returns-then-left-eq1 c =
    let a = c.args in
    let f = a.policy.now in
    rw (kind_single f a.labels a.pairs (omega arith)) c.unnamed-then-left-eq1.ensures

pub returns-then-left-lt4 : goal.returns-then-left-lt4
unfolding record_at with_name
returns-then-left-lt4 c =
    let a = c.args in
    let f = a.policy.now in
    rw (
      kind_marked f a.labels a.pairs (omega arith) (omega arith),
      over_short f a.labels a.pairs (sym c.marked.ensures ∙ c.if-marked.true) (omega arith),
    )
    c.unnamed-then-left-lt4.ensures

pub returns-then-marked : goal.returns-then-marked
unfolding record_at
returns-then-marked c =
    let a = c.args in
    let f = a.policy.now in
    rw (
      kind_marked f a.labels a.pairs (omega arith) (omega arith),
      over_read f a.labels a.pairs (sym c.marked.ensures ∙ c.if-marked.true) (omega arith),
      over_unnamed,
      ← c.read_over.ensures,
    )
    c.unnamed-then-marked.ensures

pub returns-then-left-lt12 : goal.returns-then-left-lt12
unfolding record_at with_name
returns-then-left-lt12 c =
    let a = c.args in
    let f = a.policy.now in
    rw (
      kind_marked f a.labels a.pairs (omega arith) (omega arith),
      label_short f a.labels a.pairs (sym c.marked-2.ensures ∙ c.if-marked-2.true) (omega arith),
    )
    c.unnamed-then-left-lt12.ensures

pub returns-then-pairs-gt0 : goal.returns-then-pairs-gt0
unfolding record_at with_name
returns-then-pairs-gt0 c =
    let a = c.args in
    let f = a.policy.now in
    rw (
      kind_marked f a.labels a.pairs (omega arith) (omega arith),
      label_late f a.labels a.pairs (sym c.marked-2.ensures ∙ c.if-marked-2.true) (omega arith) (omega arith),
    )
    c.unnamed-then-pairs-gt0.ensures

pub returns-then-marked-2 : goal.returns-then-marked-2
unfolding record_at
returns-then-marked-2 c =
    let a = c.args in
    let f = a.policy.now in
    rw (
      kind_marked f a.labels a.pairs (omega arith) (omega arith),
      label_read f a.labels a.pairs (sym c.marked-2.ensures ∙ c.if-marked-2.true) (omega arith) (omega arith),
    )
    c.read_label.ensures

pub returns : goal.returns
unfolding record_at with_name
returns c =
    let a = c.args in
    let f = a.policy.now in
    rw (
      kind_marked f a.labels a.pairs (omega arith) (omega arith),
      kind_foreign f a.labels a.pairs (sym c.marked-2.ensures ∙ c.if-marked-2.false) (sym c.marked.ensures ∙ c.if-marked.false),
    )
    c.unnamed-2.ensures
