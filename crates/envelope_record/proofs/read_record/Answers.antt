-- `envelope_record::read_record` meets its contract: each answer by the tests that led there.
use mathlib.Core.Path.{sym, ◌∙◌}
use native.Mathlib.Omega.{arith}
use Rattle.format.specs.Marks.{KD}
use Rattle.envelope_file.proofs.RecordTests.{kind_none, kind_end, kind_single, kind_foreign, held_short, held_whole, under_short, under_whole}
use Rattle.envelope_file.proofs.Starts.{mark_there, held_there}
use Rattle.envelope_record.proofs.read_record.Goals as goal

pub returns-then-read-eq0 : goal.returns-then-read-eq0
returns-then-read-eq0 c =
    let a = c.args.read.now in
    sym (kind_none a.envelope.now a.count (omega arith) c.if-read-eq0.true)

pub returns-then-left-eq0 : goal.returns-then-left-eq0
returns-then-left-eq0 c =
    let a = c.args.read.now in
    sym (kind_end a.envelope.now a.count (omega arith) (omega arith))

pub returns-then-left-eq1 : goal.returns-then-left-eq1
returns-then-left-eq1 c =
    let a = c.args.read.now in
    sym (kind_single a.envelope.now a.count (omega arith))

pub returns-then-left-lt42 : goal.returns-then-left-lt42
returns-then-left-lt42 c =
    let b = c in
    let r = c.args.read.now in
    let file = r.envelope.now in
    let k = r.count in
    let held = sym (held_there file k r.end r.here) ∙ sym b.marked.ensures ∙ b.if-marked.true in
    sym (held_short file k (omega arith) (omega arith) held (omega arith))

pub returns-then-marked : goal.returns-then-marked
returns-then-marked c =
    let b = c in
    let r = c.args.read.now in
    let file = r.envelope.now in
    let k = r.count in
    let held = sym (held_there file k r.end r.here) ∙ sym b.marked.ensures ∙ b.if-marked.true in
    c.read_held.ensures ∙ sym (held_whole file k (omega arith) (omega arith) held (omega arith))

pub returns-then-left-lt11 : goal.returns-then-left-lt11
returns-then-left-lt11 c =
    let b = c in
    let r = c.args.read.now in
    let file = r.envelope.now in
    let k = r.count in
    let held = sym (held_there file k r.end r.here) ∙ sym b.marked.ensures ∙ b.if-marked.false in
    let under = sym (mark_there file k r.end r.here KD) ∙ sym b.marked-2.ensures ∙ b.if-marked-2.true in
    sym (under_short file k (omega arith) (omega arith) held under (omega arith))

pub returns-then-marked-2 : goal.returns-then-marked-2
returns-then-marked-2 c =
    let b = c in
    let r = c.args.read.now in
    let file = r.envelope.now in
    let k = r.count in
    let held = sym (held_there file k r.end r.here) ∙ sym b.marked.ensures ∙ b.if-marked.false in
    let under = sym (mark_there file k r.end r.here KD) ∙ sym b.marked-2.ensures ∙ b.if-marked-2.true in
    c.read_under.ensures ∙ sym (under_whole file k (omega arith) (omega arith) held under (omega arith))

pub returns : goal.returns
returns c =
    let r = c.args.read.now in
    let file = r.envelope.now in
    let k = r.count in
    let held = sym (held_there file k r.end r.here) ∙ sym c.marked.ensures ∙ c.if-marked.false in
    let under = sym (mark_there file k r.end r.here KD) ∙ sym c.marked-2.ensures ∙ c.if-marked-2.false in
    sym (kind_foreign file k (omega arith) (omega arith) held under)
