-- `envelope::read_records` meets its contract. Invariant: the file's answer and count are those of its rest, after the records read.
use mathlib.Core.Path.{sym, ◌∙◌}
use Rattle.envelope_records.proofs.Kept.{next_held, next_under}
use Rattle.envelope_file.proofs.Reading.{reading_start, reading_held, reading_under, reading_end, reading_refused, counted_end, counted_refused}
use Rattle.envelope.proofs.read_records.Goals as goal
use Rattle.envelope.proofs.read_records.Goals.{in-End, in-Refused}

pub loop-own-init : goal.loop-own-init
loop-own-init c =
    let e = c.none-read.ensures in
    (e.0, rw (e.0, e.1, e.2, e.3) (reading_start c.args.envelope.now))

pub push-requires : goal.push-requires
push-requires c = let r = c.loop-own.read.front in next_held r.envelope.now r.count (sym c.in-Held.ensures)

pub loop-own-preserved-in-Held : goal.loop-own-preserved-in-Held
loop-own-preserved-in-Held c =
    let l = c.loop-own in
    let r = l.read.front in
    let places = l.read.places in
    let e = c.push.ensures in
    (e.0 ∙ l.invariant.0, rw (e.0, e.1, e.2, e.3) (reading_held r.envelope.now r.starts places r.count r.located.few l.invariant.1 r.end r.here (sym c.in-Held.ensures)))

pub push-requires-in-Under : goal.push-requires-in-Under
push-requires-in-Under c = let r = c.loop-own.read.front in next_under r.envelope.now r.count (sym c.in-Under.ensures)

pub loop-own-preserved : goal.loop-own-preserved
loop-own-preserved c =
    let l = c.loop-own in
    let r = l.read.front in
    let places = l.read.places in
    let e = c.push-in-Under.ensures in
    (e.0 ∙ l.invariant.0, rw (e.0, e.1, e.2, e.3) (reading_under r.envelope.now r.starts places r.count r.located.few l.invariant.1 r.end r.here (sym c.in-Under.ensures)))

pub returns : goal.returns
returns c =
    let l = c.loop-own in
    let r = l.read.front in
    let places = l.read.places in
    let f = r.envelope.now in
    elim c.match-read_record.branch [
      | in-End w ↦
          let e = sym w.in-End.ensures in
          rw (← l.invariant.0, w.refusal-is)
          (reading_end f r.starts places r.count r.located.few l.invariant.1 e, counted_end f r.starts places r.count r.located.few l.invariant.1 e)
      | in-Refused w ↦
          let e = sym w.in-Refused.ensures in
          let n = w.in-Refused.number in
          rw (← l.invariant.0, w.refusal-is)
          (reading_refused f r.starts places r.count r.located.few l.invariant.1 n e, counted_refused f r.starts places r.count r.located.few l.invariant.1 n e)
    ]
