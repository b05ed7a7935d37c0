-- `name_form::well_formed` meets its contract. Invariant: the name is well formed exactly when its rest is, after what was read.
use mathlib.Core.Path.{sym, ◌∙◌}
use native.Mathlib.Omega.{arith}
use lib.ListN.{drop_of_length-le}
use Rattle.name_form.proofs.Names.{rest_start, rest_end, rest_sign, rest_late, rest_space, rest_refused}
use Rattle.name_form.proofs.well_formed.Goals as goal
use Rattle.name_form.proofs.well_formed.Goals.{in-Letter-2, in-Space}

pub loop-byte-init : goal.loop-byte-init
loop-byte-init c = rest_start c.args.name.now

pub returns-in-Letter : goal.returns-in-Letter
returns-in-Letter c =
    let l = c.loop-byte in
    sym (l.invariant ∙ rest_late c.args.name.now l.byte-index (omega arith) c.class_of.result c.class_of.ensures l.some l.padded c.in-Letter.is c.if-padded.true)

pub returns-in-Refused : goal.returns-in-Refused
returns-in-Refused c =
    let l = c.loop-byte in
    sym (l.invariant ∙ rest_refused c.args.name.now l.byte-index (omega arith) c.class_of.result c.class_of.ensures l.some l.padded c.in-Refused.is)

pub loop-byte-preserved : goal.loop-byte-preserved
loop-byte-preserved c =
    let l = c.loop-byte in
    elim c.match-class_of.branch [
      | in-Letter-2 w ↦
          rw (w.some-is, w.padded-is) (l.invariant ∙ rest_sign c.args.name.now l.byte-index (omega arith) c.class_of.result c.class_of.ensures l.some l.padded w.in-Letter.is w.if-padded.false)
      | in-Space w ↦ rw (w.some-is, w.padded-is) (l.invariant ∙ rest_space c.args.name.now l.byte-index (omega arith) c.class_of.result c.class_of.ensures l.some l.padded w.in-Space.is)
    ]

pub returns : goal.returns
returns c =
    let l = c.loop-byte in
    sym (l.invariant ∙ rw (drop_of_length-le c.args.name.now {i = l.byte-index} (omega arith), rest_end))
