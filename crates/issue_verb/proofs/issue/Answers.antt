-- `issue_verb::issue` meets its contract: the number and the length are those that `issue` answers, and the length lies within the buffer.
use lib.ListN.{length, take}
use lib.Seq.{length-take-le}
use mathlib.Core.Path.{sym}
use Rattle.std.proofs.Common.{rules}
use Rattle.fingerprint.specs.Fingerprint.{fingerprint_of}
use Rattle.issuer_answers.proofs.Zeros.{issued_within}
use Rattle.lines.specs.Lines.{issued_text}
use Rattle.new_file.proofs.Keeping.{saved_said}
use Rattle.outcomes.proofs.Ending.{said_done, said_printed}
use Rattle.issue_verb.proofs.Told.{issue_refused, issue_answered}
use Rattle.issue_verb.proofs.issue.Goals as goal

pub returns-then-issued-ne0 : goal.returns-then-issued-ne0
returns-then-issued-ne0 c =
    let issued = c.issue-issued in
    let ends = said_printed _ _ c.print.ensures c.ended_with.ensures.1 in
    rw c.in-Some.is (issue_refused _ _ _ _ _ issued.result c.print.result issued.ensures.0 c.if-issued-ne0.true ends)

pub slice_bounds-envelope-end : goal.slice_bounds-envelope-end
slice_bounds-envelope-end c = let w = c.issue-issued in
    issued_within _ _ _ _ _ w.result _ w.ensures.0 w.ensures.1

pub slice_bounds-envelope-end-2 : goal.slice_bounds-envelope-end-2
slice_bounds-envelope-end-2 c = let w = c.issue-issued in
    sym (length-take-le w.result.length w.new.envelope (issued_within _ _ _ _ _ w.result _ w.ensures.0 w.ensures.1))

pub returns : goal.returns
returns c =
    let w = c.issue-issued in
    let envelope = take w.result.length w.new.envelope in
    let whole = sym (length-take-le w.result.length w.new.envelope (issued_within _ _ _ _ _ w.result _ w.ensures.0 w.ensures.1)) in
    let text = issued_text (length envelope) (fingerprint_of c.in-Some.root.now).bytes c.args.option in
    let told = said_done 0 text c.keep.result (λ d. let k = c.keep.ensures in let said = k.2 d in saved_said k.0 (length envelope) c.keep.result (λ n. issued_text n (fingerprint_of c.in-Some.root.now).bytes c.args.option) k.1 (search rules) d) in
    rw c.in-Some.is (issue_answered _ _ _ _ _ w.result c.keep.result w.ensures.0 c.if-issued-ne0.false envelope whole told)
