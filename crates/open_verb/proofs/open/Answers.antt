-- `open_verb::open` meets its contract: the number and the length are those that `open` answers, and the length lies within the buffer.
use lib.ListN.{length, take}
use lib.Seq.{length-take-le}
use mathlib.Core.Path.{sym}
use Rattle.std.proofs.Common.{rules}
use Rattle.lines.specs.Lines.{opened_text}
use Rattle.new_file.proofs.Keeping.{saved_said}
use Rattle.outcomes.proofs.Ending.{said_done, said_printed}
use Rattle.open_verb.proofs.Told.{open_refused, open_answered, opened_within}
use Rattle.open_verb.proofs.open.Goals as goal

pub returns-then-opened-ne0 : goal.returns-then-opened-ne0
returns-then-opened-ne0 c =
    let opened = c.open-opened in
    let ends = said_printed _ _ c.print.ensures c.ended_with.ensures.1 in
    rw c.in-Some.is (open_refused _ _ opened.result c.print.result opened.ensures.0 c.if-opened-ne0.true ends)

pub slice_bounds-text-end : goal.slice_bounds-text-end
slice_bounds-text-end c = let w = c.open-opened in
    opened_within _ _ _ w.result _ w.ensures.0 w.ensures.1

pub slice_bounds-text-end-2 : goal.slice_bounds-text-end-2
slice_bounds-text-end-2 c = let w = c.open-opened in
    sym (length-take-le w.result.length w.new.out (opened_within _ _ _ w.result _ w.ensures.0 w.ensures.1))

pub returns : goal.returns
returns c =
    let w = c.open-opened in
    let text = take w.result.length w.new.out in
    let whole = sym (length-take-le w.result.length w.new.out (opened_within _ _ _ w.result _ w.ensures.0 w.ensures.1)) in
    let told = said_done 0 (opened_text (length text)) c.keep.result (λ d. let k = c.keep.ensures in let said = k.2 d in saved_said k.0 (length text) c.keep.result opened_text k.1 (search rules) d) in
    rw c.in-Some.is (open_answered _ _ w.result c.keep.result w.ensures.0 c.if-opened-ne0.false text whole told)
