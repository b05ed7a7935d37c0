-- `seal_verb::seal` meets its contract: the number and the length are those that `seal` answers, and the length lies within the buffer.
use lib.ListN.{length, take}
use lib.Seq.{length-take-le}
use mathlib.Core.Path.{sym}
use Rattle.std.proofs.Common.{rules}
use Rattle.fingerprint.specs.Fingerprint.{fingerprint_of}
use Rattle.lines.specs.Lines.{sealed_text}
use Rattle.new_file.proofs.Keeping.{saved_said}
use Rattle.outcomes.proofs.Ending.{said_done, said_printed}
use Rattle.seal_verb.proofs.Told.{seal_refused, seal_answered, sealed_within}
use Rattle.seal_verb.proofs.seal.Goals as goal

pub returns-then-sealed-ne0 : goal.returns-then-sealed-ne0
returns-then-sealed-ne0 c =
    let sealed = c.seal-sealed in
    let ends = said_printed _ _ c.print.ensures c.ended_with.ensures.1 in
    rw c.in-Some.is (seal_refused _ _ _ _ _ _ sealed.result c.print.result sealed.ensures.0 c.if-sealed-ne0.true ends)

pub slice_bounds-file-end : goal.slice_bounds-file-end
slice_bounds-file-end c = let w = c.seal-sealed in
    sealed_within _ _ _ _ _ _ w.result _ w.ensures.0 w.ensures.1

pub slice_bounds-file-end-2 : goal.slice_bounds-file-end-2
slice_bounds-file-end-2 c = let w = c.seal-sealed in
    sym (length-take-le w.result.length w.new.out (sealed_within _ _ _ _ _ _ w.result _ w.ensures.0 w.ensures.1))

pub returns : goal.returns
returns c =
    let w = c.seal-sealed in
    let file = take w.result.length w.new.out in
    let whole = sym (length-take-le w.result.length w.new.out (sealed_within _ _ _ _ _ _ w.result _ w.ensures.0 w.ensures.1)) in
    let text = sealed_text (length file) (fingerprint_of c.args.root.now).bytes c.args.option in
    let told = said_done 0 text c.keep.result (λ d. let k = c.keep.ensures in let said = k.2 d in saved_said k.0 (length file) c.keep.result (λ n. sealed_text n (fingerprint_of c.args.root.now).bytes c.args.option) k.1 (search rules) d) in
    rw c.in-Some.is (seal_answered _ _ _ _ _ _ w.result c.keep.result w.ensures.0 c.if-sealed-ne0.false file whole told)
