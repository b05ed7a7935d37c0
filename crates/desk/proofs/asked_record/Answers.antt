-- `desk::asked_record` meets its contract: no record for a name of another length, else the search's.
use mathlib.Core.Path.{sym, ap, ◌∙◌}
use native.Mathlib.Omega.{arith}
use lib.Seq.{take_all}
use Rattle.envelope_file.proofs.Asked.{asked_whole, asked_none}
use Rattle.envelope_file.specs.File.{record_named}
use Rattle.envelope_file.specs.Rows.{other_length}
use Rattle.desk.proofs.asked_record.Goals as goal

pub returns-then-name-ne8 : goal.returns-then-name-ne8
returns-then-name-ne8 c =
    let r = c.args.read.now.front in
    sym ((asked_none r.envelope.now r.count c.args.name.now).1 (other_length c.if-name-ne8.true))

pub returns : goal.returns
returns c =
    let r = c.args.read.now.front in
    let file = r.envelope.now in
    let name = c.args.name.now in
    let eight = c.if-name-ne8.false in
    c.find_record.ensures ∙ ap (record_named file r.count) (c.read_name.ensures ∙ take_all 8 name (omega arith))
    ∙ sym (asked_whole file r.count name eight)
