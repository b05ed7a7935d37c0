-- `roster_entry::read_entry` meets its contract: each answer by the tests that led there.
use Rattle.std.proofs.Common.{◌-◌, sym, ◌∙◌, length, rules, arith}
use Rattle.roster_file.specs.File.{number_in, target_in}
use Rattle.roster_file.specs.declared.Entry.TheVariants.{Join, Move}
use Rattle.roster_entry.proofs.OneEntry.{whole_is, join_read, move_read, unnamed_read, entry_single, entry_marked}
use Rattle.roster_entry.proofs.read_entry.Goals as goal

pub returns-then-file-at-lt2 : goal.returns-then-file-at-lt2
returns-then-file-at-lt2 c = entry_single c.args.policy.now c.args.labels c.args.file.now c.args.at (omega arith)

pub returns-then-marked : goal.returns-then-marked
returns-then-marked c =
    let a = c.args in
    let p = a.policy.now in
    let f = a.file.now in
    whole_is (Join (number_in f a.at) (target_in p a.labels f a.at)) c.read_named.ensures (λ e read. search rules)
    ∙ join_read f a.at (length f - a.at) p a.labels (sym c.marked.ensures ∙ c.if-marked.true) ∙ entry_marked p a.labels f a.at (omega arith)

pub returns-then-marked-2 : goal.returns-then-marked-2
returns-then-marked-2 c =
    let a = c.args in
    let p = a.policy.now in
    let f = a.file.now in
    whole_is (Move (number_in f a.at) (target_in p a.labels f a.at)) c.read_named-then-marked-2.ensures (λ e read. search rules)
    ∙ move_read f a.at (length f - a.at) p a.labels (sym c.marked.ensures ∙ c.if-marked.false) (sym c.marked-2.ensures ∙ c.if-marked-2.true) ∙ entry_marked p a.labels f a.at (omega arith)

pub returns : goal.returns
returns c =
    let a = c.args in
    let p = a.policy.now in
    let f = a.file.now in
    c.read_short.ensures ∙ unnamed_read f a.at (length f - a.at) p a.labels (sym c.marked.ensures ∙ c.if-marked.false) (sym c.marked-2.ensures ∙ c.if-marked-2.false)
    ∙ entry_marked p a.labels f a.at (omega arith)
