-- `roster_entry::read_short` meets its contract: each answer by the tests that led there.
use Rattle.std.proofs.Common.{◌-◌, sym, ◌∙◌, length, rules}
use Rattle.roster_file.specs.File.{number_in}
use Rattle.roster_file.specs.declared.Entry.TheVariants.{Hold, Release, Withdraw}
use Rattle.roster_entry.proofs.OneEntry.{whole_is, hold_read, release_read, withdraw_read, foreign}
use Rattle.roster_entry.proofs.read_short.Goals as goal

pub returns-then-marked : goal.returns-then-marked
returns-then-marked c =
    let f = c.args.file.now in
    whole_is (Hold (number_in f c.args.at)) c.read_unnamed.ensures (λ e read. search rules)
    ∙ hold_read f c.args.at (length f - c.args.at) (sym c.marked.ensures ∙ c.if-marked.true)

pub returns-then-marked-2 : goal.returns-then-marked-2
returns-then-marked-2 c =
    let f = c.args.file.now in
    whole_is (Release (number_in f c.args.at)) c.read_unnamed-then-marked-2.ensures (λ e read. search rules)
    ∙ release_read f c.args.at (length f - c.args.at) (sym c.marked.ensures ∙ c.if-marked.false) (sym c.marked-2.ensures ∙ c.if-marked-2.true)

pub returns-then-marked-3 : goal.returns-then-marked-3
returns-then-marked-3 c =
    let f = c.args.file.now in
    whole_is (Withdraw (number_in f c.args.at)) c.read_unnamed-then-marked-3.ensures (λ e read. search rules)
    ∙ withdraw_read f c.args.at (length f - c.args.at) (sym c.marked.ensures ∙ c.if-marked.false) (sym c.marked-2.ensures ∙ c.if-marked-2.false) (sym c.marked-3.ensures ∙ c.if-marked-3.true)

pub returns : goal.returns
returns c =
    let f = c.args.file.now in
    foreign f c.args.at (length f - c.args.at) (sym c.marked.ensures ∙ c.if-marked.false) (sym c.marked-2.ensures ∙ c.if-marked-2.false) (sym c.marked-3.ensures ∙ c.if-marked-3.false)
